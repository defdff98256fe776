use Rattle.std.proofs.Common.{ℕ, ◌*◌, ap, arith}
use Rattle.p3_util_fast.proofs.GridLemmas.Distances.{IsRowDistance-reversed, last_fits, three}
use Rattle.p3_util_fast.proofs.grid.Grid.row_distance.Goals as goal

pub overflow_sub-self : goal.overflow_sub-self
overflow_sub-self c = three c.args.self.digits (omega (arith, c.requires.tile))

pub returns-clause-rows : goal.returns-clause-rows
returns-clause-rows c = IsRowDistance-reversed c.args.self _ (ap (λ (n : ℕ). c.args.self.stride * n) c.pow2.ensures)

pub returns-clause-room : goal.returns-clause-room
returns-clause-room c = last_fits c.args.self _ c.args._first c.requires.fits (IsRowDistance-reversed c.args.self _ (ap (λ (n : ℕ). c.args.self.stride * n) c.pow2.ensures)) c.requires.tile

pub overflow_mul-result : goal.overflow_mul-result
overflow_mul-result c = omega (arith, last_fits c.args.self _ c.args._first c.requires.fits (IsRowDistance-reversed c.args.self _ (ap (λ (n : ℕ). c.args.self.stride * n) c.pow2.ensures)) c.requires.tile)

-- The strip is cut into the rows of its squares and the rows below.
use Rattle.std.proofs.Common.{◌≡◌, ◌+◌, arith}
use Rattle.p3_util_kernels.proofs.TransposeLemmas.Region.{IsRegionTransposed-cut}
use Rattle.p3_util_fast.proofs.strips.SquaresPutRegion.put.Goals as goal

pub returns-then-row-region-clause-transposed : goal.returns-then-row-region-clause-transposed
returns-then-row-region-clause-transposed g c =
    IsRegionTransposed-cut c.args.matrix.width c.args.matrix.height (g.R.Source.items c.args.matrix.source) c.args.region _ _ _ _ _
    c.requires.ready.inside.rows_inside c.cut_rows.ensures.cut c.put-out.ensures.transposed c.put-then-row-region.ensures.transposed

pub returns-else-row-region-clause-transposed : goal.returns-else-row-region-clause-transposed
returns-else-row-region-clause-transposed g c =
    let end : c.args.region.row_start + c.in_squares.result ≡ c.args.region.row_end = omega (arith, c.in_squares.ensures.inside, c.rows.ensures) in
    rw (c.cut_rows.ensures.upper, end) at c.put-out.ensures.transposed

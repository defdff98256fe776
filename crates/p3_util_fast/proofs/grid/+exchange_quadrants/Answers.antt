-- The quadrants make the square, and their pairs are those of the square.
use Rattle.std.proofs.Common.{◌≡◌, ◌+◌, ◌-◌, refl, arith, rules}
use Rattle.p3_util_fast.proofs.GridLemmas.Parts.{SwapsInGrid-quadrants}
use Rattle.p3_util_kernels.proofs.BitsLemmas.Logarithms.{clog-above, clog-rest, clog-tiles}
use Rattle.p3_util_kernels.proofs.BitsLemmas.Pairs.{pairs-add}
use Rattle.p3_util_fast.proofs.grid.+exchange_quadrants.Goals as goal

-- both parts of the side nest less deep
pub exchange_quadrants-m-requires : goal.exchange_quadrants-m-requires
exchange_quadrants-m-requires g t c =
    let half = c.upper_half-half.ensures in
    let less = clog-tiles c.args.size _ (omega arith) half.whole half.up in
    λ κs k. (omega (arith, c.decreases, less, clog-above c.args.size 3 (omega arith)), grind (arith, rules, c.requires.ready))

pub exchange_quadrants-requires : goal.exchange_quadrants-requires
exchange_quadrants-requires g t c =
    let half = c.upper_half-half.ensures in
    let less = clog-rest c.args.size _ (omega arith) half.whole half.half half.up in
    λ κs k. (omega (arith, c.decreases, less, clog-above c.args.size 3 (omega arith)), grind (arith, rules, c.requires.ready))

pub returns-clause-exchanged : goal.returns-clause-exchanged
returns-clause-exchanged g t c =
    let half = c.upper_half-half.result in
    let end : c.args.start + half + (c.args.size - half) ≡ c.args.start + c.args.size = omega arith in
    SwapsInGrid-quadrants c.args.grid _ c.requires.ready _ (c.args.start + half) _ _ _ _ _ (omega arith) (omega arith) c.exchange_quadrants-m.ensures.exchanged
    c.exchange_region-m.ensures.exchanged (rw end at c.exchange_quadrants.ensures.exchanged)

pub returns-clause-holder : goal.returns-clause-holder
returns-clause-holder g t c =
    let half = c.upper_half-half.result in
    let w = c.args.grid.width in
    let whole : half + (c.args.size - half) ≡ c.args.size = omega arith in
    let parts = rw whole at (pairs-add half (c.args.size - half)) in
    let rows : c.args.start + half - c.args.start ≡ half = omega arith in
    let cols : c.args.start + c.args.size - (c.args.start + half) ≡ c.args.size - half = omega arith in
    g.met.M.Places.same_holder_trans _ _ _ _ _ _ (g.met.M.Places.same_holder_trans _ _ _ _ _ _ c.exchange_quadrants-m.ensures.holder (rw (rows, cols) at c.exchange_region-m.ensures.holder) refl) c.exchange_quadrants.ensures.holder (rw parts (omega arith))

-- Each distance is that of one digit.
use Rattle.std.proofs.Common.{ℕ, ◌≡◌, ◌+◌, ◌<◌, arith}
use Rattle.p3_util_fast.specs.Grid.{row_place}
use Rattle.p3_util_fast.proofs.GridLemmas.Distances.{eight}
use Rattle.p3_util_fast.proofs.grid.Grid.tile_rows.Goals as goal

pub returns : goal.returns
returns c x y whole room is =
    let at : (t : ℕ) → t < 8 → row_place c.args.self (x + t) ≡ _ = λ t less. c.row_distance-four.ensures.rows x t whole room less in
    let plain : x + 0 ≡ x = omega arith in
    eight (λ t. row_place c.args.self (x + t) + y) _ _ _ _ _ _ _ _
    (omega (arith, at 0 (omega arith))) (omega (arith, at 1 (omega arith))) (omega (arith, at 2 (omega arith))) (omega (arith, at 3 (omega arith)))
    (omega (arith, at 4 (omega arith))) (omega (arith, at 5 (omega arith))) (omega (arith, at 6 (omega arith))) (omega (arith, at 7 (omega arith)))

use Rattle.std.proofs.Common.{◌≡◌, ℕ, ◌+◌, ◌-◌, ◌*◌}
use Rattle.p3_util_fast.specs.Grid.{SwapsInGrid}
use Rattle.p3_util_kernels.specs.SwapCounts.{square_swaps}
use Rattle.p3_util_fast.proofs.grid.exchange_on_diagonal.Given as goal

-- the rows before this one are exchanged, and the others still have the exchanges of a smaller square
abbrev pub invariant-loop-row : goal.invariant-loop-row
invariant-loop-row g l = record {
  exchanged : SwapsInGrid l.grid (record { row_start = l.start; row_end = l.row; col_start = l.start; col_end = l.end }) (g.M.Places.items l.initial.m) (g.M.Places.items l.m);
  count : ℕ;
  left : count + square_swaps (l.end - l.row) ≡ square_swaps l.size;
  holder : g.M.Places.same_holder (l.grid.width * count) l.initial.m l.m;
}

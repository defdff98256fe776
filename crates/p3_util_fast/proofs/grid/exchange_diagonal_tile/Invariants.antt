use Rattle.std.proofs.Common.{◌≡◌, ℕ, ◌+◌, ◌-◌, ◌*◌}
use Rattle.p3_util_fast.specs.Grid.{SwapsInGrid}
use Rattle.p3_util_kernels.specs.SwapCounts.{square_swaps}
use Rattle.p3_util_fast.proofs.grid.exchange_diagonal_tile.Given as goal

-- the rows before this one are exchanged, and the others still have the exchanges of a smaller square
abbrev pub invariant-loop-row : goal.invariant-loop-row
invariant-loop-row g l = record {
  exchanged : SwapsInGrid l.grid (record { row_start = l.start; row_end = l.start + l.row; col_start = l.start; col_end = l.start + 8 }) (g.M.Places.items l.initial.m) (g.M.Places.items l.m);
  count : ℕ;
  left : count + square_swaps (8 - l.row) ≡ square_swaps 8;
  holder : g.M.Places.same_holder (l.grid.width * count) l.initial.m l.m;
}

-- in this row, the places before `col` are exchanged
abbrev pub invariant-loop-col : goal.invariant-loop-col
invariant-loop-col g l = record {
  exchanged : SwapsInGrid l.grid (record { row_start = l.start + l.row; row_end = l.start + l.row + 1; col_start = l.start + l.row + 1; col_end = l.start + l.col }) (g.M.Places.items l.initial.m) (g.M.Places.items l.m);
  holder : g.M.Places.same_holder (l.grid.width * (l.col - (l.row + 1))) l.initial.m l.m;
}

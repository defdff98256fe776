use Rattle.std.proofs.Common.{◌+◌, ◌-◌, ◌*◌}
use Rattle.p3_util_fast.specs.Grid.{SwapsInGrid}
use Rattle.p3_util_fast.proofs.grid.exchange_row.Given as goal

-- the places before `col` are exchanged
abbrev pub invariant-loop-col : goal.invariant-loop-col
invariant-loop-col g l = record {
  exchanged : SwapsInGrid l.grid (record l.fn.region { row_start = l.row; row_end = l.row + 1; col_end = l.col }) (g.M.Places.items l.initial.m) (g.M.Places.items l.m);
  holder : g.M.Places.same_holder (l.grid.width * (l.col - l.fn.region.col_start)) l.initial.m l.m;
}

use Rattle.std.proofs.Common.{◌-◌, ◌*◌}
use Rattle.p3_util_fast.specs.Grid.{SwapsInGrid}
use Rattle.p3_util_kernels.specs.Region.{cols_of}
use Rattle.p3_util_fast.proofs.grid.exchange_leaf.Given as goal

-- the rows before this one are exchanged
abbrev pub invariant-loop-row : goal.invariant-loop-row
invariant-loop-row g l = record {
  exchanged : SwapsInGrid l.grid (record l.region { row_end = l.row }) (g.M.Places.items l.initial.m) (g.M.Places.items l.m);
  holder : g.M.Places.same_holder (l.grid.width * ((l.row - l.region.row_start) * cols_of l.region)) l.initial.m l.m;
}

use Rattle.std.proofs.Common.{◌-◌, ◌*◌}
use Rattle.p3_util_fast.specs.Grid.{SwapsInGrid}
use Rattle.p3_util_kernels.specs.Region.{rows_of}
use Rattle.p3_util_fast.proofs.grid.exchange_leaf_tiles.Given as goal

-- the columns of tiles before this one are exchanged
abbrev pub invariant-loop-tile : goal.invariant-loop-tile
invariant-loop-tile g l = record {
  exchanged : SwapsInGrid l.grid (record l.region { col_end = l.tile * 8 }) (g.M.Places.items l.initial.m) (g.M.Places.items l.m);
  holder : g.M.Places.same_holder (rows_of l.region * (l.tile * 8 - l.region.col_start)) l.initial.m l.m;
}

use Rattle.std.proofs.Common.{◌≡◌, ◌+◌, ◌-◌, ◌*◌}
use Rattle.p3_util_fast.specs.Grid.{SwapsInGrid, row_place}
use Rattle.p3_util_fast.proofs.grid.exchange_tile_column.Given as goal

-- the tiles before this one are exchanged, and `first` is where its first row begins
abbrev pub invariant-loop-tile : goal.invariant-loop-tile
invariant-loop-tile g l = record {
  first : l.first ≡ row_place l.grid (l.tile * 8);
  exchanged : SwapsInGrid l.grid (record l.fn.region { row_end = l.tile * 8; col_start = l.col; col_end = l.col + 8 }) (g.M.Places.items l.initial.m) (g.M.Places.items l.m);
  holder : g.M.Places.same_holder ((l.tile * 8 - l.fn.region.row_start) * 8) l.initial.m l.m;
}

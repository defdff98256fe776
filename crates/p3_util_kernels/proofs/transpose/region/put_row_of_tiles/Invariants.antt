use Rattle.std.proofs.Common.{◌≡◌, ◌+◌, ◌*◌}
use Rattle.p3_util_kernels.specs.Region.{IsRegionTransposed, items_of}
use Rattle.p3_util_kernels.specs.Steps.{counted}
use Rattle.p3_util_kernels.proofs.transpose.region.put_row_of_tiles.Given as goal

-- the tiles before this one are put
abbrev pub invariant-loop-k : goal.invariant-loop-k
invariant-loop-k g l = let done = record l.tiles { col_end = l.tiles.col_start + 16 * l.k } in record {
  transposed : IsRegionTransposed done l.matrix.width l.matrix.height (g.R.Source.items l.matrix.source) (g.C.Cells.items l.fn.out.holder) (g.C.Cells.items l.out.holder);
  count : l.out.count ≡ counted l.fn.out.count (items_of done);
  holder : g.C.Cells.same_holder (items_of done) l.fn.out.holder l.out.holder;
}

use Rattle.std.proofs.Common.{◌+◌, ◌*◌}
use Rattle.p3_util_kernels.specs.Region.{IsRegionTransposed}
use Rattle.p3_util_kernels.proofs.transpose.tile.put_rows_of_blocks.Given as goal

-- the rows of blocks before this one are put
abbrev pub invariant-loop-k : goal.invariant-loop-k
invariant-loop-k g l = record {
  transposed : IsRegionTransposed (record l.tile { row_end = l.tile.row_start + 4 * l.k }) l.matrix.width l.matrix.height (g.R.Source.items l.matrix.source)
      (g.C.Cells.items l.fn.cells) (g.C.Cells.items l.cells);
  holder : g.C.Cells.same_holder (64 * l.k) l.fn.cells l.cells;
}

use Rattle.std.proofs.Common.{◌+◌, ◌*◌}
use Rattle.p3_util_kernels.specs.Region.{IsRegionTransposed}
use Rattle.p3_util_kernels.proofs.transpose.tile.put_block.Given as goal

-- the columns before this one are put
abbrev pub invariant-loop-k : goal.invariant-loop-k
invariant-loop-k g l = record {
  transposed : IsRegionTransposed (record l.fn.block { col_end = l.fn.block.col_start + l.k }) l.matrix.width l.matrix.height (g.R.Source.items l.matrix.source)
      (g.C.Cells.items l.fn.cells) (g.C.Cells.items l.cells);
  holder : g.C.Cells.same_holder (4 * l.k) l.fn.cells l.cells;
}

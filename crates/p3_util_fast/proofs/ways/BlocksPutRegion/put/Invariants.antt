use Rattle.std.proofs.Common.{◌+◌, ◌*◌}
use Rattle.p3_util_kernels.specs.Region.{IsRegionTransposed, cols_of}
use Rattle.p3_util_fast.proofs.ways.BlocksPutRegion.put.Given as goal

-- the first blocks are put
abbrev pub invariant-loop-part : goal.invariant-loop-part
invariant-loop-part g l = record {
  transposed : IsRegionTransposed (record l.region { row_end = l.region.row_start + l.part * l.rows }) l.matrix.width l.matrix.height
      (g.R.Source.items l.matrix.source) (g.M.Cells.items l.fn.out) (g.M.Cells.items l.out);
  holder : g.M.Cells.same_holder (l.part * l.rows * cols_of l.region) l.fn.out l.out;
}

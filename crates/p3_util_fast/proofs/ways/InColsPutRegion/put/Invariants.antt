use Rattle.std.proofs.Common.{◌+◌, ◌*◌}
use Rattle.p3_util_kernels.specs.Region.{IsRegionTransposed, rows_of}
use Rattle.p3_util_fast.proofs.ways.InColsPutRegion.put.Given as goal

-- the columns of the first parts are put
abbrev pub invariant-loop-part : goal.invariant-loop-part
invariant-loop-part g l = record {
  transposed : IsRegionTransposed (record l.region { col_end = l.region.col_start + l.part * l.cols }) l.matrix.width l.matrix.height
      (g.R.Source.items l.matrix.source) (g.M.Cells.items l.fn.out) (g.M.Cells.items l.out);
  holder : g.M.Cells.same_holder (rows_of l.region * (l.part * l.cols)) l.fn.out l.out;
}

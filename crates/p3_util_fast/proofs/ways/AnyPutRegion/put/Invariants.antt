use Rattle.std.proofs.Common.{◌-◌, ◌*◌}
use Rattle.p3_util_kernels.specs.Region.{IsRegionTransposed, rows_of}
use Rattle.p3_util_fast.proofs.ways.AnyPutRegion.put.Given as goal

-- the columns before `col` are put
abbrev pub invariant-loop-col : goal.invariant-loop-col
invariant-loop-col g l = record {
  transposed : IsRegionTransposed (record l.region { col_end = l.col }) l.matrix.width l.matrix.height (g.R.Source.items l.matrix.source)
      (g.M.Cells.items l.fn.out) (g.M.Cells.items l.out);
  holder : g.M.Cells.same_holder (rows_of l.region * (l.col - l.region.col_start)) l.fn.out l.out;
}

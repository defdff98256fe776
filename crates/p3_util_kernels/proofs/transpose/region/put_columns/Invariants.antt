use Rattle.std.proofs.Common.{◌≡◌, ◌-◌, ◌*◌}
use Rattle.p3_util_kernels.specs.Region.{IsRegionTransposed, rows_of}
use Rattle.p3_util_kernels.specs.Steps.{counted}
use Rattle.p3_util_kernels.proofs.transpose.region.put_columns.Given as goal

abbrev pub invariant-loop-x : goal.invariant-loop-x
invariant-loop-x g l = record {
  transposed : IsRegionTransposed (record l.region { col_end = l.x }) l.matrix.width l.matrix.height (g.R.Source.items l.matrix.source) (g.C.Cells.items l.fn.out.holder) (g.C.Cells.items l.out.holder);
  count : l.out.count ≡ counted l.fn.out.count (rows_of l.region * (l.x - l.region.col_start));
  holder : g.C.Cells.same_holder (rows_of l.region * (l.x - l.region.col_start)) l.fn.out.holder l.out.holder;
}

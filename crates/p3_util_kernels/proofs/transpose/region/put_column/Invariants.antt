use Rattle.std.proofs.Common.{◌≡◌, ◌-◌}
use Rattle.p3_util_kernels.specs.Region.{IsRegionTransposed}
use Rattle.p3_util_kernels.specs.Steps.{counted}
use Rattle.p3_util_kernels.proofs.transpose.region.put_column.Given as goal

abbrev pub invariant-loop-y : goal.invariant-loop-y
invariant-loop-y g l = record {
  transposed : IsRegionTransposed (record l.column { row_end = l.y }) l.matrix.width l.matrix.height (g.R.Source.items l.matrix.source) (g.C.Cells.items l.fn.out.holder) (g.C.Cells.items l.out.holder);
  count : l.out.count ≡ counted l.fn.out.count (l.y - l.column.row_start);
  holder : g.C.Cells.same_holder (l.y - l.column.row_start) l.fn.out.holder l.out.holder;
}

use Rattle.std.proofs.Common.{◌-◌, ◌*◌, ◌≤◌}
use Rattle.p3_util_kernels.specs.Region.{IsRegionTransposed, cols_of}
use Rattle.p3_util_fast.proofs.ways.InRowsPutRegion.put.Given as goal

-- the rows before `row` are put
abbrev pub invariant-loop-row : goal.invariant-loop-row
invariant-loop-row g l = record {
  from : l.region.row_start ≤ l.row;
  to : l.row ≤ l.region.row_end;
  transposed : IsRegionTransposed (record l.region { row_end = l.row }) l.matrix.width l.matrix.height (g.R.Source.items l.matrix.source)
      (g.M.Cells.items l.fn.out) (g.M.Cells.items l.out);
  holder : g.M.Cells.same_holder ((l.row - l.region.row_start) * cols_of l.region) l.fn.out l.out;
}

abbrev pub decreases-loop-row : goal.decreases-loop-row
decreases-loop-row g l = l.region.row_end - l.row

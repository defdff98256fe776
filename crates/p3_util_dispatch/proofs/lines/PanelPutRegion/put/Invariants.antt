use Rattle.std.proofs.Common.{◌+◌, ◌-◌}
use Rattle.p3_util_dispatch.specs.Lines.{IsPutTo, items_to, limit}
use Rattle.p3_util_kernels.specs.Region.{rows_of}
use Rattle.p3_util_dispatch.proofs.lines.PanelPutRegion.put.Given as goal

-- each column is put as far as `rows_done` rows after the line of its first cell begins
abbrev pub invariant-loop-rows_done : goal.invariant-loop-rows_done
invariant-loop-rows_done g l = record {
  put : IsPutTo l.region (limit l.region l.lines.cells l.lines.before l.step l.rows_done) l.matrix.width l.matrix.height (g.R.Source.items l.matrix.source)
      (g.M.Cells.items l.fn.out) (g.M.Cells.items l.out);
  holder : g.M.Cells.same_holder (items_to l.region (limit l.region l.lines.cells l.lines.before l.step l.rows_done)) l.fn.out l.out;
}

abbrev pub decreases-loop-rows_done : goal.decreases-loop-rows_done
decreases-loop-rows_done g l = rows_of l.region + l.lines.cells - l.rows_done

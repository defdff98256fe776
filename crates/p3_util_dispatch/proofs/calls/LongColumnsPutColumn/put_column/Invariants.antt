use Rattle.std.proofs.Common.{◌-◌, ◌≤◌}
use Rattle.p3_util_fast.specs.Columns.{IsColumnPut}
use Rattle.p3_util_dispatch.proofs.calls.LongColumnsPutColumn.put_column.Given as goal

-- the first t items of the column are put
abbrev pub invariant-loop-t : goal.invariant-loop-t
invariant-loop-t g l = record {
  put : IsColumnPut l.t l.fn.from l.fn.matrix.width l.fn.to (g.R.Source.items l.fn.matrix.source) (g.M.Cells.items l.fn.out) (g.M.Cells.items l.out);
  holder : g.M.Cells.same_holder l.t l.fn.out l.out;
  to : l.t ≤ l.rows;
}

abbrev pub decreases-loop-t : goal.decreases-loop-t
decreases-loop-t g l = l.rows - l.t

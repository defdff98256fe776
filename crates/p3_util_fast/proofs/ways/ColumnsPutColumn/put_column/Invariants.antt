use Rattle.std.proofs.Common.{◌*◌}
use Rattle.p3_util_fast.specs.Columns.{IsColumnPut}
use Rattle.p3_util_fast.specs.declared.ways.TheConstants.{COLUMN_ITEMS}
use Rattle.p3_util_fast.proofs.ways.ColumnsPutColumn.put_column.Given as goal

-- the groups of items before this one are put
abbrev pub invariant-loop-group : goal.invariant-loop-group
invariant-loop-group g l = record {
  put : IsColumnPut (l.group * COLUMN_ITEMS) l.from l.matrix.width l.to (g.R.Source.items l.matrix.source)
      (g.M.Cells.items l.fn.out) (g.M.Cells.items l.out);
  holder : g.M.Cells.same_holder (l.group * COLUMN_ITEMS) l.fn.out l.out;
}

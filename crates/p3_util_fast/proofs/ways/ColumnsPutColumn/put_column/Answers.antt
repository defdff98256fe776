-- Each turn of the loop adds one more group of items to the column. After the loop the rest of the column is added.
use Rattle.std.proofs.Common.{◌≡◌, ◌+◌, ◌-◌, ◌*◌, ◌/◌, arith}
use Rattle.p3_util_fast.proofs.ColumnsLemmas.{HoldsColumn-some, IsColumnPut-more}
use Rattle.p3_util_fast.specs.declared.ways.TheConstants.{COLUMN_ITEMS}
use Rattle.p3_util_fast.proofs.ways.ColumnsPutColumn.put_column.Goals as goal

pub put_column-out-requires : goal.put_column-out-requires
put_column-out-requires g c = record {
  column = HoldsColumn-some c.args.rows _ _ _ _ _ _ (c.loop-group.group * COLUMN_ITEMS) COLUMN_ITEMS (omega (arith, c.loop-group-test.true)) c.loop-group.invariant.put.same_length c.requires.column;
}

pub loop-group-preserved : goal.loop-group-preserved
loop-group-preserved g c =
    let more : (c.loop-group.group + 1) * COLUMN_ITEMS ≡ c.loop-group.group * COLUMN_ITEMS + COLUMN_ITEMS = omega arith in
    record {
      put = rw more (IsColumnPut-more _ _ (c.loop-group.group * COLUMN_ITEMS) COLUMN_ITEMS _ _ _ _ _ c.loop-group.invariant.put c.put_column-out.ensures.put);
      holder = g.met.M.Cells.same_holder_trans _ _ _ _ _ _ c.loop-group.invariant.holder c.put_column-out.ensures.holder (omega arith);
    }

pub put_column-out-requires-then-done-rows : goal.put_column-out-requires-then-done-rows
put_column-out-requires-then-done-rows g c = record {
  column = HoldsColumn-some c.args.rows _ _ _ _ _ _ (c.args.rows / COLUMN_ITEMS * COLUMN_ITEMS) (c.args.rows - c.args.rows / COLUMN_ITEMS * COLUMN_ITEMS) (omega arith) c.loop-group.invariant.put.same_length c.requires.column;
}

pub returns-then-done-rows-clause-put : goal.returns-then-done-rows-clause-put
returns-then-done-rows-clause-put g c =
    let all : c.loop-group.group ≡ c.args.rows / COLUMN_ITEMS = omega (arith, c.loop-group-test.false, c.loop-group.auto.group-end) in
    let whole : c.args.rows / COLUMN_ITEMS * COLUMN_ITEMS + (c.args.rows - c.args.rows / COLUMN_ITEMS * COLUMN_ITEMS) ≡ c.args.rows = omega arith in
    rw whole at
    (IsColumnPut-more _ _ (c.args.rows / COLUMN_ITEMS * COLUMN_ITEMS) _ _ _ _ _ _ (rw all at c.loop-group.invariant.put) c.put_column-out-then-done-rows.ensures.put)

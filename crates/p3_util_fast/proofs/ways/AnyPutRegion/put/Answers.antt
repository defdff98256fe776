-- Each turn of the loop adds one more column to the region.
use Rattle.std.proofs.Common.{◌≡◌, ◌+◌, ◌-◌, arith}
use Rattle.p3_util_fast.proofs.ColumnsLemmas.{HoldsColumn-region, IsRegionTransposed-column}
use Rattle.p3_util_kernels.proofs.TransposeLemmas.Region.{IsCut-cols, IsRegionTransposed-cut}
use Rattle.p3_util_fast.proofs.ways.AnyPutRegion.put.Goals as goal

pub put_column-out-requires : goal.put_column-out-requires
put_column-out-requires g c = record {
  column = rw c.rows.ensures (HoldsColumn-region c.args.region _ c.args.matrix.height c.loop-col.col _ _ _ (omega (arith, c.if-region.false, c.requires.ready.inside.rows_in_order)) c.loop-col-test.true c.loop-col.invariant.transposed.same_length c.requires.ready);
}

pub loop-col-preserved : goal.loop-col-preserved
loop-col-preserved g c =
    let done = record c.args.region { col_end = c.loop-col.col + 1 } in
    let cut = IsCut-cols done c.loop-col.col c.loop-col.auto.col (omega arith) in
    let one : c.loop-col.col + 1 - c.loop-col.col ≡ 1 = omega arith in
    record {
      transposed = IsRegionTransposed-cut c.args.matrix.width c.args.matrix.height (g.R.Source.items c.args.matrix.source) done _ _ _ _ _ c.requires.ready.inside.rows_inside cut
          c.loop-col.invariant.transposed (IsRegionTransposed-column c.args.region _ _ c.loop-col.col _ _ _ c.requires.ready.inside.rows_in_order (rw c.rows.ensures at c.put_column-out.ensures.put));
      holder = g.met.M.Cells.same_holder_trans _ _ _ _ _ _ c.loop-col.invariant.holder c.put_column-out.ensures.holder (omega (arith, c.rows.ensures, rw one at cut.items));
    }

pub returns-clause-transposed : goal.returns-clause-transposed
returns-clause-transposed g c = let end : c.loop-col.col ≡ c.args.region.col_end = omega (arith, c.loop-col-test.false, c.loop-col.auto.col-end, c.requires.ready.inside.cols_in_order) in rw end at c.loop-col.invariant.transposed

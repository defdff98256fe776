-- Each turn of the loop adds one more row to the column.
use Rattle.std.proofs.Common.{◌≡◌, ◌+◌, arith}
use Rattle.p3_util_kernels.proofs.TransposeLemmas.Region.{IsRegionTransposed-rows}
use Rattle.p3_util_kernels.proofs.transpose.region.put_column.Goals as goal

pub loop-y-preserved : goal.loop-y-preserved
loop-y-preserved g c =
    let y = c.loop-y.y in
    record {
      transposed = IsRegionTransposed-rows c.args.column _ _ _ _ _ _ y (y + 1) (omega arith) (omega arith) (omega (arith, c.requires.inside.rows_inside)) c.loop-y.invariant.transposed (rw c.requires.single c.put_item.ensures.transposed);
      count = omega (arith, c.loop-y.invariant.count, c.put_item.ensures.count);
      holder = g.met.C.Cells.same_holder_trans _ _ _ _ _ _ c.loop-y.invariant.holder c.put_item.ensures.holder (omega arith);
    }

pub returns-clause-transposed : goal.returns-clause-transposed
returns-clause-transposed g c = let end : c.loop-y.y ≡ c.args.column.row_end = omega (arith, c.requires.inside.rows_in_order) in rw end at c.loop-y.invariant.transposed

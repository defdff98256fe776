-- Each turn of the inner loop exchanges one more item of a row, and each turn of the outer loop one more row.
use Rattle.std.proofs.Common.{◌≡◌, ◌+◌, ◌-◌, ◌*◌, suc, refl, arith}
use Rattle.p3_util_fast.proofs.BulkLemmas.Tiles.{TileTurned-more, TileTurned-row}
use Rattle.p3_util_kernels.proofs.BitsLemmas.Pairs.{square_swaps-next}
use Rattle.p3_util_fast.proofs.bulk.Tiled.turn_tile_singly.Goals as goal

pub loop-col-init : goal.loop-col-init
loop-col-init g c =
    let none : c.loop-row.row + 1 - (c.loop-row.row + 1) ≡ 0 = omega arith in
    record {
      turned = TileTurned-row _ _ c.requires c.loop-row.row _ _ (omega arith) c.loop-row.invariant.turned;
      holder = rw none (g.met.Self.Places.same_holder_refl _);
    }

pub loop-col-preserved : goal.loop-col-preserved
loop-col-preserved g c = record {
  turned = TileTurned-more _ _ c.requires c.loop-row.row c.loop-col.col _ _ _ refl (omega arith) (omega arith)
      c.loop-col.invariant.turned c.exchange.ensures.exchanged;
  holder = g.met.Self.Places.same_holder_trans _ _ _ _ _ _ c.loop-col.invariant.holder c.exchange.ensures.holder (omega arith);
}

pub loop-row-preserved : goal.loop-row-preserved
loop-row-preserved g c =
    let row = c.loop-row.row in
    let end : c.loop-col.col ≡ 8 = omega arith in
    let next : 8 * (row + 1) ≡ 8 * row + 8 = omega arith in
    let less : 8 - row ≡ suc (8 - (row + 1)) = omega arith in
    record {
      turned = rw next (rw end at c.loop-col.invariant.turned);
      count = c.loop-row.invariant.count + (8 - (row + 1));
      left = omega (arith, rw less at c.loop-row.invariant.left, square_swaps-next (8 - (row + 1)));
      holder = g.met.Self.Places.same_holder_trans _ _ _ _ _ _ c.loop-row.invariant.holder (rw end at c.loop-col.invariant.holder) refl;
    }

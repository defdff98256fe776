-- Each turn of the inner loop exchanges one more item of the square.
use Rattle.std.proofs.Common.{refl, arith}
use Rattle.p3_util_fast.proofs.RegistersSquares.{ItemsExchanged-more}
use Rattle.p3_util_fast.proofs.bulk.exchange_square.Goals as goal

pub loop-r-preserved : goal.loop-r-preserved
loop-r-preserved g c = record {
  exchanged = ItemsExchanged-more _ _ _ c.requires.tiles c.args.row c.args.col c.loop-d.d c.loop-r.r _ _ _ refl c.requires.row c.requires.col (omega arith) (omega arith) c.loop-r.invariant.exchanged c.exchange.ensures.exchanged;
  holder = g.met.M.Places.same_holder_trans _ _ _ _ _ _ c.loop-r.invariant.holder c.exchange.ensures.holder (omega arith);
}

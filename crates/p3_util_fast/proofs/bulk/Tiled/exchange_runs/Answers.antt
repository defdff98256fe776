-- Each turn of the loop exchanges one more pair of places.
use Rattle.std.proofs.Common.{inl, inr, refl, arith}
use Rattle.p3_util_kernels.proofs.PlacesLemmas.Runs.{RunsExchanged-one}
use Rattle.p3_util_fast.proofs.BulkLemmas.Runs.{RunsExchanged-joined_apart}
use Rattle.p3_util_fast.proofs.bulk.Tiled.exchange_runs.Goals as goal

pub loop-t-preserved : goal.loop-t-preserved
loop-t-preserved g c = record {
  exchanged = RunsExchanged-joined_apart c.args.i c.args.j c.loop-t.t 1 _ _ _
      (elim c.requires.apart [ inl up ↦ inl (omega arith) | inr down ↦ inr (omega arith) ]) c.loop-t.invariant.exchanged
      (RunsExchanged-one _ _ _ _ (omega arith) (omega arith) c.exchange.ensures.exchanged);
  holder = g.met.Self.Places.same_holder_trans _ _ _ _ _ _ c.loop-t.invariant.holder c.exchange.ensures.holder refl;
}

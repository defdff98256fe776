-- Each turn of the loop swaps one more pair of places.
use Rattle.std.proofs.Common.{refl, arith}
use Rattle.p3_util_kernels.proofs.PlacesLemmas.Runs.{RunsExchanged-joined, RunsExchanged-one}
use Rattle.p3_util_kernels.proofs.reverse.rows.swap_runs.Goals as goal

pub loop-t-preserved : goal.loop-t-preserved
loop-t-preserved g c = record {
  exchanged = RunsExchanged-joined c.args.i c.args.j c.loop-t.t 1 _ _ _ (omega arith) c.loop-t.invariant.exchanged
      (RunsExchanged-one _ _ _ _ (omega (arith, c.loop-t.invariant.exchanged.same_length)) (omega (arith, c.loop-t.invariant.exchanged.same_length)) c.swap.ensures.exchanged);
  count = omega (arith, c.swap.ensures.count, c.loop-t.invariant.count);
  holder = g.met.S.Places.same_holder_trans _ _ _ _ _ _ c.loop-t.invariant.holder c.swap.ensures.holder refl;
}

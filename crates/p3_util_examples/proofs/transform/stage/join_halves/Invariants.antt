use Rattle.p3_util_examples.proofs.TransformLemmas.Rows.{HalvesJoined}
use Rattle.p3_util_examples.proofs.transform.stage.join_halves.Given as goal

-- the first i pairs of rows of the block are joined
abbrev pub invariant-loop-i : goal.invariant-loop-i
invariant-loop-i l = HalvesJoined l.width l.first l.half l.i l.twiddles.stride l.twiddles.powers.now l.initial.values l.values

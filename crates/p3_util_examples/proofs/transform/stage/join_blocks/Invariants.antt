use Rattle.p3_util_examples.proofs.TransformLemmas.Rows.{BlocksJoined}
use Rattle.p3_util_examples.proofs.transform.stage.join_blocks.Given as goal

-- the blocks before b are joined
abbrev pub invariant-loop-b : goal.invariant-loop-b
invariant-loop-b l = BlocksJoined l.width l.half l.b l.twiddles.stride l.twiddles.powers.now l.initial.values l.values

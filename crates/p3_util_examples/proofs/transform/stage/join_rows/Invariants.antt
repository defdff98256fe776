use Rattle.p3_util_examples.proofs.TransformLemmas.Rows.{JoinedBelow}
use Rattle.p3_util_examples.proofs.transform.stage.join_rows.Given as goal

-- the columns before c of the two rows are joined
abbrev pub invariant-loop-c : goal.invariant-loop-c
invariant-loop-c l = JoinedBelow l.width l.low l.high l.twiddle l.c l.initial.values l.values

use Rattle.std.proofs.Common.{◌≤◌}
use Rattle.p3_util_examples.proofs.lemmas.count_zeros.Given as goal

abbrev pub invariant-loop-x : goal.invariant-loop-x
invariant-loop-x l = l.n ≤ l.x-index

use Rattle.std.proofs.Common.{◌≡◌, ℕ, ◌*◌, ◌%◌, ◌<◌, ◌≤◌, get_or}
use Rattle.p3_util_examples.specs.Stages.{AreBelowPrime}
use Rattle.p3_util_examples.specs.declared.transform.field.TheConstants.{PRIME}
use Rattle.p3_util_examples.proofs.transform.scale.Given as goal

-- the numbers so far are scaled, and the others are as they were
abbrev pub invariant-loop-value : goal.invariant-loop-value
invariant-loop-value l = record {
  below : AreBelowPrime l.values;
  scaled : (i : ℕ) → i < l.value-index → get_or l.values i 0 ≡ get_or l.fn.values i 0 * l.factor % PRIME;
  rest : (i : ℕ) → l.value-index ≤ i → get_or l.values i 0 ≡ get_or l.fn.values i 0;
}

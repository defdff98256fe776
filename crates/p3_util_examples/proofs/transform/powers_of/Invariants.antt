use Rattle.std.proofs.Common.{◌≡◌, ℕ, ◌%◌, ◌^◌, ◌<◌, get_or, vec_len}
use Rattle.p3_util_examples.specs.declared.transform.field.TheConstants.{PRIME}
use Rattle.p3_util_examples.proofs.transform.powers_of.Given as goal

-- the places before i hold the powers of the root
abbrev pub invariant-loop-i : goal.invariant-loop-i
invariant-loop-i l = record {
  len : vec_len l.powers ≡ l.count;
  next : l.power ≡ l.root ^ l.i % PRIME;
  each : (k : ℕ) → k < l.i → get_or l.powers.items k 0 ≡ l.root ^ k % PRIME;
}

use Rattle.std.proofs.Common.{◌≡◌, ◌*◌, ◌%◌, ◌^◌, ◌<◌}
use Rattle.p3_util_examples.specs.declared.transform.field.TheConstants.{PRIME}
use Rattle.p3_util_examples.proofs.transform.field.pow.Given as goal

-- the power so far, times the square to the power of the remaining exponent, is the result
abbrev pub invariant-loop-left : goal.invariant-loop-left
invariant-loop-left l = record {
  reduced : l.power < PRIME;
  square_reduced : l.square < PRIME;
  product : (l.power * l.square ^ l.left) % PRIME ≡ l.base ^ l.exponent % PRIME;
}

abbrev pub decreases-loop-left : goal.decreases-loop-left
decreases-loop-left l = l.left

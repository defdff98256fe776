use Rattle.std.proofs.Common.{ℕ, ◌-◌, ◌/◌, ◌^◌}
use Rattle.p3_util_examples.specs.Stages.{AreBelowPrime, ArePowers, IsRoot, IsStage}
use Rattle.p3_util_examples.proofs.transform.transform_rows.Given as goal

-- the values are at stage s
abbrev pub invariant-loop-s : goal.invariant-loop-s
invariant-loop-s l = record {
  below : AreBelowPrime l.values;
  stage : (root : ℕ) → IsRoot l.levels root → ArePowers root (2 ^ l.levels / 2) l.powers → IsStage root l.width (l.levels - l.s) l.s l.fn.values l.values;
}

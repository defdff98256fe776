-- Each turn of the loop is one step of squaring, for an even or for an odd exponent.
use Rattle.std.proofs.Common.{◌≡◌, ◌*◌, ◌%◌, ◌∙◌, rules}
use Rattle.p3_util_examples.specs.declared.transform.field.TheConstants.{PRIME}
use Rattle.p3_util_examples.proofs.TransformLemmas.Numbers.{pow_even, pow_odd}
use Rattle.p3_util_examples.proofs.transform.field.pow.Goals as goal
use Rattle.p3_util_examples.proofs.transform.field.pow.Goals.{then-left-eq1, else-left-eq1}

pub loop-left-preserved : goal.loop-left-preserved
loop-left-preserved c =
    let left = c.loop-left.left in
    let square = c.loop-left.square in
    let r = c.loop-left.power in
    let squared : c.mul-square.result ≡ square * square % PRIME = c.mul-square.ensures in
    record {
      reduced = elim c.if-left-eq1.branch [ then-left-eq1 w ↦ search rules | else-left-eq1 w ↦ search rules ];
      square_reduced = search rules;
      product = elim c.if-left-eq1.branch [
        | then-left-eq1 w ↦ rw (w.power-is, w.mul-power.ensures, squared) (pow_odd PRIME r square left (search rules) ∙ c.loop-left.invariant.product)
        | else-left-eq1 w ↦ rw (w.power-is, squared) (pow_even PRIME r square left (search rules) ∙ c.loop-left.invariant.product)
      ];
    }

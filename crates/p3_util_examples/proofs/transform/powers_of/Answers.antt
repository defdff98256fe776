-- Each turn of the loop writes one more power.
use Rattle.std.proofs.Common.{◌<◌, ◌∙◌, length, get_or-set_same, get_or-set_other, below_more, rules, arith}
use Rattle.p3_util_examples.specs.declared.transform.field.TheConstants.{PRIME}
use Rattle.p3_util_examples.proofs.TransformLemmas.Numbers.{pow_next}
use Rattle.p3_util_examples.proofs.transform.powers_of.Goals as goal

pub loop-i-preserved : goal.loop-i-preserved
loop-i-preserved c =
    let i = c.loop-i.i in
    let items = c.loop-i.powers.items in
    let inside : i < length items = search rules in
    record {
      len = search rules;
      next = c.mul-power.ensures ∙ pow_next PRIME c.args.root i _ c.loop-i.invariant.next;
      each = below_more _ i
          (λ k h. get_or-set_other items i k _ 0 (omega arith) ∙ c.loop-i.invariant.each k h)
          (get_or-set_same items i _ 0 inside ∙ c.loop-i.invariant.next);
    }

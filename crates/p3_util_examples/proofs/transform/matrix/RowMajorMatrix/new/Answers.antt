use Rattle.std.proofs.Common.{◌≡◌, ◌≢◌, ℕ, ◌*◌, ◌/◌, ◌<◌, ◌∙◌, length, sym, ap, rules, arith}
use Rattle.std.proofs.Math.Nat.{mul-div_cancel_left}
use Rattle.p3_util_examples.proofs.transform.matrix.RowMajorMatrix.new.Goals as goal
use Rattle.p3_util_examples.proofs.transform.matrix.RowMajorMatrix.new.Goals.{then-width-eq0, else-width-eq0}

-- if rows have items, the quotient is the number of rows
counted : (n w x h : ℕ) → n ≡ w * x → w ≢ 0 → h ≡ n / w → n ≡ w * h
counted n w x h e some quotient =
    let positive : 0 < w = omega arith in
    e ∙ ap (λ q. w * q) (sym (quotient ∙ ap (λ m. m / w) e ∙ mul-div_cancel_left x positive))

-- if rows have no items, there are no items at all
none : (n w x h : ℕ) → n ≡ w * x → w ≡ 0 → n ≡ w * h
none n w x h e empty =
    let nothing : 0 * x ≡ 0 * h = omega arith in
    e ∙ ap (λ q. q * x) empty ∙ nothing ∙ sym (ap (λ q. q * h) empty)

pub returns-then-len-width-clause-fits : goal.returns-then-len-width-clause-fits
returns-then-len-width-clause-fits g c = (
  search rules,
  λ (x, e).
      let n = length c.args.values.items in
      let w = c.args.width in
      let differs : n ≢ w * c.if-width-eq0.height = search rules in
      elim c.if-width-eq0.branch [
        | then-width-eq0 b ↦ absurd (differs (none n w x _ e b.if-width-eq0.true))
        | else-width-eq0 b ↦ let quotient : c.if-width-eq0.height ≡ n / w = search rules in absurd (differs (counted n w x _ e b.if-width-eq0.false quotient))
      ],
)

-- The items that are put one by one are those of the source, by one put for each.
use Rattle.std.proofs.Common.{◌≡◌, ◌≢◌, ◌∙◌, ◌+◌, ◌<◌, ℕ, List, Some, inl, inr, length, refl, rules, slice_get, slice_set, sym, arith}
use Rattle.std.proofs.lemmas.Bool.{cases_lt}
use Rattle.p3_util_kernels.proofs.PlacesLemmas.Exchange.{slice_get-set_other, slice_get-set_same}
use Rattle.p3_util_kernels.proofs.LawsLemmas.Steps.{more_puts, no_puts}
use Rattle.p3_util_kernels.proofs.PlacesLemmas.SameList.{same_places}
use Rattle.p3_util_dispatch.proofs.laws.PutStepsOutput.copy.Goals as goal

pub loop-i-init : goal.loop-i-init
loop-i-init g c = record { below = search rules; same_length = search rules; copied = search rules; holder = no_puts _ }

-- one more item is that of the source
copied_next : {A : Type 0} (old new xs : List A) (i : ℕ) (v : A) → new ≡ slice_set old i v → slice_get xs i ≡ Some v → i < length old
    → ((p : ℕ) → p < i → slice_get old p ≡ slice_get xs p) → (p : ℕ) → p < i + 1 → slice_get new p ≡ slice_get xs p
copied_next old new xs i v put at below before p h =
    elim (cases_lt p i) [
      | inl less ↦ let other : p ≢ i = λ e. omega (arith, less, e) in rw put (slice_get-set_other old i p v other ∙ before p less)
      | inr more ↦ let same : p ≡ i = omega (arith, h, more) in rw (same, put) (slice_get-set_same old i v below ∙ sym at)
    ]

pub loop-i-preserved : goal.loop-i-preserved
loop-i-preserved g c = record {
  below = search rules;
  same_length = search rules;
  copied = copied_next _ _ _ c.loop-i.i _ c.put.ensures.written c.at.ensures (omega (arith, c.loop-i-test.true, c.len-len.ensures, c.loop-i.invariant.same_length, c.requires)) c.loop-i.invariant.copied;
  holder = more_puts c.loop-i.i 1 (c.loop-i.i + 1) _ _ _ c.loop-i.invariant.holder c.put.ensures.holder refl;
}

pub returns-clause-copied : goal.returns-clause-copied
returns-clause-copied g c =
    let before = c.loop-i.invariant in
    same_places _ _ (before.same_length ∙ sym c.requires) (λ p h. before.copied p (omega (arith, h, before.same_length, c.requires, before.below, c.len-len.ensures)))

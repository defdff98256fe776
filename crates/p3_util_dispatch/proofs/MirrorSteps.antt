-- Places are exchanged with their mirror images, each pair once. If there are as many exchanges as
-- pairs, the exchanges are at these places.
use Rattle.std.proofs.Common.{◌≡◌, ◌≢◌, ℕ, Bool, cond, ◌==◌, ◌+◌, ◌*◌, ◌/◌, ◌%◌, ◌<◌, IsTrue, List, length, slice_get, inl, inr, sym, subst, ◌∙◌, ap, arith}
use Rattle.std.proofs.lemmas.Bool.{cases_eq}
use Rattle.p3_util_kernels.specs.Least.{AllDiffer, AreOnceAmong, after_swaps, count_below, places_swapped}
use Rattle.p3_util_kernels.proofs.LawsLemmas.Counts.{count-twice}
use Rattle.p3_util_kernels.proofs.PlacesLemmas.WrittenPlaces.{AreOnceAmong-weaker, Changed, swaps-places, swaps-written, written-at}

-- whenever n exchanges turn `old` into `new`, their places all differ, change, and have the property `among`
abbrev pub SwapsStay : {A : Type 0} → (ℕ → Type 0) → ℕ → List A → List A → Type 0
SwapsStay among n old new =
    (steps : List (ℕ × ℕ)) → length steps ≡ n → after_swaps old steps ≡ new
    → AreOnceAmong (λ p. among p × (slice_get old p ≢ slice_get new p)) (places_swapped steps)

-- Each number below n that passes the test names a pair of places, an upper and a lower one. No place is in two pairs.
module _ (n : ℕ) (test : ℕ → Bool) (upper lower : ℕ → ℕ)
    (uppers : (i j : ℕ) → i < n → j < n → IsTrue (test i) → IsTrue (test j) → upper i ≡ upper j → i ≡ j)
    (lowers : (i j : ℕ) → i < n → j < n → IsTrue (test i) → IsTrue (test j) → lower i ≡ lower j → i ≡ j)
    (apart : (i j : ℕ) → i < n → j < n → IsTrue (test i) → IsTrue (test j) → upper i ≢ lower j) where
  -- the places of all pairs
  abbrev place : ℕ → ℕ
  place k = cond (k % 2 == 0) (upper (k / 2)) (lower (k / 2))

  -- a property of both places of each pair that passes is a property of all these places
  each : (P : ℕ → ℕ → Type 0) → ((i : ℕ) → i < n → IsTrue (test i) → P (2 * i) (upper i)) → ((i : ℕ) → i < n → IsTrue (test i) → P (2 * i + 1) (lower i))
      → (k : ℕ) → k < 2 * n → IsTrue (test (k / 2)) → P k (place k)
  each P of_upper of_lower k less t =
      let i : ℕ = k / 2 in
      elim (cases_eq (k % 2) 0) [
        | inl even ↦ let e : 2 * i ≡ k = omega arith in rw even (subst (λ m. P m (upper i)) e (of_upper i (omega arith) t))
        | inr odd ↦
            let one : k % 2 ≡ 1 = omega arith in
            let e : 2 * i + 1 ≡ k = omega arith in
            rw one (subst (λ m. P m (lower i)) e (of_lower i (omega arith) t))
      ]

  -- no place is named twice
  place-apart : (k l : ℕ) → k < 2 * n → l < 2 * n → IsTrue (test (k / 2)) → IsTrue (test (l / 2)) → place k ≡ place l → k ≡ l
  place-apart k l hk hl tk tl =
      each (λ k p. p ≡ place l → k ≡ l)
      (λ i hi ti.
      each (λ l q. upper i ≡ q → 2 * i ≡ l) (λ j hj tj e. ap (λ x. 2 * x) (uppers i j hi hj ti tj e)) (λ j hj tj e. absurd (apart i j hi hj ti tj e))
      l hl tl)
      (λ i hi ti.
      each (λ l q. lower i ≡ q → 2 * i + 1 ≡ l) (λ j hj tj e. absurd (apart j i hj hi tj ti (sym e)))
      (λ j hj tj e. ap (λ x. 2 * x + 1) (lowers i j hi hj ti tj e)) l hl tl)
      k hk tk

  -- If all items differ, exchanged places change. So if there are as many exchanges as pairs, they are at these places.
  pub mirror-stays : {A : Type 0} (old new : List A) (among : ℕ → Type 0) → AllDiffer old
      → ((i : ℕ) → i < n → IsTrue (test i) → (upper i < length old) × (lower i < length old) × among (upper i) × among (lower i)
      × (slice_get new (upper i) ≡ slice_get old (lower i)) × (slice_get new (lower i) ≡ slice_get old (upper i)))
      → SwapsStay among (count_below n test) old new
  mirror-stays old new among differ known steps many leads =
      let changed : Changed (2 * n) place (λ k. test (k / 2)) old new =
      each (λ k p. slice_get old p ≢ slice_get new p)
      (λ i hi ti e. let at = known i hi ti in apart i i hi hi ti ti (differ (upper i) (lower i) at.0 at.1 (e ∙ at.4)))
      (λ i hi ti e. let at = known i hi ti in apart i i hi hi ti ti (sym (differ (lower i) (upper i) at.1 at.0 (e ∙ at.5)))) in
      let at = written-at (2 * n) place (λ k. test (k / 2)) place-apart (places_swapped steps) old new (rw leads at (swaps-written steps old)) changed
      (omega (arith, count-twice n test, many, swaps-places steps)) in
      AreOnceAmong-weaker _ _ (places_swapped steps)
      (λ p (k, less, t, e). rw e (each (λ k p. among p) (λ i hi ti. (known i hi ti).2) (λ i hi ti. (known i hi ti).3) k less t, changed k less t)) at

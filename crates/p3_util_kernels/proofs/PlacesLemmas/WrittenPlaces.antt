-- Places of a list are written one after another: how many of them changed, and which places were
-- written if all of them changed.
use Rattle.std.proofs.Common.{◌≡◌, ◌≢◌, ℕ, suc, Bool, not, ◌==◌, ◌&&◌, ◌*◌, ◌<◌, ◌≤◌, IsTrue, List, [], ◌∷◌, length, get_or, set, slice_get, slice_set, refl, sym, ◌∙◌, ap, arith}
use Rattle.std.proofs.lemmas.Bool.{and_parts, eqb-false, eqb-true, not-true}
use Rattle.std.proofs.lemmas.Bool.Decides.{nat_tests}
use Rattle.std.proofs.lemmas.List.Elements.{All-cons, All-head, All-nil, All-weaker}
use Rattle.std.proofs.lemmas.List.Kept.{AllPairs-cons}
use Rattle.p3_util_kernels.specs.Least.{AreOnceAmong, after_puts, after_swaps, count_below, places_put, places_swapped}
use Rattle.p3_util_kernels.proofs.LawsLemmas.Counts.{count-none, count-once, count-some, count-some_passes, count-split}
use Rattle.p3_util_kernels.proofs.PlacesLemmas.Exchange.{slice_get-set_other}

-- `new` is `old` after these places were written one after another, each with any item
unfoldable pub Written : {A : Type 0} → List ℕ → List A → List A → Type 0
Written [] old new = old ≡ new
Written {A} (p ∷ places) old new = (mid : List A) × ((i : ℕ) → i ≢ p → slice_get old i ≡ slice_get mid i) × Written places mid new

pub puts-written : {A : Type 0} (steps : List (ℕ × A)) (xs : List A) → Written (places_put steps) xs (after_puts xs steps)
unfolding Written places_put after_puts
puts-written [] xs = refl
puts-written (put ∷ steps) xs =
    let next : List _ = slice_set xs put.0 put.1 in
    (next, λ i away. sym (slice_get-set_other xs put.0 i put.1 away), puts-written steps next)

-- an exchange writes two places
pub swaps-written : {A : Type 0} (steps : List (ℕ × ℕ)) (xs : List A) → Written (places_swapped steps) xs (after_swaps xs steps)
unfolding Written places_swapped after_swaps
swaps-written [] xs = refl
swaps-written (pair ∷ steps) [] = ([], λ i away. refl, ([], λ i away. refl, swaps-written steps []))
swaps-written (pair ∷ steps) (d ∷ ys) =
    let (i, j) = pair in
    let first : List _ = set (d ∷ ys) i (get_or (d ∷ ys) j d) in
    let both : List _ = set first j (get_or (d ∷ ys) i d) in (
      first,
      λ k away. sym (slice_get-set_other (d ∷ ys) i k (get_or (d ∷ ys) j d) away),
      (both, λ k away. sym (slice_get-set_other first j k (get_or (d ∷ ys) i d) away), swaps-written steps both),
    )

pub puts-places : {A : Type 0} (steps : List (ℕ × A)) → length (places_put steps) ≡ length steps
unfolding places_put
puts-places [] = refl
puts-places (put ∷ steps) = omega (arith, puts-places steps)

pub swaps-places : (steps : List (ℕ × ℕ)) → length (places_swapped steps) ≡ 2 * length steps
unfolding places_swapped
swaps-places [] = refl
swaps-places (pair ∷ steps) = omega (arith, swaps-places steps)

pub AreOnceAmong-weaker : (P Q : ℕ → Type 0) (places : List ℕ) → ((p : ℕ) → P p → Q p) → AreOnceAmong P places → AreOnceAmong Q places
AreOnceAmong-weaker P Q places weaker at = record { inside = All-weaker P Q weaker places at.inside; once = at.once }

pub AreOnceAmong-nil : (P : ℕ → Type 0) → AreOnceAmong P []
AreOnceAmong-nil P = record { inside = All-nil P; once = λ i j d less below. absurd (omega arith) }

-- a place before others that differ from it
pub AreOnceAmong-cons : (P : ℕ → Type 0) (p : ℕ) (places : List ℕ) → P p → AreOnceAmong (λ q. P q × (p ≢ q)) places → AreOnceAmong P (p ∷ places)
AreOnceAmong-cons P p places here rest = record {
  inside = All-cons P p places here (All-weaker (λ q. P q × (p ≢ q)) P (λ q at. at.0) places rest.inside);
  once = AllPairs-cons (λ a b. a ≢ b) p places (All-weaker (λ q. P q × (p ≢ q)) (λ q. p ≢ q) (λ q at. at.1) places rest.inside) rest.once;
}

pub AreOnceAmong-split : (P : ℕ → Type 0) (p : ℕ) (places : List ℕ) → AreOnceAmong P (p ∷ places) → P p × AreOnceAmong (λ q. P q × (p ≢ q)) places
AreOnceAmong-split P p places at = (
  All-head P p places at.inside,
  record {
    inside = λ k d less. (at.inside (suc k) d (omega arith), at.once 0 (suc k) d (omega arith) (omega arith));
    once = λ i j d less below. at.once (suc i) (suc j) d (omega arith) (omega arith);
  },
)

-- different numbers that pass a test are no more than all numbers that pass it
once-few : (n : ℕ) (test : ℕ → Bool) (places : List ℕ) → AreOnceAmong (λ p. (p < n) × IsTrue (test p)) places → length places ≤ count_below n test
once-few n test [] at = omega arith
once-few n test (p ∷ places) at =
    let (here, rest) = AreOnceAmong-split (λ p. (p < n) × IsTrue (test p)) p places at in
    let fewer = once-few n (λ i. test i && not (i == p)) places
    (AreOnceAmong-weaker _ _ places (λ q ((less, t), away). (less, grind (arith, nat_tests, t, away))) rest) in
    omega (arith, fewer, count-split n test (λ i. i == p), count-some_passes n (λ i. test i && i == p) p here.0 (grind (arith, nat_tests, here.1)))

-- The numbers below n that pass the test name different places.
module _ (n : ℕ) (place : ℕ → ℕ) where
  abbrev pub Apart : (ℕ → Bool) → Type 0
  Apart test = (i j : ℕ) → i < n → j < n → IsTrue (test i) → IsTrue (test j) → place i ≡ place j → i ≡ j

  abbrev pub Changed : {A : Type 0} → (ℕ → Bool) → List A → List A → Type 0
  Changed test old new = (i : ℕ) → i < n → IsTrue (test i) → slice_get old (place i) ≢ slice_get new (place i)

  -- the test without the numbers that name place p, and what is known of it
  abbrev but : (ℕ → Bool) → ℕ → ℕ → Bool
  but test p i = test i && not (place i == p)

  but-test : (test : ℕ → Bool) (p i : ℕ) → IsTrue (but test p i) → IsTrue (test i)
  but-test test p i h = (and_parts (test i) (not (place i == p)) h).0

  but-away : (test : ℕ → Bool) (p i : ℕ) → IsTrue (but test p i) → place i ≢ p
  but-away test p i h = eqb-false (place i) p (not-true (place i == p) (and_parts (test i) (not (place i == p)) h).1)

  but-apart : (test : ℕ → Bool) (p : ℕ) → Apart test → Apart (but test p)
  but-apart test p apart i j hi hj ti tj = apart i j hi hj (but-test test p i ti) (but-test test p j tj)

  -- a write at p leaves the other places as they were
  but-changed : {A : Type 0} (test : ℕ → Bool) (p : ℕ) (old mid new : List A) → ((i : ℕ) → i ≢ p → slice_get old i ≡ slice_get mid i)
      → Changed test old new → Changed (but test p) mid new
  but-changed test p old mid new kept changed i less t e = changed i less (but-test test p i t) (kept (place i) (but-away test p i t) ∙ e)

  here-once : (test : ℕ → Bool) (p : ℕ) → Apart test → count_below n (λ i. test i && place i == p) ≤ 1
  here-once test p apart =
      count-once n (λ i. test i && place i == p)
      (λ i j hi hj ti tj. grind (arith, nat_tests, apart i j hi hj, ti, tj))

  -- at most as many places changed as were written
  pub written-change : {A : Type 0} (test : ℕ → Bool) → Apart test → (places : List ℕ) (old new : List A) → Written places old new
      → Changed test old new → count_below n test ≤ length places
  unfolding Written
  written-change test apart [] old new same changed =
      omega (arith, count-none n test (λ i less t. changed i less t (ap (λ xs. slice_get xs (place i)) same)))
  written-change test apart (p ∷ places) old new (mid, kept, rest) changed =
      omega (
        arith,
        count-split n test (λ i. place i == p),
        here-once test p apart,
        written-change (but test p) (but-apart test p apart) places mid new rest (but-changed test p old mid new kept changed),
      )

  -- if as many places changed as were written, each written place is one of the changed ones, and
  -- none was written twice
  pub written-at : {A : Type 0} (test : ℕ → Bool) → Apart test → (places : List ℕ) (old new : List A) → Written places old new
      → Changed test old new → count_below n test ≡ length places → AreOnceAmong (λ p. (i : ℕ) × (i < n) × IsTrue (test i) × (p ≡ place i)) places
  unfolding Written
  written-at test apart [] old new same changed all = AreOnceAmong-nil (λ p. (i : ℕ) × (i < n) × IsTrue (test i) × (p ≡ place i))
  written-at test apart (p ∷ places) old new (mid, kept, rest) changed all =
      let rest_apart : Apart (but test p) = but-apart test p apart in
      let rest_changed : Changed (but test p) mid new = but-changed test p old mid new kept changed in
      let split = count-split n test (λ i. place i == p) in
      let few = written-change (but test p) rest_apart places mid new rest rest_changed in
      let once = here-once test p apart in
      let (i, less, here) = count-some n (λ i. test i && place i == p) (omega (arith, split, few, all)) in
      let passes = and_parts (test i) (place i == p) here in
      let others = written-at (but test p) rest_apart places mid new rest rest_changed (omega (arith, split, few, once, all)) in
      AreOnceAmong-cons (λ q. (j : ℕ) × (j < n) × IsTrue (test j) × (q ≡ place j)) p places (i, less, passes.0, sym (eqb-true (place i) p passes.1))
      (AreOnceAmong-weaker _ _ places (λ q (j, below, t, at). ((j, below, but-test test p j t, at), λ e. but-away test p j t (sym at ∙ sym e))) others)

-- if each written place is written once and changes, as many places were written as changed
pub written-count : {A : Type 0} (n : ℕ) (test : ℕ → Bool) (places : List ℕ) (old new : List A) → Written places old new
    → AreOnceAmong (λ p. (p < n) × IsTrue (test p)) places → Changed n (λ i. i) test old new → length places ≡ count_below n test
written-count n test places old new written once changed =
    omega (arith, once-few n test places once, written-change n (λ i. i) test (λ i j hi hj ti tj e. e) places old new written changed)

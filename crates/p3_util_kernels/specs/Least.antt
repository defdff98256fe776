-- Lists of exchanges and of writes, and the least number of steps in which a list can be rearranged. Source: new.
use Rattle.std.specs.Prelude.{ℕ, Bool, ◌==◌, ◌≡◌, ◌≢◌, ◌↔◌, ◌+◌, ◌-◌, ◌*◌, ◌/◌, ◌^◌, ◌<◌, ◌≤◌, IsTrue, if◌then◌else◌, List, [], ◌∷◌, All, AllPairs, length, slice_get, slice_set, swap}
use Rattle.p3_util_kernels.specs.Digits.{rev}
use Rattle.p3_util_kernels.specs.Sums.{sum_below}
use Rattle.p3_util_kernels.specs.Reversal.{IsReversal}
use Rattle.p3_util_kernels.specs.SwapCounts.{short_swaps, square_swaps}
use Rattle.p3_util_kernels.specs.Transpose.{IsTranspose}

-- `after_swaps xs steps` is the list xs after exchanges that are made one after the other. Each of
-- the `steps` is a pair of places, and the items there are exchanged
unfoldable pub after_swaps : {A : Type 0} → List A → List (ℕ × ℕ) → List A
after_swaps xs [] = xs
after_swaps xs (pair ∷ steps) = after_swaps (swap xs pair.0 pair.1) steps

-- `after_puts xs steps` is the list xs after writes that are made one after the other. Each of the
-- `steps` is a place and the item that is put there
unfoldable pub after_puts : {A : Type 0} → List A → List (ℕ × A) → List A
after_puts xs [] = xs
after_puts xs (put ∷ steps) = after_puts (slice_set xs put.0 put.1) steps

-- some n steps turn the list `old` into `new`, where `after xs steps` is the list xs after the steps
abbrev pub StepsLead : {A S : Type 0} → (List A → List S → List A) → ℕ → List A → List A → Type 0
StepsLead {A} {S} after n old new = (steps : List S) × (length steps ≡ n) × (after old steps ≡ new)

-- `PutsLead n old new` says that some n writes turn the list `old` into `new`, by `after_puts`
abbrev pub PutsLead : {A : Type 0} → ℕ → List A → List A → Type 0
PutsLead = StepsLead after_puts

-- `SwapsLead n old new` says that some n exchanges turn the list `old` into `new`, by `after_swaps`
abbrev pub SwapsLead : {A : Type 0} → ℕ → List A → List A → Type 0
SwapsLead = StepsLead after_swaps

-- the places of a list of exchanges, in order, two for each exchange
unfoldable pub places_swapped : List (ℕ × ℕ) → List ℕ
places_swapped [] = []
places_swapped (pair ∷ steps) = pair.0 ∷ pair.1 ∷ places_swapped steps

-- the places of a list of writes, in order, one for each write
unfoldable pub places_put : {A : Type 0} → List (ℕ × A) → List ℕ
places_put [] = []
places_put (put ∷ steps) = put.0 ∷ places_put steps

-- how many numbers below n pass the test
unfoldable pub count_below : ℕ → (ℕ → Bool) → ℕ
count_below n test = sum_below n (λ i. if test i then 1 else 0)

-- the lists differ at each place below n that passes the test
abbrev pub DifferWhere : {A : Type 0} → ℕ → (ℕ → Bool) → List A → List A → Type 0
DifferWhere n test old new = (i : ℕ) → i < n → IsTrue (test i) → slice_get old i ≢ slice_get new i

-- the lists differ at exactly `count` of the places below n
abbrev pub DifferAt : {A : Type 0} → (n count : ℕ) → List A → List A → Type 0
DifferAt n count old new = (test : ℕ → Bool) × (count_below n test ≡ count)
    × ((i : ℕ) → i < n → IsTrue (test i) ↔ (slice_get old i ≢ slice_get new i))

-- `place 0` to `place (n - 1)` are n different places
abbrev pub AreApart : ℕ → (ℕ → ℕ) → Type 0
AreApart n place = (i j : ℕ) → i < n → j < n → place i ≡ place j → i ≡ j

-- no two items of the list xs are equal
abbrev pub AllDiffer : {A : Type 0} → List A → Type 0
AllDiffer xs = (i j : ℕ) → i < length xs → j < length xs → slice_get xs i ≡ slice_get xs j → i ≡ j

-- for items of the type A: m exchanges change at most `2 * m` places
abbrev pub SwapsChange : Type 0 → Type 0
SwapsChange A = (xs : List A) (steps : List (ℕ × ℕ)) (n : ℕ) (test : ℕ → Bool)
    → DifferWhere n test xs (after_swaps xs steps) → count_below n test ≤ 2 * length steps

-- for items of the type A: m writes change at most m places
abbrev pub PutsChange : Type 0 → Type 0
PutsChange A = (xs : List A) (steps : List (ℕ × A)) (n : ℕ) (test : ℕ → Bool)
    → DifferWhere n test xs (after_puts xs steps) → count_below n test ≤ length steps

-- each of these places has the property `among`, and no place is listed twice
pub record AreOnceAmong (among : ℕ → Type 0) (places : List ℕ) : Type 0 where
  pub inside : All among places
  pub once : AllPairs (λ a b. a ≢ b) places

-- of the `2 ^ k` numbers of k bits, `2 ^ ceil(k / 2)` are their own reverse
abbrev pub Palindromes : Type 0
Palindromes = (k : ℕ) → count_below (2 ^ k) (λ i. rev k i == i) ≡ 2 ^ ((k + 1) / 2)

-- for items of the type A: if `2 ^ k` items are all different, every list of exchanges that
-- reverses them has at least `short_swaps k` exchanges
abbrev pub LeastReversal : Type 0 → Type 0
LeastReversal A = (k : ℕ) (xs : List A) (steps : List (ℕ × ℕ)) → length xs ≡ 2 ^ k → AllDiffer xs
    → IsReversal xs (after_swaps xs steps) → short_swaps k ≤ length steps

-- for items of the type A: if the items of a square of `side` rows are all different, every list of
-- exchanges that transposes it has at least `square_swaps side` exchanges
abbrev pub LeastSquare : Type 0 → Type 0
LeastSquare A = (side : ℕ) (xs : List A) (steps : List (ℕ × ℕ)) → length xs ≡ side * side → AllDiffer xs
    → IsTranspose side side xs (after_swaps xs steps) → square_swaps side ≤ length steps

-- for items of the type A: if a list of writes changes the items at n different places, it has at least n writes
abbrev pub LeastPuts : Type 0 → Type 0
LeastPuts A = (n : ℕ) (place : ℕ → ℕ) (xs : List A) (steps : List (ℕ × A)) → AreApart n place
    → ((i : ℕ) → i < n → slice_get xs (place i) ≢ slice_get (after_puts xs steps) (place i)) → n ≤ length steps

-- for items of the type A: if the items of a list of `2 ^ k` items are all different, it differs from its reversal at
-- `2 * short_swaps k` places, two for each exchange of the shortest list of exchanges that reverses it
abbrev pub ReversalDiffers : Type 0 → Type 0
ReversalDiffers A = (k : ℕ) (old new : List A) → length old ≡ 2 ^ k → AllDiffer old
    → IsReversal old new → DifferAt (2 ^ k) (2 * short_swaps k) old new

-- for items of the type A: if the items of a square of `side` rows are all different, it differs from its transpose at
-- `side * (side - 1)` places. These are all places except those on the diagonal
abbrev pub SquareDiffers : Type 0 → Type 0
SquareDiffers A = (side : ℕ) (old new : List A) → length old ≡ side * side → AllDiffer old
    → IsTranspose side side old new → DifferAt (side * side) (side * (side - 1)) old new

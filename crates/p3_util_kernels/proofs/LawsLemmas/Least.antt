-- How many places a list of exchanges or of writes changes, how many numbers are their own reverse,
-- and what follows from this for the least number of steps.
use Rattle.std.proofs.Common.{◌≡◌, ◌≢◌, ◌↔◌, ℕ, zero, suc, Bool, true, not, ◌==◌, ◌+◌, ◌*◌, ◌/◌, ◌%◌, ◌^◌, ◌<◌, ◌≤◌, IsTrue, List, length, slice_get, ◌∙◌, ap, mul_comm, pow-suc, arith}
use Rattle.std.proofs.lemmas.Bool.Decides.{nat_tests}
use Rattle.std.proofs.lemmas.Nat.{same_from_place, div_below, div-add-mod', div-mul-add, mod_below, mod-mul-add, mul-add-lt, pow-add, pow_pos}
use Rattle.p3_util_kernels.specs.Digits.{rev}
use Rattle.p3_util_kernels.specs.Reversal.{IsRowReversal}
use Rattle.p3_util_kernels.specs.SwapCounts.{short_swaps}
use Rattle.p3_util_kernels.specs.Transpose.{IsTranspose}
use Rattle.p3_util_kernels.specs.Least.{after_swaps, count_below, places_put, places_swapped, AllDiffer, DifferWhere, SwapsChange, PutsChange, Palindromes, LeastReversal, LeastSquare, LeastPuts, ReversalDiffers, SquareDiffers}
use Rattle.p3_util_kernels.proofs.LawsLemmas.Counts.{count-all, count-not, count-off_diagonal, count-rows, count-times}
use Rattle.p3_util_kernels.proofs.PlacesLemmas.WrittenPlaces.{puts-places, puts-written, swaps-places, swaps-written, written-change}
use Rattle.p3_util_kernels.proofs.BitsLemmas.Digits.{middle-below, rev-around, rev-lt, rev-rev-below}
use Rattle.p3_util_kernels.proofs.TransposeLemmas.Matrix.{each_place}
use Rattle.p3_util_kernels.proofs.BitsLemmas.Pairs.{mul-pred, twice-pairs}

-- one exchange changes at most two places
pub swaps-change : {A : Type 0} → SwapsChange A
swaps-change xs steps n test differ =
    omega (arith, written-change n (λ i. i) test (λ i j hi hj ti tj e. e) (places_swapped steps) xs _ (swaps-written steps xs) differ, swaps-places steps)

-- one write changes at most one place
pub puts-change : {A : Type 0} → PutsChange A
puts-change xs steps n test differ =
    omega (arith, written-change n (λ i. i) test (λ i j hi hj ti tj e. e) (places_put steps) xs _ (puts-written steps xs) differ, puts-places steps)

pub least-puts : {A : Type 0} → LeastPuts A
least-puts {A} n place xs steps apart differ =
    let changed = written-change n place (λ i. true) (λ i j hi hj ti tj. apart i j hi hj) (places_put steps) xs _ (puts-written steps xs) (λ i less t. differ i less) in
    omega (arith, count-all n, changed, puts-places steps)

-- Of the numbers of k bits with high digits a and middle digit m, exactly one is its own reverse:
-- the one whose low digits are a in reversed order.
module _ (q d : ℕ) (few : d ≤ 1) where
  palindrome-of_row : (r y : ℕ) → r < 2 ^ (q + d) → y < 2 ^ q → (rev (q + (d + q)) (r * 2 ^ q + y) == r * 2 ^ q + y) ≡ (rev q (r / 2 ^ d) == y)
  palindrome-of_row r y hr hy =
      let a = r / 2 ^ d in
      let m = r % 2 ^ d in
      let ha : a < 2 ^ q = div_below r (2 ^ d) (2 ^ q) (pow_pos d) (rw (pow-add 2 q d) at hr) in
      let hm : m < 2 ^ d = mod_below r (2 ^ d) (pow_pos d) in
      let row : r * 2 ^ q + y ≡ a * 2 ^ (d + q) + (m * 2 ^ q + y) = rw (pow-add 2 d q) (omega (arith, ap (λ n. n * 2 ^ q) (div-add-mod' r (2 ^ d)))) in
      let turned = rev-around q d a m y few hm hy in
      rw row
      (let low = same_from_place (rev q y) (m * 2 ^ q + rev q a) a (m * 2 ^ q + y) (2 ^ (d + q)) (middle-below q d m (rev q a) hm (rev-lt q a)) (middle-below q d m y hm hy) in
      grind (arith, nat_tests, turned, low, rev-rev-below q a ha))

pub palindromes : Palindromes
palindromes k =
    let q = k / 2 in
    let d = k % 2 in
    let parts : q + (d + q) ≡ k = omega arith in
    let rows : q + d ≡ (k + 1) / 2 = omega arith in
    let all : 2 ^ k ≡ 2 ^ (q + d) * 2 ^ q = ap (λ n. 2 ^ n) (omega arith) ∙ pow-add 2 (q + d) q in
    let each = rw parts at (palindrome-of_row q d (omega arith)) in
    rw (all, ← rows) (count-rows (2 ^ (q + d)) (2 ^ q) (λ r. rev q (r / 2 ^ d)) (λ i. rev k i == i) (λ r h. rev-lt q (r / 2 ^ d)) each)

-- the row of place p is not its own reverse
abbrev pub row_moves : (width k p : ℕ) → Bool
row_moves width k p = not (rev k (p / width) == p / width)

-- the lists differ at a place exactly if its row is not its own reverse
pub rows-differ-where : {A : Type 0} (width k : ℕ) (old new : List A) → length old ≡ width * 2 ^ k → AllDiffer old → IsRowReversal width old new
    → (p : ℕ) → p < width * 2 ^ k → IsTrue (row_moves width k p) ↔ (slice_get old p ≢ slice_get new p)
rows-differ-where width k old new len apart reversed p h =
    each_place (λ q. IsTrue (row_moves width k q) ↔ (slice_get old q ≢ slice_get new q)) (2 ^ k) width p (omega (arith, h))
    (λ r j hr hj.
    let q : ℕ = r * width + j in
    let row : q / width ≡ r = div-mul-add r width j hj in
    let moved : slice_get new q ≡ slice_get old (rev k r * width + j) = reversed.places k r j len hr hj in
    let here : q < length old = omega (arith, len, mul-add-lt r width j (2 ^ k) hr hj) in
    let there : rev k r * width + j < length old = omega (arith, len, mul-add-lt (rev k r) width j (2 ^ k) (rev-lt k r) hj) in (
      λ t e. grind (arith, nat_tests, t, row, same_from_place r j (rev k r) j width hj hj (apart q (rev k r * width + j) here there (e ∙ moved))),
      λ ne. grind (arith, nat_tests, ne, row, moved),
    ))

-- the numbers of k bits that are not their own reverse form pairs
pairs-moved : (k : ℕ) → count_below (2 ^ k) (λ i. not (rev k i == i)) ≡ 2 * short_swaps k
pairs-moved zero = omega (arith, count-not (2 ^ 0) (λ i. rev 0 i == i), palindromes 0)
pairs-moved (suc k) =
    let half : (suc k + 1) / 2 ≡ suc (k / 2) = omega arith in
    omega (arith, count-not (2 ^ suc k) (λ i. rev (suc k) i == i), palindromes (suc k), pow-suc 2 k, pow-suc 2 (k / 2), ap (λ c. 2 ^ c) half)

pub count-moved : (width k : ℕ) → count_below (width * 2 ^ k) (row_moves width k) ≡ 2 * (width * short_swaps k)
count-moved width k =
    ap (λ n. count_below n (row_moves width k)) (mul_comm width (2 ^ k))
    ∙ count-times (2 ^ k) width (λ r. not (rev k r == r)) ∙ omega (arith, ap (λ n. width * n) (pairs-moved k))

pub reversal-differs : {A : Type 0} → ReversalDiffers A
reversal-differs {A} k old new len apart reversed =
    let one : 1 * 2 ^ k ≡ 2 ^ k = omega arith in
    let count = rw one at (count-moved 1 k) in
    (row_moves 1 k, omega (arith, count), λ i h. rows-differ-where 1 k old new (omega (arith, len)) apart reversed i (omega (arith, h)))

-- at least as many exchanges as there are pairs of numbers that are each other's reverse
pub least-reversal : {A : Type 0} → LeastReversal A
least-reversal {A} k xs steps len apart reversed =
    let (test, count, differ) = reversal-differs k xs (after_swaps xs steps) len apart reversed in
    omega (arith, swaps-change xs steps (2 ^ k) test (λ i h. (differ i h).0), count)

-- the lists differ at a place exactly if the place is off the diagonal
square-differs-where : {A : Type 0} (side : ℕ) (old new : List A) → length old ≡ side * side → AllDiffer old → IsTranspose side side old new
    → (p : ℕ) → p < side * side → IsTrue (not (p / side == p % side)) ↔ (slice_get old p ≢ slice_get new p)
square-differs-where side old new len apart turned p h =
    each_place (λ q. IsTrue (not (q / side == q % side)) ↔ (slice_get old q ≢ slice_get new q)) side side p h
    (λ x y hx hy.
    let q : ℕ = x * side + y in
    let row : q / side ≡ x = div-mul-add x side y hy in
    let col : q % side ≡ y = mod-mul-add x side y hy in
    let moved : slice_get new q ≡ slice_get old (y * side + x) = turned.places x y hx hy in
    let here : q < length old = rw len (mul-add-lt x side y side hx hy) in
    let there : y * side + x < length old = rw len (mul-add-lt y side x side hy hx) in (
      λ t e. grind (arith, nat_tests, t, same_from_place x y y x side hy hx (apart q (y * side + x) here there (e ∙ moved))),
      λ ne. grind (arith, nat_tests, ne, moved),
    ))

pub square-differs : {A : Type 0} → SquareDiffers A
square-differs {A} side old new len apart turned =
    (λ p. not (p / side == p % side), count-off_diagonal side, square-differs-where side old new len apart turned)

-- at least as many exchanges as there are pairs of places that are mirror images of each other
pub least-square : {A : Type 0} → LeastSquare A
least-square {A} side xs steps len apart turned =
    let differ : DifferWhere (side * side) (λ p. not (p / side == p % side)) xs (after_swaps xs steps) =
    λ p h. (square-differs-where side xs (after_swaps xs steps) len apart turned p h).0 in
    omega (arith, swaps-change xs steps (side * side) (λ p. not (p / side == p % side)) differ, count-off_diagonal side, twice-pairs side, mul-pred side)

-- How many numbers below a bound pass a test.
use Rattle.std.proofs.Common.{◌≡◌, ℕ, zero, suc, Bool, true, false, cond, nat_lt, not, min, ◌==◌, ◌&&◌, ◌+◌, ◌-◌, ◌*◌, ◌/◌, ◌%◌, ◌<◌, ◌≤◌, IsTrue, refl, ◌∙◌, ap, arith, inl, inr}
use Rattle.std.proofs.lemmas.Bool.{both_ways, cases_Bool, cases_eq, false_from_ne_true}
use Rattle.std.proofs.lemmas.Bool.Decides.{nat_tests}
use Rattle.std.proofs.lemmas.Nat.{div-mul-add, mod-mul-add}
use Rattle.p3_util_kernels.specs.Sums.{sum_below}
use Rattle.p3_util_kernels.specs.Least.{count_below}
use Rattle.p3_util_kernels.proofs.BitsLemmas.Sums.{sum_below-same}
use Rattle.p3_util_kernels.proofs.BitsLemmas.Pairs.{mul-pred}

-- what a number adds to the count: 1 if it passes the test, and otherwise 0
abbrev pub one : Bool → ℕ
one b = cond b 1 0

pub count-zero : (t : ℕ → Bool) → count_below zero t ≡ 0
unfolding count_below sum_below
count-zero t = refl

pub count-suc : (n : ℕ) (t : ℕ → Bool) → count_below (suc n) t ≡ count_below n t + one (t n)
unfolding count_below sum_below
count-suc n t = refl

pub count-same : (n : ℕ) (f g : ℕ → Bool) → ((i : ℕ) → i < n → f i ≡ g i) → count_below n f ≡ count_below n g
unfolding count_below
count-same n f g h = sum_below-same n (λ i. one (f i)) (λ i. one (g i)) (λ i less. ap one (h i less))

pub count-none : (n : ℕ) (t : ℕ → Bool) → ((i : ℕ) → i < n → t i ≡ true → ⊥) → count_below n t ≡ 0
count-none zero t h = count-zero t
count-none (suc n) t h =
    omega (arith, count-suc n t, ap one (false_from_ne_true (t n) (h n (omega arith))), count-none n t (λ i less. h i (omega arith)))

pub count-all : (n : ℕ) → count_below n (λ i. true) ≡ n
count-all zero = count-zero (λ i. true)
count-all (suc n) = omega (arith, count-suc n (λ i. true), count-all n)

-- a number passes either the test or its negation
one-not : (b : Bool) → one (not b) + one b ≡ 1
one-not true = refl
one-not false = refl

pub count-not : (n : ℕ) (t : ℕ → Bool) → count_below n (λ i. not (t i)) + count_below n t ≡ n
count-not zero t = omega (arith, count-zero)
count-not (suc n) t = omega (arith, count-not n t, count-suc n, one-not (t n))

-- a number that passes one test either passes another one too or does not
one-split : (b c : Bool) → one b ≡ one (b && not c) + one (b && c)
one-split true true = refl
one-split true false = refl
one-split false c = refl

pub count-split : (n : ℕ) (t s : ℕ → Bool) → count_below n t ≡ count_below n (λ i. t i && not (s i)) + count_below n (λ i. t i && s i)
count-split zero t s = omega (arith, count-zero)
count-split (suc n) t s = omega (arith, count-split n t s, count-suc n, one-split (t n) (s n))

-- if the count is not 0, some number passes
pub count-some : (n : ℕ) (t : ℕ → Bool) → 0 < count_below n t → (i : ℕ) × (i < n) × IsTrue (t i)
count-some zero t some = absurd (omega (arith, count-zero t))
count-some (suc n) t some =
    elim (cases_Bool (t n)) [
      | inl here ↦ (n, omega arith, here)
      | inr none ↦ let (i, less, passes) = count-some n t (omega (arith, count-suc n t, ap one none)) in (i, omega arith, passes)
    ]

-- if some number passes, the count is not 0
pub count-some_passes : (n : ℕ) (t : ℕ → Bool) (i : ℕ) → i < n → IsTrue (t i) → 0 < count_below n t
count-some_passes zero t i less passes = absurd (omega (arith, less))
count-some_passes (suc n) t i less passes =
    elim (cases_eq i n) [
      | inl last ↦ omega (arith, count-suc n t, ap one (rw last at passes))
      | inr other ↦ omega (arith, count-suc n t, count-some_passes n t i (omega (arith, less, other)) passes)
    ]

-- if no two different numbers pass, the count is at most 1
pub count-once : (n : ℕ) (t : ℕ → Bool) → ((i j : ℕ) → i < n → j < n → IsTrue (t i) → IsTrue (t j) → i ≡ j) → count_below n t ≤ 1
count-once zero t same = omega (arith, count-zero t)
count-once (suc n) t same =
    elim (cases_Bool (t n)) [
      | inl here ↦ omega (arith, count-suc n t, ap one here, count-none n t (λ i less at. omega (arith, same i n (omega arith) (omega arith) at here)))
      | inr other ↦ omega (arith, count-suc n t, ap one other, count-once n t (λ i j hi hj. same i j (omega arith) (omega arith)))
    ]

-- the numbers below a + b, counted in two parts
pub count-add : (a b : ℕ) (t : ℕ → Bool) → count_below (a + b) t ≡ count_below a t + count_below b (λ i. t (a + i))
count-add a zero t = let e : a + 0 ≡ a = omega arith in rw e (omega (arith, count-zero (λ i. t (a + i))))
count-add a (suc b) t =
    let e : a + suc b ≡ suc (a + b) = omega arith in
    rw e (omega (arith, count-add a b t, count-suc (a + b) t, count-suc b (λ i. t (a + i))))

-- how many numbers below n are r: one, or none if r is not below n
pub count-one : (n r : ℕ) → count_below n (λ y. r == y) ≡ min 1 (n - r)
count-one zero r = count-zero (λ y. r == y) ∙ omega arith
count-one (suc n) r = count-suc n (λ y. r == y) ∙ grind (arith, nat_tests, count-one n r)

-- a matrix in which each row passes at exactly one column, `f row`
pub count-rows : (rows side : ℕ) (f : ℕ → ℕ) (t : ℕ → Bool) → ((r : ℕ) → r < rows → f r < side)
    → ((r y : ℕ) → r < rows → y < side → t (r * side + y) ≡ (f r == y)) → count_below (rows * side) t ≡ rows
count-rows zero side f t inside at = let e : zero * side ≡ 0 = omega arith in rw e (count-zero t)
count-rows (suc r) side f t inside at =
    let e : suc r * side ≡ r * side + side = omega arith in
    let before : count_below (r * side) t ≡ r = count-rows r side f t (λ q h. inside q (omega arith)) (λ q y h. at q y (omega arith)) in
    let row : count_below side (λ y. t (r * side + y)) ≡ count_below side (λ y. f r == y) = count-same side _ _ (λ y h. at r y (omega arith) h) in
    rw e (omega (arith, count-add (r * side) side t, count-one side (f r), inside r (omega arith)))

pub count-off_diagonal : (side : ℕ) → count_below (side * side) (λ p. not (p / side == p % side)) ≡ side * (side - 1)
count-off_diagonal side =
    let diagonal = count-rows side side (λ r. r) (λ p. p / side == p % side) (λ r h. h) (λ r y h k. rw (div-mul-add r side y k, mod-mul-add r side y k) refl) in
    omega (arith, count-not (side * side) (λ p. p / side == p % side), diagonal, mul-pred side)

-- how many numbers below n are below k
count-below : (n k : ℕ) → count_below n (λ x. nat_lt x k) ≡ min k n
count-below zero k = count-zero (λ x. nat_lt x k) ∙ omega arith
count-below (suc n) k = count-suc n (λ x. nat_lt x k) ∙ grind (arith, nat_tests, count-below n k)

-- a matrix in which row r passes at its first `first r` columns, where `all` grows at r by that number
pub count-first : (side rows : ℕ) (first all : ℕ → ℕ) → ((r : ℕ) → r < rows → (first r ≤ side) × (all (suc r) ≡ all r + first r))
    → count_below (rows * side) (λ i. nat_lt (i % side) (first (i / side))) + all 0 ≡ all rows
count-first side zero first all next = let e : zero * side ≡ 0 = omega arith in rw e (omega (arith, count-zero (λ i. nat_lt (i % side) (first (i / side)))))
count-first side (suc r) first all next =
    let t : ℕ → Bool = λ i. nat_lt (i % side) (first (i / side)) in
    let e : suc r * side ≡ r * side + side = omega arith in
    let last = next r (omega arith) in
    let row : count_below side (λ x. t (r * side + x)) ≡ count_below side (λ x. nat_lt x (first r)) =
    count-same side (λ x. t (r * side + x)) (λ x. nat_lt x (first r)) (λ x h. rw (div-mul-add r side x h, mod-mul-add r side x h) refl) in
    rw e
    (omega (
      arith,
      count-add (r * side) side t,
      count-first side r first all (λ q less. next q (omega arith)),
      row,
      count-below side (first r),
      last,
    ))

-- a test with the same result for all numbers
count-constant : (n : ℕ) (b : Bool) → count_below n (λ i. b) ≡ n * one b
count-constant n true = omega (arith, count-all n)
count-constant n false = omega (arith, count-none n (λ i. false) (λ i less e. both_ways false refl e))

-- each number is counted `often` times
pub count-times : (n often : ℕ) (t : ℕ → Bool) → count_below (n * often) (λ i. t (i / often)) ≡ often * count_below n t
count-times zero often t = let e : zero * often ≡ 0 = omega arith in rw e (count-zero (λ i. t (i / often)) ∙ omega (arith, ap (λ c. often * c) (count-zero t)))
count-times (suc n) often t =
    let e : suc n * often ≡ n * often + often = omega arith in
    let same : count_below often (λ i. t ((n * often + i) / often)) ≡ count_below often (λ i. t n) =
    count-same often (λ i. t ((n * often + i) / often)) (λ i. t n) (λ i h. rw (div-mul-add n often i h) refl) in
    rw e
    (omega (
      arith,
      count-add (n * often) often (λ i. t (i / often)),
      count-times n often t,
      same,
      count-constant often (t n),
      ap (λ c. often * c) (count-suc n t),
    ))

-- each number is counted for an even number and for the next one
pub count-twice : (n : ℕ) (t : ℕ → Bool) → count_below (2 * n) (λ k. t (k / 2)) ≡ 2 * count_below n t
count-twice n t = ap (λ m. count_below m (λ k. t (k / 2))) (omega arith) ∙ count-times n 2 t

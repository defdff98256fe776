-- How many numbers of k bits are below their reverse: one of each pair that is exchanged.
use Rattle.std.proofs.Common.{◌≡◌, ℕ, zero, suc, Bool, true, nat_lt, ◌+◌, ◌*◌, ◌/◌, ◌^◌, ◌<◌, ◌≤◌, refl, ◌∙◌, ap, pow-suc, arith}
use Rattle.std.proofs.Math.Nat.{pow-le-pow_right}
use Rattle.std.proofs.lemmas.Bool.Decides.{nat_tests}
use Rattle.p3_util_kernels.specs.Digits.{rev}
use Rattle.p3_util_kernels.specs.Least.{count_below}
use Rattle.p3_util_kernels.specs.SwapCounts.{short_swaps}
use Rattle.p3_util_kernels.proofs.BitsLemmas.Digits.{rev-lt, rev-one, rev-parts}
use Rattle.p3_util_kernels.proofs.LawsLemmas.Counts.{count-add, count-all, count-none, count-same, count-suc, count-zero, one}

-- the row x is exchanged with a later one
abbrev pub goes_up : (k x : ℕ) → Bool
goes_up k x = nat_lt x (rev k x)

-- even numbers and odd ones
count-parity : (n : ℕ) (t : ℕ → Bool) → count_below (2 * n) t ≡ count_below n (λ m. t (2 * m)) + count_below n (λ m. t (2 * m + 1))
count-parity zero t = let e : 2 * zero ≡ zero = omega arith in rw e (omega (arith, count-zero))
count-parity (suc n) t =
    let e : 2 * suc n ≡ suc (suc (2 * n)) = omega arith in
    let odd : suc (2 * n) ≡ 2 * n + 1 = omega arith in
    rw e
    (omega (
      arith,
      count-parity n t,
      count-suc (suc (2 * n)) t,
      count-suc (2 * n) t,
      count-suc n (λ m. t (2 * m)),
      count-suc n (λ m. t (2 * m + 1)),
      ap (λ p. one (t p)) odd,
    ))

-- a number with one more digit above, and one more below
around : (k a m b : ℕ) → a < 2 → m < 2 ^ k → b < 2 → rev (1 + (k + 1)) (a * 2 ^ (k + 1) + (m * 2 ^ 1 + b)) ≡ (b * 2 ^ k + rev k m) * 2 + a
around k a m b ha hm hb =
    let split : 2 ^ (k + 1) ≡ 2 ^ k * 2 = ap (λ n. 2 ^ n) (omega arith) ∙ pow-suc 2 k in
    let low : m * 2 ^ 1 + b < 2 ^ (k + 1) = omega arith in
    rev-parts 1 (k + 1) a (m * 2 ^ 1 + b) low
    ∙ rw (rev-parts k 1 m b hb, rev-one 1 b (omega arith) hb, rev-one 1 a (omega arith) ha) refl

up-outer : (k a m b : ℕ) → a < 2 → m < 2 ^ k → b < 2 → goes_up (1 + (k + 1)) (a * 2 ^ (k + 1) + (2 * m + b)) ≡ nat_lt (a * 2 ^ (k + 1) + (2 * m + b)) ((b * 2 ^ k + rev k m) * 2 + a)
up-outer k a m b ha hm hb =
    let e : m * 2 ^ 1 + b ≡ 2 * m + b = omega arith in
    let turned = rw e at (around k a m b ha hm hb) in
    ap (λ n. nat_lt (a * 2 ^ (k + 1) + (2 * m + b)) n) turned

-- all numbers but those that are their own reverse form pairs
twice : (k : ℕ) → 2 * short_swaps k + 2 ^ ((k + 1) / 2) ≡ 2 ^ k
twice zero = omega arith
twice (suc k) =
    let half : (suc k + 1) / 2 ≡ suc (k / 2) = omega arith in
    let less : k / 2 ≤ k = omega arith in
    let powers : 2 ^ (k / 2) ≤ 2 ^ k = pow-le-pow_right (omega arith) less in
    rw half (omega (arith, powers, pow-suc 2 k, pow-suc 2 (k / 2)))

pub count-up : (k : ℕ) → count_below (2 ^ k) (goes_up k) ≡ short_swaps k
count-up zero = count-none (2 ^ 0) (goes_up 0) (λ i less up. grind (arith, nat_tests, rev-lt 0 i, up)) ∙ omega arith
count-up (suc zero) = count-none (2 ^ 1) (goes_up 1) (λ i less up. grind (arith, nat_tests, rev-one 1 i (omega arith) less, up)) ∙ omega arith
count-up (suc (suc k)) =
    let n = 2 ^ k in
    let digits : suc (suc k) ≡ 1 + (k + 1) = omega arith in
    let half : 2 ^ (k + 1) ≡ 2 * n = ap (λ e. 2 ^ e) (omega arith) ∙ pow-suc 2 k ∙ omega arith in
    let all : 2 ^ (1 + (k + 1)) ≡ 2 * n + 2 * n = ap (λ e. 2 ^ e) (omega arith) ∙ pow-suc 2 (k + 1) ∙ omega (arith, half) in
    let t : ℕ → Bool = goes_up (1 + (k + 1)) in
    let both : (a b : ℕ) → a < 2 → b ≡ a → (m : ℕ) → m < n → t (a * (2 * n) + (2 * m + b)) ≡ goes_up k m =
    λ a b ha e m h. grind (arith, nat_tests, half, rw half at (up-outer k a m b ha h (omega arith)), rev-lt k m) in
    let low_even : count_below n (λ m. t (2 * m)) ≡ count_below n (goes_up k) =
    count-same n _ _ (λ m h. let e : 0 * (2 * n) + (2 * m + 0) ≡ 2 * m = omega arith in rw e at (both 0 0 (omega arith) refl m h)) in
    let low_odd : count_below n (λ m. t (2 * m + 1)) ≡ n =
    count-same n _ (λ m. true)
    (λ m h.
    let e : 0 * (2 * n) + (2 * m + 1) ≡ 2 * m + 1 = omega arith in
    let up = rw (half, e) at (up-outer k 0 m 1 (omega arith) h (omega arith)) in
    grind (arith, nat_tests, up)) ∙ count-all n in
    let high_even : count_below n (λ m. t (2 * n + 2 * m)) ≡ 0 =
    count-none n _
    (λ m h is.
    let e : 1 * (2 * n) + (2 * m + 0) ≡ 2 * n + 2 * m = omega arith in
    let up = rw (half, e) at (up-outer k 1 m 0 (omega arith) h (omega arith)) in
    grind (arith, nat_tests, up, is, rev-lt k m)) in
    let high_odd : count_below n (λ m. t (2 * n + (2 * m + 1))) ≡ count_below n (goes_up k) =
    count-same n _ _ (λ m h. let e : 1 * (2 * n) + (2 * m + 1) ≡ 2 * n + (2 * m + 1) = omega arith in rw e at (both 1 1 (omega arith) refl m h)) in
    let ceil : (1 + (k + 1) + 1) / 2 ≡ suc ((k + 1) / 2) = omega arith in
    rw (digits, all)
    (omega (
      arith,
      count-add (2 * n) (2 * n) t,
      count-parity n t,
      count-parity n (λ i. t (2 * n + i)),
      low_even,
      low_odd,
      high_even,
      high_odd,
      count-up k,
      twice k,
      ap (λ e. 2 ^ e) ceil,
      pow-suc 2 ((k + 1) / 2),
      all,
    ))

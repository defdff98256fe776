-- The logarithm to base 2, rounded up.
use Rattle.std.proofs.Common.{◌≡◌, ℕ, zero, suc, ◌+◌, ◌-◌, ◌*◌, ◌/◌, ◌%◌, ◌^◌, ◌<◌, ◌≤◌, cond, ltb, inl, inr, ◌∙◌, ap, sym, min, pow-add, pow_mono, arith}
use Rattle.std.proofs.Math.Nat.{pow-suc, pow-le-pow_right}
use Rattle.std.proofs.lemmas.Bool.{cases_lt}
use Rattle.std.proofs.lemmas.Bool.Decides.{nat_tests}
use Rattle.p3_util_kernels.specs.Logarithms.{clog}
use Rattle.p3_util_kernels.specs.Sums.{sum_below}
use Rattle.p3_util_kernels.proofs.BitsLemmas.Powers.{below_power, exponent-le, power-even}

-- the least exponent whose power is at least n
least_power : (n bound : ℕ) → n ≤ 2 ^ bound → (k : ℕ) × (n ≤ 2 ^ k) × ((e : ℕ) → e < k → 2 ^ e < n)
least_power n zero h = (0, h, λ e less. absurd (omega arith))
least_power n (suc b) h =
    elim (cases_lt (2 ^ b) n) [
      | inl less ↦ (suc b, h, λ e k. let up : 2 ^ e ≤ 2 ^ b = pow-le-pow_right (omega arith) (omega arith) in omega arith)
      | inr le ↦ least_power n b le
    ]

-- how many powers of two are below n
counted_to : (n k m : ℕ) → n ≤ 2 ^ k → ((e : ℕ) → e < k → 2 ^ e < n) → sum_below m (λ e. cond (ltb (2 ^ e) n) 1 0) ≡ min m k
unfolding sum_below
counted_to n k zero h below = omega arith
counted_to n k (suc m) h below =
    let before : sum_below m (λ e. cond (ltb (2 ^ e) n) 1 0) ≡ min m k = counted_to n k m h below in
    let last = below m in
    grind (arith, nat_tests, last, before, pow_mono {i = k} {j = m})

clog_is : (n : ℕ) → (n ≤ 2 ^ clog n) × ((e : ℕ) → e < clog n → 2 ^ e < n)
unfolding clog
clog_is n =
    let least = least_power n n (omega (arith, below_power n)) in
    let within : least.0 ≤ n = grind (arith, least.2 n, below_power n) in
    let same : clog n ≡ least.0 = counted_to n least.0 n least.1 least.2 ∙ omega arith in
    rw same (least.1, least.2)

-- `clog` has the properties that `log2_ceil_usize` promises
pub clog-enough : (n : ℕ) → n ≤ 2 ^ clog n
clog-enough n = (clog_is n).0

pub clog-least : (n e : ℕ) → n ≤ 2 ^ e → clog n ≤ e
clog-least n e h = grind (arith, (clog_is n).1 e)

-- no other number has these properties
pub clog_only : (n e : ℕ) → n ≤ 2 ^ e → ((d : ℕ) → n ≤ 2 ^ d → e ≤ d) → e ≡ clog n
clog_only n e enough least = omega (arith, clog-least n e enough, least (clog n) (clog-enough n))

-- the least exponent whose power is at least n has a power below 2n
pub below_double : (n e : ℕ) → ((d : ℕ) → n ≤ 2 ^ d → e ≤ d) → 0 < n → 2 ^ e < 2 * n
below_double n zero least some = omega arith
below_double n (suc e) least some = grind (arith, pow-suc 2 e, least e)

-- the exponent before the least one has a power below n
pub tight_below : (n e : ℕ) → ((d : ℕ) → n ≤ 2 ^ d → e ≤ d) → 1 < n → 2 ^ (e - 1) < n
tight_below n zero least some = some
tight_below n (suc e) least some =
    let one : suc e - 1 ≡ e = omega arith in
    rw one (grind (arith, least e))

-- the logarithm of a power of two, and of zero
pub clog_power : (n k : ℕ) → n ≡ 2 ^ k → clog n ≡ k
clog_power n k e = sym (clog_only n k (omega arith) (λ d h. exponent-le k d (omega arith)))

pub clog-zero : (n : ℕ) → n ≡ 0 → clog n ≡ 0
clog-zero n e = sym (clog_only n 0 (omega arith) (λ d h. omega arith))

-- if n is above 2 ^ e, its logarithm is above e
pub clog-above : (n e : ℕ) → 2 ^ e < n → e < clog n
clog-above n e h = grind (arith, clog-enough n, pow_mono {i = clog n} {j = e})

-- if the logarithm of n is e + 1, n is at least 2 ^ e
pub clog-high : (n : ℕ) → 0 < clog n → 2 ^ (clog n - 1) ≤ n
clog-high n h = grind (arith, clog-least n (clog n - 1))

-- the logarithm of the larger half is one less
pub clog-half : (n : ℕ) → 2 ≤ n → clog (n - n / 2) + 1 ≡ clog n
clog-half n h =
    let two = power-even (clog n) (clog-above n 0 (omega arith)) in
    let up = clog-least (n - n / 2) (clog n - 1) (omega (arith, clog-enough n)) in
    let down = clog-least n (suc (clog (n - n / 2))) (omega (arith, clog-enough (n - n / 2), pow-suc 2 (clog (n - n / 2)))) in
    omega (arith, clog-above n 0 (omega arith), up, down)

-- a smaller number has no greater logarithm
pub clog-le : (m n : ℕ) → m ≤ n → clog m ≤ clog n
clog-le m n h = clog-least m (clog n) (omega (arith, clog-enough n))

-- if a number above 8 is halved at a multiple of 8, both parts have smaller logarithms
pub clog-tiles : (n h : ℕ) → 8 < n → h % 8 ≡ 0 → 2 * h < n + 16 → clog h < clog n
clog-tiles n h some whole up =
    let more = clog-above n 3 some in
    let p : ℕ = 2 ^ (clog n - 4) in
    let parts : clog n ≡ clog n - 4 + 4 = omega arith in
    let most : 2 ^ clog n ≡ p * 16 = ap (λ e. 2 ^ e) parts ∙ pow-add 2 (clog n - 4) 4 in
    let parts' : clog n - 1 ≡ clog n - 4 + 3 = omega arith in
    let less : 2 ^ (clog n - 1) ≡ p * 8 = ap (λ e. 2 ^ e) parts' ∙ pow-add 2 (clog n - 4) 3 in
    omega (arith, more, clog-least h (clog n - 1) (omega (arith, clog-enough n, most, less)))

pub clog-rest : (n h : ℕ) → 8 < n → h % 8 ≡ 0 → n ≤ 2 * h → 2 * h < n + 16 → clog (n - h) < clog n
clog-rest n h some whole half up = omega (arith, clog-le (n - h) h (omega arith), clog-tiles n h some whole up)

-- Laws of powers of two, and what std's test for them means.
use Rattle.std.proofs.Common.{◌≡◌, ℕ, zero, suc, ◌+◌, ◌-◌, ◌*◌, ◌^◌, ◌<◌, ◌≤◌, ◌↔◌, IsTrue, w64, refl, sym, ◌∙◌, ap, add-one, eqb-true, eq-eqb, pow_mono, arith}
use Rattle.std.proofs.Math.Nat.{pow-suc, pow-le-pow_right, one-le-pow}
use Rattle.std.proofs.lemmas.Nat.{pow_pos, pow_below, zero_from_ones, leading_length, leading_top}
use Rattle.std.proofs.lemmas.Nat.Bits.{bit_at-pow_other, bit_at-trailing_zeros}
use Rattle.std.specs.Int.{IsPowerOfTwo, is_power_of_two, bit_at, trailing_zeros}
use Rattle.p3_util_kernels.specs.Powers.{IsPowerOfThree}
use Rattle.std.specs.Int.Count.{count_leading_zeros, ones, ones_in, ones_cat}

-- a power of two that is no greater than another one has no greater exponent
pub exponent-le : (a b : ℕ) → 2 ^ a ≤ 2 ^ b → a ≤ b
exponent-le a b h = grind (arith, pow_below b a)

pub exponent-same : (a b : ℕ) → 2 ^ a ≡ 2 ^ b → a ≡ b
exponent-same a b e = grind (arith, exponent-le a b, exponent-le b a)

-- a power of two below twice another one is no greater than that one
pub exponent-lt : (a b : ℕ) → 2 ^ a < 2 * 2 ^ b → a ≤ b
exponent-lt a b h = grind (arith, pow-suc 2 b, pow_mono {i = suc b} {j = a})

-- a power of two above 1 is even
pub power-even : (k : ℕ) → 0 < k → 2 ^ k ≡ 2 * 2 ^ (k - 1)
power-even zero some = absurd (omega arith)
power-even (suc k) some = let before : suc k - 1 ≡ k = omega arith in rw (before, pow-suc) (omega arith)

ones_of_zero : ones 0 ≡ 0
unfolding ones ones_in
ones_of_zero = refl

ones_of_one : ones 1 ≡ 1
unfolding ones ones_in
ones_of_one = refl

-- a number is below the power with itself as the exponent
pub below_power : (n : ℕ) → n < 2 ^ n
below_power zero = omega arith
below_power (suc n) = omega (arith, below_power n, pow-suc 2 n)

-- the place of the highest digit that is set
pub highest : (n : ℕ) → 0 < n → (j : ℕ) × (2 ^ j ≤ n) × (n < 2 ^ suc j)
highest n some = let (j, at, low, high) = leading_top n n some (below_power n) in (j, low, high)

-- a number with one digit set is a power
from_ones : (n : ℕ) → ones n ≡ 1 → IsPowerOfTwo n
from_ones zero one = absurd (omega (arith, ones_of_zero))
from_ones (suc m) one =
    let (j, low, high) = highest (suc m) (omega arith) in
    let split : 1 * 2 ^ j + (suc m - 2 ^ j) ≡ suc m = omega arith in
    let parts = rw split at (ones_cat j 1 (suc m - 2 ^ j) (omega (arith, pow-suc 2 j))) in
    let rest = zero_from_ones (suc m - 2 ^ j) (omega (arith, ones_of_one)) in
    (j, omega arith)

power-ones : (k : ℕ) → ones (2 ^ k) ≡ 1
power-ones k =
    let e : 1 * 2 ^ k + 0 ≡ 2 ^ k = omega arith in
    sym (ap ones e) ∙ ones_cat k 1 0 (pow_pos k) ∙ omega (arith, ones_of_zero, ones_of_one)

-- `n.is_power_of_two()` is true exactly if n is a power of two
pub power_of_two_test : (n : ℕ) → IsTrue (is_power_of_two n) ↔ IsPowerOfTwo n
power_of_two_test n = (
  λ t. from_ones n (eqb-true (ones n) 1 t),
  λ p. eq-eqb (ones n) 1 (ap ones p.1 ∙ power-ones p.0),
)

-- the only digit 1 of a power of two is its lowest digit 1
pub lowest-power : (n k : ℕ) → n ≡ 2 ^ k → n < 2 ^ 64 → trailing_zeros w64 n ≡ k
lowest-power n k is fits =
    let place = trailing_zeros w64 n in
    let lowest = bit_at-trailing_zeros w64 n (omega (arith, pow_pos k)) fits in
    grind (arith, lowest, bit_at-pow_other k place, ap (λ m. bit_at m place) is)

-- if a has d digits, and d is at most k, 2 ^ d is above a and no lower power of two is
pub digits_above : (k a : ℕ) → a < 2 ^ k → a < 2 ^ (k - count_leading_zeros k a)
digits_above k a fits =
    let length = leading_length k a fits in
    let digits : k - count_leading_zeros k a ≡ length.0 = omega (arith, length.1) in
    rw digits length.2

pub digits_least : (k a e : ℕ) → a < 2 ^ k → a < 2 ^ e → k - count_leading_zeros k a ≤ e
digits_least k a e fits above =
    let length = leading_length k a fits in
    grind (arith, length.1, length.3, pow-suc 2 e, pow_mono {i = suc e} {j = length.0})

pub three-pos : (e : ℕ) → 0 < 3 ^ e
three-pos e = one-le-pow e 3 (omega arith)

-- of two different powers of three, the greater one is at least three times the smaller one
pub three-steps : (d e : ℕ) → d < e → 3 * 3 ^ d ≤ 3 ^ e
three-steps d e less = let up : 3 ^ suc d ≤ 3 ^ e = pow-le-pow_right (omega arith) less in omega (arith, pow-suc 3 d)

-- equal powers of three have equal exponents
pub three-only : (d e : ℕ) → 3 ^ d ≡ 3 ^ e → d ≡ e
three-only d e same = grind (arith, three-steps d e, three-steps e d, three-pos d, three-pos e)

-- two powers of three that are below one power of two and at least half of it are equal
pub three-apart : (d e top : ℕ) → 2 ^ top ≤ 3 ^ d → 3 ^ d < 2 ^ (top + 1) → 2 ^ top ≤ 3 ^ e → 3 ^ e < 2 ^ (top + 1) → d ≡ e
three-apart d e top d_low d_high e_low e_high =
    let twice : 2 ^ (top + 1) ≡ 2 ^ top * 2 = rw add-one (pow-suc 2 top) in
    grind (arith, three-steps d e, three-steps e d)

-- the powers of three that fit 64 bits are the first 41
pub three-fits : (e : ℕ) → 3 ^ e < 2 ^ 64 ↔ e < 41
three-fits e = (
  λ small. grind (arith, pow-le-pow_right {n = 3} (omega arith) {i = 41} {j = e}),
  λ less. grind (arith, pow-le-pow_right {n = 3} (omega arith) {i = e} {j = 40}),
)

-- If a power of three has its highest binary digit at place `top`, it is the greatest power of
-- three below 2 ^ (top + 1).
pub three-greatest : (x e top : ℕ) → 3 ^ x < 2 ^ (top + 1) → 2 ^ (top + 1) ≤ 3 ^ (x + 1) → 2 ^ top ≤ 3 ^ e → 3 ^ e < 2 ^ (top + 1) → x ≡ e
three-greatest x e top below next low high =
    let twice : 2 ^ (top + 1) ≡ 2 ^ top * 2 = rw add-one (pow-suc 2 top) in
    grind (arith, pow-le-pow_right {n = 3} (omega arith) {i = x + 1} {j = e}, three-steps e x)

-- Let x be the exponent of the power of three whose highest binary digit is at place `top`, if
-- there is one. If n has its highest digit there too and is a power of three, n is 3 ^ x.
pub three-strict : (n top x : ℕ) → 2 ^ top ≤ n → n < 2 * 2 ^ top
    → ((e : ℕ) → 2 ^ top ≤ 3 ^ e → 3 ^ e < 2 ^ (top + 1) → x ≡ e)
    → IsPowerOfThree n → n ≡ 3 ^ x
three-strict n top x low high found (e, is) =
    let twice : 2 ^ (top + 1) ≡ 2 ^ top * 2 = rw add-one (pow-suc 2 top) in
    let same : x ≡ e = found e (omega arith) (omega arith) in
    is ∙ ap (λ k. 3 ^ k) (sym same)

-- the greater of two powers has the greater exponent
pub ruleset exponents = (exponent-lt)

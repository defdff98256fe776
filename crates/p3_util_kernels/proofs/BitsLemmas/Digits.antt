-- Laws of binary digits, and of the reversal of digits.
use Rattle.std.proofs.Common.{◌≡◌, ℕ, zero, suc, ◌+◌, ◌-◌, ◌*◌, ◌/◌, ◌%◌, ◌^◌, ◌<◌, ◌≤◌, refl, sym, ◌∙◌, ap, arith}
use Rattle.std.proofs.Math.Nat.{pow-suc, div-one, mod-eq_of_lt, mul-mod_left}
use Rattle.std.proofs.lemmas.Nat.{pow_pos, pow-add, shr_split, shr-shr, mod_below, div-mul-add, mod-mul-add, mul-add-lt, shl-shr}
use Rattle.std.proofs.lemmas.Nat.Bits.{bit_at-lt, bit_at-suc, bit_at-zero, bit_at_cat_low, same_from_bits_below}
use Rattle.p3_util_kernels.specs.Digits.{bit, rev, rev_word}
use Rattle.p3_util_kernels.specs.Sums.{sum_below}
use Rattle.p3_util_kernels.proofs.BitsLemmas.Sums.{sum_below-same, sum_below-scale}

-- the digits below place k are those of x % 2 ^ k
pub bit-mod : (x k i : ℕ) → i < k → bit (x % 2 ^ k) i ≡ bit x i
bit-mod x k i h =
    let e : bit (x / 2 ^ k * 2 ^ k + x % 2 ^ k) i ≡ bit (x % 2 ^ k) i = bit_at_cat_low (x / 2 ^ k) k (x % 2 ^ k) i h in
    sym e ∙ ap (λ n. bit n i) (shr_split x k)

-- reversing no digits gives 0
pub rev-zero : (x : ℕ) → rev zero x ≡ 0
unfolding rev sum_below
rev-zero x = refl

-- with one more digit, the new digit becomes the lowest one
pub rev-suc : (k x : ℕ) → rev (suc k) x ≡ 2 * rev k x + bit x k
unfolding rev sum_below
rev-suc k x =
    let shorter : ℕ → ℕ = λ i. bit x i * 2 ^ (k - 1 - i) in
    let longer : ℕ → ℕ = λ i. bit x i * 2 ^ (suc k - 1 - i) in
    let same : (i : ℕ) → i < k → longer i ≡ 2 * shorter i =
    λ i h. let above : suc k - 1 - i ≡ suc (k - 1 - i) = omega arith in rw (above, pow-suc) (grind arith) in
    let below : sum_below k longer ≡ 2 * sum_below k shorter =
    sum_below-same k longer (λ i. 2 * shorter i) same ∙ sum_below-scale 2 k shorter in
    let e : suc k - 1 - k ≡ 0 = omega arith in
    let last : longer k ≡ bit x k = rw e (omega arith) in
    cc

-- reversing k digits gives a number of k digits
pub rev-lt : (k x : ℕ) → rev k x < 2 ^ k
rev-lt zero x = rw (rev-zero x) (omega arith)
rev-lt (suc k) x = rw (rev-suc k x) (rw pow-suc (omega (arith, rev-lt k x, bit_at-lt x k)))

-- only the k low digits are read
pub rev-mod : (k x : ℕ) → rev k (x % 2 ^ k) ≡ rev k x
unfolding rev
rev-mod k x = sum_below-same k _ _ (λ i less. ap (λ b. b * 2 ^ (k - 1 - i)) (bit-mod x k i less))

-- a digit below the digits of r is the lowest digit, and those of r come above it
double_bit : (r b : ℕ) → b < 2 → bit (2 * r + b) 0 ≡ b
double_bit r b h = rw (div-one (2 * r + b)) (omega arith)

double_bits : (r b i : ℕ) → b < 2 → bit (2 * r + b) (suc i) ≡ bit r i
double_bits r b i h =
    let half : (2 * r + b) / 2 ≡ r = omega arith in
    bit_at-suc (2 * r + b) i ∙ ap (λ n. bit n i) half

-- digit i of the reversed number is digit k - 1 - i of the number
pub bit-rev : (k x i : ℕ) → i < k → bit (rev k x) i ≡ bit x (k - 1 - i)
bit-rev zero x i h = absurd (omega arith)
bit-rev (suc k) x zero h = rw (rev-suc k x) (double_bit (rev k x) (bit x k) (bit_at-lt x k) ∙ ap (λ j. bit x j) (omega arith))
bit-rev (suc k) x (suc i) h =
    rw (rev-suc k x) (double_bits (rev k x) (bit x k) i (bit_at-lt x k) ∙ bit-rev k x i (omega arith) ∙ ap (λ j. bit x j) (omega arith))

-- reversing k digits twice gives the k low digits back
pub rev-rev : (k x : ℕ) → rev k (rev k x) ≡ x % 2 ^ k
rev-rev k x =
    same_from_bits_below k (rev k (rev k x)) (x % 2 ^ k) (rev-lt k (rev k x)) (mod_below x (2 ^ k) (pow_pos k))
    (λ i h.
    bit-rev k (rev k x) i h ∙ bit-rev k x (k - 1 - i) (omega arith)
    ∙ ap (λ j. bit x j) (omega arith) ∙ sym (bit-mod x k i h))

-- for numbers of k digits, reversal is its own inverse
pub rev-rev-below : (k x : ℕ) → x < 2 ^ k → rev k (rev k x) ≡ x
rev-rev-below k x h = rev-rev k x ∙ mod-eq_of_lt h

-- the reversed low digits are the high part of the result, and the reversed high digits the low part
pub rev-add : (j k x : ℕ) → rev (j + k) x ≡ rev k x * 2 ^ j + rev j (x / 2 ^ k)
rev-add zero k x =
    let e : 0 + k ≡ k = omega arith in
    rw (e, rev-zero (x / 2 ^ k)) (omega arith)
rev-add (suc j) k x =
    let e : suc j + k ≡ suc (j + k) = omega arith in
    let d : bit x (j + k) ≡ bit (x / 2 ^ k) j = ap (λ i. bit x i) (omega arith) ∙ sym (ap (λ n. n % 2) (shr-shr x k j)) in
    let low : rev (j + k) x ≡ rev k x * 2 ^ j + rev j (x / 2 ^ k) = rev-add j k x in
    let p : 2 ^ suc j ≡ 2 ^ j * 2 = pow-suc 2 j in
    rw (e, rev-suc (j + k) x, rev-suc j (x / 2 ^ k), p, d, low) (grind arith)

-- the same for a number in two parts
pub rev-parts : (j k a y : ℕ) → y < 2 ^ k → rev (j + k) (a * 2 ^ k + y) ≡ rev k y * 2 ^ j + rev j a
rev-parts j k a y h =
    let high : (a * 2 ^ k + y) / 2 ^ k ≡ a = div-mul-add a (2 ^ k) y h in
    let low : rev k (a * 2 ^ k + y) ≡ rev k y = sym (rev-mod k (a * 2 ^ k + y)) ∙ ap (rev k) (mod-mul-add a (2 ^ k) y h) in
    rev-add j k (a * 2 ^ k + y) ∙ rw (high, low) refl

-- a number of at most one digit is its own reverse
pub rev-one : (d m : ℕ) → d ≤ 1 → m < 2 ^ d → rev d m ≡ m
rev-one zero m few h = rw (rev-zero m) (omega arith)
rev-one (suc zero) m few h = rw (rev-suc zero m, rev-zero m, div-one m) (omega arith)
rev-one (suc (suc d)) m few h = absurd (omega arith)

-- a number that consists of a middle part and low digits
pub middle-below : (q d m y : ℕ) → m < 2 ^ d → y < 2 ^ q → m * 2 ^ q + y < 2 ^ (d + q)
middle-below q d m y middle h = rw (pow-add 2 d q) (omega (arith, mul-add-lt m (2 ^ q) y (2 ^ d) middle h))

-- The same for a number in three parts: q digits, at most one digit, and q digits. The middle part stays in the middle.
pub rev-around : (q d a m y : ℕ) → d ≤ 1 → m < 2 ^ d → y < 2 ^ q
    → rev (q + (d + q)) (a * 2 ^ (d + q) + (m * 2 ^ q + y)) ≡ rev q y * 2 ^ (d + q) + (m * 2 ^ q + rev q a)
rev-around q d a m y few middle h =
    let split : 2 ^ (d + q) ≡ 2 ^ d * 2 ^ q = pow-add 2 d q in
    rw (rev-parts q (d + q) a (m * 2 ^ q + y) (middle-below q d m y middle h), rev-parts d q m y h, rev-one d m few middle, split) (grind arith)

-- `rev_word 0` reverses all 64 digits, and for other numbers of digits `rev_word` is `rev`
pub rev_word-zero : (x : ℕ) → rev_word 0 x ≡ rev 64 x
unfolding rev_word
rev_word-zero x = refl

pub rev_word-above : (k x : ℕ) → 0 < k → rev_word k x ≡ rev k x
unfolding rev_word
rev_word-above zero x h = absurd (omega arith)
rev_word-above (suc k) x h = refl

-- the k low digits, reversed, are the k highest of the 64 reversed digits r; if k is 0, the result is all of r
pub rev_word-shr : (r k s x : ℕ) → r ≡ rev 64 x → (k ≡ 0 → s ≡ 0) → (0 < k → s + k ≡ 64) → r / 2 ^ s ≡ rev_word k x
rev_word-shr r zero s x is whole part = rw (whole refl, div-one r) (is ∙ sym (rev_word-zero x))
rev_word-shr r (suc k) s x is whole part =
    let e : s + suc k ≡ 64 = part (omega arith) in
    let high = div-mul-add (rev (suc k) x) (2 ^ s) (rev s (x / 2 ^ suc k)) (rev-lt s (x / 2 ^ suc k)) in
    rw (is, ← e, rev-add s (suc k) x, rev_word-above (suc k) x (omega arith)) high

-- the reverse of 0 is 0
pub rev-of-zero : (k : ℕ) → rev k 0 ≡ 0
rev-of-zero zero = rev-zero 0
rev-of-zero (suc k) = rw (rev-suc k 0, rev-of-zero k, bit_at-zero k) refl

-- reversing a number of k digits twice gives it back
pub rev_word-twice : (k x r : ℕ) → r ≡ rev_word k x → x < 2 ^ k → rev_word k r ≡ x
rev_word-twice zero x r e h =
    let none : x ≡ 0 = omega arith in
    let whole : r ≡ 0 = e ∙ rev_word-zero x ∙ ap (rev 64) none ∙ rev-of-zero 64 in
    rev_word-zero r ∙ ap (rev 64) whole ∙ rev-of-zero 64 ∙ sym none
rev_word-twice (suc k) x r e h =
    let some : 0 < suc k = omega arith in
    let once : r ≡ rev (suc k) x = e ∙ rev_word-above (suc k) x some in
    rev_word-above (suc k) r some ∙ ap (rev (suc k)) once ∙ rev-rev-below (suc k) x h

-- a number with s zeros below its digits
pub rev-shl : (q s a : ℕ) → rev (q + s) (a * 2 ^ s) ≡ rev q a
rev-shl q s a =
    let low : rev s (a * 2 ^ s) ≡ 0 = sym (rev-mod s (a * 2 ^ s)) ∙ ap (rev s) (mul-mod_left a (2 ^ s)) ∙ rev-of-zero s in
    rw (rev-add q s (a * 2 ^ s), low, shl-shr a s) (omega arith)

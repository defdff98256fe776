-- Remainders of sums, of products and of powers of numbers, such as -1, whose square is 1.
use Rattle.std.proofs.Common.{◌≡◌, ℕ, zero, suc, ◌+◌, ◌-◌, ◌*◌, ◌/◌, ◌%◌, ◌^◌, ◌<◌, refl, sym, ap, ◌∙◌, arith}
use Rattle.std.proofs.Math.Nat.{add-mul-mod_self_right, add-mod-mod, mod-add-mod, pow-suc, pow-zero}
use Rattle.std.proofs.lemmas.Nat.{div-add-mod', mul-mod, mul-pow, pow-add, pow-mod, mod_below}

-- numbers that differ by multiples of p have equal remainders
pub mod-by_multiples : (p a b u v : ℕ) → a + u * p ≡ b + v * p → a % p ≡ b % p
mod-by_multiples p a b u v e = sym (add-mul-mod_self_right a u p) ∙ ap (λ n. n % p) e ∙ add-mul-mod_self_right b v p

-- the remainder of a sum
pub mod-add : (p a b c d : ℕ) → a % p ≡ b % p → c % p ≡ d % p → (a + c) % p ≡ (b + d) % p
mod-add p a b c d first second =
    sym (mod-add-mod a p c) ∙ ap (λ n. (n + c) % p) first ∙ mod-add-mod b p c
    ∙ sym (add-mod-mod b c p) ∙ ap (λ n. (b + n) % p) second ∙ add-mod-mod b d p

-- the remainder of a product
pub mod-mul : (p a b c d : ℕ) → a % p ≡ b % p → c % p ≡ d % p → (a * c) % p ≡ (b * d) % p
mod-mul p a b c d first second =
    mul-mod a c p ∙ ap (λ n. (n * (c % p)) % p) first ∙ ap (λ n. (b % p * n) % p) second ∙ sym (mul-mod b d p)

-- z is -1 modulo p
pub minus_one-quotient : (p z : ℕ) → (z + 1) % p ≡ 0 → z + 1 ≡ (z + 1) / p * p
minus_one-quotient p z h =
    let whole : (z + 1) / p * p + (z + 1) % p ≡ z + 1 = div-add-mod' (z + 1) p in
    omega arith

pub minus_one-square : (p z : ℕ) → (z + 1) % p ≡ 0 → (z * z) % p ≡ 1 % p
minus_one-square p z h =
    let q = (z + 1) / p in
    let whole : z + 1 ≡ q * p = minus_one-quotient p z h in
    let e : z * z + (z + 1) ≡ 1 + z * (z + 1) = omega arith in
    let f : z * z + q * p ≡ 1 + z * q * p = ap (λ n. z * z + n) (sym whole) ∙ e ∙ ap (λ n. 1 + z * n) whole ∙ grind arith in
    mod-by_multiples p (z * z) 1 q (z * q) f

-- a - y is a + y * z modulo p
pub minus_one-times : (p z a y : ℕ) → 0 < p → (z + 1) % p ≡ 0 → (a + p - y % p) % p ≡ (a + y * z) % p
minus_one-times p z a y positive h =
    let q = (z + 1) / p in
    let whole : z + 1 ≡ q * p = minus_one-quotient p z h in
    let small : y % p < p = mod_below y p positive in
    let split : y / p * p + y % p ≡ y = div-add-mod' y p in
    let product : y * (z + 1) ≡ y * q * p = ap (λ n. y * n) whole ∙ grind arith in
    let product' : y * z + y ≡ y * q * p = omega arith in
    let u = y * q in
    let v = 1 + y / p in
    let e : (a + p - y % p) + u * p ≡ a + y * z + v * p = omega arith in
    mod-by_multiples p (a + p - y % p) (a + y * z) u v e

-- powers of powers, and of 1
pub pow-mul : (a m n : ℕ) → a ^ (m * n) ≡ (a ^ m) ^ n
pow-mul a m zero =
    let none : m * 0 ≡ 0 = omega arith in
    rw (none, pow-zero a, pow-zero (a ^ m)) refl
pow-mul a m (suc n) =
    let more : m * suc n ≡ m * n + m = omega arith in
    let below : a ^ (m * n) ≡ (a ^ m) ^ n = pow-mul a m n in
    rw (more, pow-add a (m * n) m, below, pow-suc (a ^ m) n) refl

one_pow : (n : ℕ) → 1 ^ n ≡ 1
one_pow zero = pow-zero 1
one_pow (suc n) =
    let below : 1 ^ n ≡ 1 = one_pow n in
    rw (pow-suc 1 n, below) refl

-- a power of a number that is 1 modulo p
pub one-power : (p z n : ℕ) → z % p ≡ 1 % p → (z ^ n) % p ≡ 1 % p
one-power p z n h = sym (pow-mod z n p) ∙ ap (λ m. m ^ n % p) h ∙ pow-mod 1 n p ∙ ap (λ m. m % p) (one_pow n)

-- an odd power of -1 modulo p
pub minus_one-odd : (p z n : ℕ) → (z + 1) % p ≡ 0 → z ^ (n + n + 1) % p ≡ z % p
minus_one-odd p z n h =
    let split : z ^ (n + n + 1) ≡ (z * z) ^ n * z = ap (λ m. z ^ m) (omega arith) ∙ pow-suc z (n + n) ∙ ap (λ m. m * z) (pow-add z n n ∙ sym (mul-pow z z n)) in
    let one : (z * z) ^ n % p ≡ 1 % p = one-power p (z * z) n (minus_one-square p z h) in
    ap (λ m. m % p) split ∙ mod-mul p ((z * z) ^ n) 1 z z one refl ∙ ap (λ m. m % p) (omega arith)

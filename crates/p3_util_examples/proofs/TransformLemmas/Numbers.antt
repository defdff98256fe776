-- Laws of remainders and powers, and of the table of roots.
use Rattle.std.proofs.Common.{◌≡◌, ◌≢◌, ℕ, suc, ◌+◌, ◌*◌, ◌/◌, ◌%◌, ◌^◌, ◌<◌, true, ◌==◌, get_or, refl, sym, ap, ◌∙◌, eqb-true, pow-suc, arith}
use Rattle.std.proofs.lemmas.Grind.{pow_more}
use Rattle.std.proofs.lemmas.Nat.{pow-add, mul-pow, mul-mod_first, mul-mod_second, pow-mod}
use Rattle.p3_util_kernels.proofs.BitsLemmas.Tables.{all_below, all_below-at}
use Rattle.p3_util_examples.specs.declared.transform.field.TheConstants.{PRIME, ROOTS}

squares_pass : all_below (λ k. get_or ROOTS k 0 == get_or ROOTS (k + 1) 0 ^ 2 % PRIME) 27 ≡ true
unfolding all_below
squares_pass = refl

-- each root is the square of the next
pub root-square : (k : ℕ) → k < 27 → get_or ROOTS k 0 ≡ get_or ROOTS (k + 1) 0 ^ 2 % PRIME
root-square k h =
    eqb-true _ _ (all_below-at (λ k. get_or ROOTS k 0 == get_or ROOTS (k + 1) 0 ^ 2 % PRIME) 27 k squares_pass h)

-- one step of computing a power by squaring
pub pow_halved : (p r b e : ℕ) → (r * (b * b % p) ^ (e / 2)) % p ≡ (r * b ^ (2 * (e / 2))) % p
pow_halved p r b e =
    let twice : b ^ (2 * (e / 2)) ≡ (b * b) ^ (e / 2) = rw (mul-pow b b (e / 2)) (ap (λ n. b ^ n) (omega arith) ∙ pow-add b (e / 2) (e / 2)) in
    let same : (b * b % p) ^ (e / 2) % p ≡ (b * b) ^ (e / 2) % p = pow-mod (b * b) (e / 2) p in
    sym (mul-mod_second r ((b * b % p) ^ (e / 2)) p) ∙ ap (λ n. (r * n) % p) (same ∙ ap (λ n. n % p) (sym twice)) ∙ mul-mod_second r (b ^ (2 * (e / 2))) p

pub pow_even : (p r b e : ℕ) → e % 2 ≢ 1 → (r * (b * b % p) ^ (e / 2)) % p ≡ (r * b ^ e) % p
pow_even p r b e h =
    let half : 2 * (e / 2) ≡ e = omega arith in
    pow_halved p r b e ∙ ap (λ n. (r * b ^ n) % p) half

pub pow_odd : (p r b e : ℕ) → e % 2 ≡ 1 → (r * b % p * (b * b % p) ^ (e / 2)) % p ≡ (r * b ^ e) % p
pow_odd p r b e h =
    let half : suc (2 * (e / 2)) ≡ e = omega arith in
    let last : r * b * b ^ (2 * (e / 2)) ≡ r * b ^ suc (2 * (e / 2)) = rw (pow-suc b (2 * (e / 2))) (grind arith) in
    mul-mod_first (r * b) ((b * b % p) ^ (e / 2)) p ∙ pow_halved p (r * b) b e ∙ ap (λ n. n % p) last ∙ ap (λ n. (r * b ^ n) % p) half

-- one more factor
pub pow_next : (p b i r : ℕ) → r ≡ b ^ i % p → r * b % p ≡ b ^ (i + 1) % p
pow_next p b i r e = ap (λ n. n * b % p) e ∙ mul-mod_first (b ^ i) b p ∙ ap (λ n. n % p) (sym (pow_more b i))

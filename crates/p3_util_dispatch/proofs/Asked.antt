-- Quotients and roots, for `src/parts/asked.rt`.
use Rattle.std.proofs.Common.{ℕ, ◌≡◌, ◌+◌, ◌-◌, ◌*◌, ◌/◌, ◌^◌, ◌<◌, ◌≤◌, min, arith}
use Rattle.std.proofs.lemmas.Nat.{div-add-mod', div_below, mod_below}

-- A quotient is the greatest number whose product with the divisor is not above the dividend.
pub quotient_fits : (n k : ℕ) → n / k * k ≤ n
quotient_fits n k = omega (arith, div-add-mod' n k)

pub quotient_next : (n k : ℕ) → 0 < k → n < (n / k + 1) * k
quotient_next n k some = omega (arith, div-add-mod' n k, mod_below n k some)

-- fewer than 2^16 items of more than 32 bytes have 2^21 bytes
pub quotient_small : (k : ℕ) → 32 < k → 2097152 / k ≤ 65536
quotient_small k above = omega (arith, div_below 2097152 k 65537 (omega (arith, above)) (omega (arith, above)))

-- the root of a number that may be saturated
pub root_fits : (r n : ℕ) → r * r ≤ min (n * 4) (2 ^ 64 - 1) → (1 + r - 1) * (1 + r - 1) ≤ 4 * n
root_fits r n square =
    let same : 1 + r - 1 ≡ r = omega arith in
    rw same (omega (arith, square))

pub root_most : (r n : ℕ) → min (n * 4) (2 ^ 64 - 1) < (r + 1) * (r + 1) → 4 * n < 2 ^ 64 → 4 * n < (1 + r) * (1 + r)
root_most r n next fits = omega (arith, next, fits)

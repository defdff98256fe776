-- The tables in the source hold what their comments say, checked entry by entry.
use Rattle.std.proofs.Common.{◌≡◌, ℕ, zero, suc, ◌+◌, ◌^◌, ◌<◌, ◌≤◌, nat_lt, nat_le, ltb-true, leb-true, Bool, true, ◌&&◌, ◌==◌, get_or, subst, arith, inl, inr, eqb-true, refl}
use Rattle.std.proofs.lemmas.Bool.{cases_lt, and_parts}
use Rattle.std.proofs.Math.Nat.{pow-le-pow_right}
use Rattle.p3_util_kernels.specs.Digits.{rev}
use Rattle.p3_util_kernels.specs.Sums.{sum_below}
use Rattle.p3_util_kernels.specs.declared.reverse.rows.TheConstants.{REVERSED_SIX}
use Rattle.p3_util_kernels.specs.declared.bits.TheConstants.{POWERS_OF_THREE, EXPONENTS_OF_THREE}
use Rattle.p3_util_kernels.proofs.BitsLemmas.Powers.{three-apart, three-fits, three-greatest}

-- each number below n passes the test
unfoldable pub all_below : (ℕ → Bool) → ℕ → Bool
all_below p zero = true
all_below p (suc n) = p n && all_below p n

pub all_below-at : (p : ℕ → Bool) (n j : ℕ) → all_below p n ≡ true → j < n → p j ≡ true
unfolding all_below
all_below-at p zero j h lt = absurd (omega arith)
all_below-at p (suc n) j h lt =
    let parts = and_parts (p n) (all_below p n) h in
    elim (cases_lt j n) [
      | inl below ↦ all_below-at p n j parts.1 below
      | inr last ↦ let at : n ≡ j = omega arith in subst (λ k. p k ≡ true) at parts.0
    ]

pub powers_of_three-at : (e : ℕ) → e < 41 → get_or POWERS_OF_THREE e 0 ≡ 3 ^ e
unfolding all_below
powers_of_three-at e h = eqb-true _ _ (all_below-at (λ e. get_or POWERS_OF_THREE e 0 == 3 ^ e) 41 e refl h)

-- entry `top` is the exponent of the greatest power of three below 2 ^ (top + 1)
is_greatest : ℕ → Bool
is_greatest top =
    let x = get_or EXPONENTS_OF_THREE top 0 in
    nat_lt (3 ^ x) (2 ^ (top + 1)) && nat_le (2 ^ (top + 1)) (3 ^ (x + 1))

pub exponent_of_three : (top : ℕ) → top < 64
    → (3 ^ get_or EXPONENTS_OF_THREE top 0 < 2 ^ (top + 1)) × (2 ^ (top + 1) ≤ 3 ^ (get_or EXPONENTS_OF_THREE top 0 + 1))
unfolding all_below is_greatest
exponent_of_three top h =
    let x = get_or EXPONENTS_OF_THREE top 0 in
    let parts = and_parts (nat_lt (3 ^ x) (2 ^ (top + 1))) (nat_le (2 ^ (top + 1)) (3 ^ (x + 1))) (all_below-at is_greatest 64 top refl h) in
    (ltb-true _ _ parts.0, leb-true _ _ parts.1)

pub exponent_found : (top e : ℕ) → top < 64 → 2 ^ top ≤ 3 ^ e → 3 ^ e < 2 ^ (top + 1) → get_or EXPONENTS_OF_THREE top 0 ≡ e
exponent_found top e h low high =
    let greatest = exponent_of_three top h in
    three-greatest (get_or EXPONENTS_OF_THREE top 0) e top greatest.0 greatest.1 low high

pub exponent_bound : (top : ℕ) → top < 64 → get_or EXPONENTS_OF_THREE top 0 < 41
exponent_bound top h =
    let greatest = exponent_of_three top h in
    let within : top + 1 ≤ 64 = omega arith in
    let word : 2 ^ (top + 1) ≤ 2 ^ 64 = pow-le-pow_right (omega arith) within in
    (three-fits (get_or EXPONENTS_OF_THREE top 0)).0 (omega arith)

-- entry x is x with its 6 digits reversed
pub reversed_six : (x : ℕ) → x < 64 → get_or REVERSED_SIX x 0 ≡ rev 6 x
unfolding all_below rev sum_below
reversed_six x h = eqb-true _ _ (all_below-at (λ x. get_or REVERSED_SIX x 0 == rev 6 x) 64 x refl h)

pub ruleset powers = (powers_of_three-at, three-fits, three-apart)

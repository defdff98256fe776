-- Lengths that are zero or a power of two, and lengths of rows.
use Rattle.std.proofs.Common.{◌≤◌, ◌≡◌, ℕ, zero, suc, ◌+◌, ◌-◌, ◌*◌, ◌/◌, ◌%◌, ◌^◌, ◌<◌, ◌↔◌, IsTrue, ◌==◌, bit_and, inl, inr, refl, sym, ap, ◌∙◌, arith, eqb-true}
use Rattle.std.specs.Int.{bit_at, is_power_of_two}
use Rattle.std.proofs.Math.Nat.{le-mul_of_pos_right, mul-div_cancel_left, pow-suc, zero-div}
use Rattle.std.proofs.lemmas.Bool.{cases_eq, or_cases}
use Rattle.std.proofs.lemmas.Nat.Bits.{bit_at_and, bit_at-zero}
use Rattle.std.proofs.lemmas.Nat.{div-add-mod', div-mul-add, mod-mul-add}
use Rattle.p3_util_kernels.specs.Logarithms.{clog}
use Rattle.p3_util_kernels.specs.Reversal.{IsZeroOrPowerOfTwo, IsReversible, FitsRows}
use Rattle.p3_util_kernels.proofs.BitsLemmas.Logarithms.{clog_power, clog-zero}
use Rattle.p3_util_kernels.proofs.BitsLemmas.Powers.{exponent-lt, exponent-same, highest, power_of_two_test}

-- if 2 ^ j is the greatest power of two that is at most n, digit j of n is 1
highest_bit : (n j : ℕ) → 2 ^ j ≤ n → n < 2 ^ suc j → bit_at n j ≡ 1
highest_bit n j low high = grind (arith, div-mul-add 1 (2 ^ j) (n - 2 ^ j), pow-suc 2 j)

-- a number n that has no digit 1 in common with n - 1 has at most one digit 1
pub unshared : (n : ℕ) → bit_and n (n - 1) ≡ 0 → IsZeroOrPowerOfTwo n
unshared zero none = inl refl
unshared (suc m) none =
    let (j, low, high) = highest (suc m) (omega arith) in
    let shared = bit_at_and (suc m) (suc m - 1) j in
    let same : 2 ^ j ≡ suc m = grind (arith, shared, highest_bit (suc m) j, highest_bit (suc m - 1) j, ap (λ n. bit_at n j) none, bit_at-zero j) in
    inr (j, sym same)

-- the precondition of a call on a length means that the length is zero or a power of two
pub zero_or_power : (n : ℕ) → IsReversible n → IsZeroOrPowerOfTwo n
zero_or_power n (inl fits) = fits
zero_or_power n (inr test) =
    elim (or_cases (bit_and n (n - 1) == 0) (is_power_of_two n) test) [
      | inl none ↦ unshared n (eqb-true _ _ none)
      | inr one ↦ inr ((power_of_two_test n).0 one)
    ]

-- for rows of one item, the condition on rows is the condition on the length
pub FitsRows-one : (len row_width : ℕ) → row_width ≡ 1 → FitsRows len row_width ↔ IsZeroOrPowerOfTwo len
FitsRows-one len row_width one = (
  λ (rows, fits, e). let same : len ≡ rows = e ∙ ap (λ w. w * rows) one ∙ omega arith in rw same fits,
  λ fits. let same : len ≡ row_width * len = rw one (omega arith) in (len, fits, same),
)

-- the precondition of a call on a list, as one for rows of one item
pub rows_of_one : (n : ℕ) → IsReversible n → FitsRows n 1
rows_of_one n fits = (FitsRows-one n 1 refl).1 (zero_or_power n fits)

-- the width of rows divides the length
pub FitsRows-whole : (len row_width : ℕ) → (row_width ≡ 0 → ⊥) → FitsRows len row_width → len % row_width ≡ 0
FitsRows-whole len row_width wide (rows, fits, e) =
    let place : rows * row_width + 0 ≡ len = omega arith in
    rw place at (mod-mul-add rows row_width 0 (omega arith))

-- if the width divides the length, the number of rows decides
pub FitsRows-quotient : (len row_width : ℕ) → (len ≡ 0 → ⊥) → (row_width ≡ 0 → ⊥) → len % row_width ≡ 0
    → IsTrue (is_power_of_two (len / row_width)) ↔ FitsRows len row_width
FitsRows-quotient len row_width some wide whole =
    let split : len / row_width * row_width + len % row_width ≡ len = div-add-mod' len row_width in (
      λ yes. (len / row_width, inr ((power_of_two_test (len / row_width)).0 yes), omega arith),
      λ (rows, fits, e).
          let same : len / row_width ≡ rows = ap (λ n. n / row_width) e ∙ mul-div_cancel_left rows (omega arith) in
          elim fits [ inl none ↦ absurd (some (e ∙ rw none (omega arith))) | inr power ↦ rw same ((power_of_two_test rows).1 power) ],
    )

-- if two numbers of rows are powers of two and make the same length, they are equal
pub rows-same : (row_width j k : ℕ) → 0 < row_width → row_width * 2 ^ j ≡ row_width * 2 ^ k → j ≡ k
rows-same row_width j k wide e =
    exponent-same j k (sym (mul-div_cancel_left (2 ^ j) wide) ∙ ap (λ n. n / row_width) e ∙ mul-div_cancel_left (2 ^ k) wide)

-- for a list that is not empty: there are 2 ^ `digits` rows
pub record IsDigitsOfRows (len row_width digits : ℕ) : Type 0 where
  pub wide : 0 < row_width
  pub rows : len / row_width ≡ 2 ^ digits
  pub whole : len ≡ row_width * 2 ^ digits
  pub few : len < 2 ^ 64 → digits < 64

pub IsDigitsOfRows-from : (len row_width digits : ℕ) → (len ≡ 0 → ⊥) → FitsRows len row_width → digits ≡ clog (len / row_width)
    → IsDigitsOfRows len row_width digits
IsDigitsOfRows-from len row_width digits some (rows, inl none, e) counted = absurd (some (e ∙ ap (λ n. row_width * n) none ∙ omega arith))
IsDigitsOfRows-from len row_width digits some (rows, inr (k, is), e) counted =
    let wide : 0 < row_width = elim (cases_eq row_width 0) [ inl none ↦ absurd (some (e ∙ ap (λ w. w * rows) none ∙ omega arith)) | inr ne ↦ omega arith ] in
    let all : len ≡ row_width * 2 ^ k = e ∙ ap (λ n. row_width * n) is in
    let counts : len / row_width ≡ 2 ^ k = ap (λ n. n / row_width) all ∙ mul-div_cancel_left (2 ^ k) wide in
    let same : k ≡ digits = sym (counted ∙ clog_power (len / row_width) k counts) in
    record {
      wide = wide;
      rows = rw same at counts;
      whole = rw same at all;
      few = λ small. omega (arith, exponent-lt k 63 (omega (arith, le-mul_of_pos_right (2 ^ k) wide)));
    }

-- if there are no rows, the row indices have no digits
pub no_digits : (len row_width : ℕ) → len ≡ 0 → clog (len / row_width) ≡ 0
no_digits len row_width e = clog-zero (len / row_width) (rw e (zero-div row_width))

-- Bounds on the numbers of swaps, derived from their closed forms.
use Rattle.std.proofs.Common.{◌≡◌, ℕ, ◌+◌, ◌-◌, ◌*◌, ◌/◌, ◌^◌, ◌≤◌, ◌∙◌, inl, inr, sym, ap, mul-le-mul_left, pow-add, arith}
use Rattle.std.proofs.Math.Nat.{mul-div_cancel_left}
use Rattle.std.proofs.lemmas.Bool.{cases_eq}
use Rattle.p3_util_kernels.specs.Logarithms.{clog}
use Rattle.p3_util_kernels.specs.Reversal.{FitsRows, IsReversible, IsZeroOrPowerOfTwo}
use Rattle.p3_util_kernels.specs.SwapCounts.{short_swaps, long_swaps, square_swaps, reversal_swaps, row_swaps}
use Rattle.p3_util_kernels.proofs.ReverseLemmas.Lengths.{zero_or_power}
use Rattle.p3_util_kernels.proofs.BitsLemmas.Logarithms.{clog_power, clog-zero}
use Rattle.p3_util_kernels.proofs.BitsLemmas.Pairs.{twice-pairs}

-- each swap takes two places, and there are no more places than items
pub row_swaps-le : (row_width k : ℕ) → row_width * short_swaps k ≤ row_width * 2 ^ k / 2
row_swaps-le row_width k =
    let scaled : row_width * (2 * short_swaps k) ≤ row_width * 2 ^ k = mul-le-mul_left row_width (omega arith) in
    omega arith

-- the 2 ^ h chunks of 2 ^ c items are rows
pub chunks_bound : (h c n : ℕ) → n ≡ 2 ^ (h + c) → short_swaps h * 2 ^ c ≤ n / 2
chunks_bound h c n whole = omega (arith, row_swaps-le (2 ^ c) h, pow-add 2 h c)

-- the squares side by side in 2 ^ size rows of 2 ^ stride items
pub squares_swaps-le : (stride size : ℕ) → size ≤ stride → 2 ^ (stride - size) * square_swaps (2 ^ size) ≤ 2 ^ (size + stride) / 2
squares_swaps-le stride size within =
    let squares = 2 ^ (stride - size) in
    let row : 2 ^ stride ≡ squares * 2 ^ size = ap (λ e. 2 ^ e) (omega arith) ∙ pow-add 2 (stride - size) size in
    let pairs : 2 * square_swaps (2 ^ size) ≤ 2 ^ size * 2 ^ size = omega (arith, twice-pairs (2 ^ size)) in
    let scaled : squares * (2 * square_swaps (2 ^ size)) ≤ squares * (2 ^ size * 2 ^ size) = mul-le-mul_left squares pairs in
    rw (pow-add 2 size stride, row) (omega arith)

-- two passes of chunks and one of squares
pub long_swaps-le : (k : ℕ) → long_swaps k ≤ 3 * 2 ^ k / 2
long_swaps-le k =
    let size = k / 2 in
    let stride = k - size in
    let whole : size + stride ≡ k = omega arith in
    omega (arith, chunks_bound size stride (2 ^ k) (ap (λ e. 2 ^ e) (sym whole)), rw whole at (squares_swaps-le stride size (omega arith)))

-- the same for a length that is zero or a power of two
pairs_of_rows : (row_width rows : ℕ) → IsZeroOrPowerOfTwo rows → row_width * short_swaps (clog rows) ≤ row_width * rows / 2
pairs_of_rows row_width rows (inl none) = let zero : clog rows ≡ 0 = clog-zero rows none in rw zero (omega arith)
pairs_of_rows row_width rows (inr (k, is)) = rw (clog_power rows k is, is) (row_swaps-le row_width k)

pub short_bound : (n : ℕ) → IsReversible n → short_swaps (clog n) ≤ n / 2
short_bound n fits = omega (arith, pairs_of_rows 1 n (zero_or_power n fits))

pub rows_bound : (n row_width : ℕ) → FitsRows n row_width → row_swaps n row_width ≤ n / 2
rows_bound n row_width (rows, fits, e) =
    elim (cases_eq row_width 0) [
      | inl none ↦ rw none (omega arith)
      | inr wide ↦
          let same : n / row_width ≡ rows = ap (λ x. x / row_width) e ∙ mul-div_cancel_left rows (omega arith) in
          rw (same, e) (pairs_of_rows row_width rows fits)
    ]

pub long_bound : (n : ℕ) → IsReversible n → 4 ≤ n → long_swaps (clog n) ≤ 3 * n / 2
long_bound n fits some =
    elim (zero_or_power n fits) [ inl none ↦ absurd (omega arith) | inr (k, is) ↦ rw (clog_power n k is, is) (long_swaps-le k) ]

pub reversal_bound : (n : ℕ) → IsReversible n → reversal_swaps n ≤ 3 * n / 2
reversal_bound n fits = grind (arith, short_bound n fits, long_bound n fits)

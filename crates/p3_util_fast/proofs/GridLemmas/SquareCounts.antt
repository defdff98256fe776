-- How many pairs of rows are exchanged: those of all squares.
use Rattle.std.proofs.Common.{◌≡◌, ℕ, ◌+◌, ◌-◌, ◌*◌, ◌/◌, ◌%◌, ◌^◌, ◌≤◌, ap, ◌∙◌, pow-add, arith}
use Rattle.p3_util_kernels.specs.SwapCounts.{short_swaps, square_swaps}
use Rattle.p3_util_kernels.proofs.BitsLemmas.Pairs.{twice-pairs}

two-squares : (q d : ℕ) → d ≤ 1 → 2 ^ d * square_swaps (2 ^ q) ≡ short_swaps (q + (d + q))
two-squares q d few =
    let n = 2 ^ q in
    let e = 2 ^ d in
    let pairs : e * (2 * (n * (n - 1) / 2) + n) ≡ e * (n * n) = ap (λ x. e * x) (twice-pairs n) in
    let half : (q + (d + q) + 1) / 2 ≡ d + q = omega arith in
    let whole : 2 ^ (q + (d + q)) ≡ n * (e * n) = pow-add 2 q (d + q) ∙ ap (λ x. n * x) (pow-add 2 d q) in
    let lines : 2 ^ (d + q) ≡ e * n = pow-add 2 d q in
    rw (half, whole, lines) (omega arith)

-- the pairs of all middle digits
pub squares-short : (digits : ℕ) → 2 ^ (digits - digits / 2 - digits / 2) * square_swaps (2 ^ (digits / 2)) ≡ short_swaps digits
squares-short digits =
    let rest : digits - digits / 2 - digits / 2 ≡ digits % 2 = omega arith in
    let parts : digits / 2 + (digits % 2 + digits / 2) ≡ digits = omega arith in
    rw rest (rw parts at (two-squares (digits / 2) (digits % 2) (omega arith)))

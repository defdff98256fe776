-- The logarithm to base 2, rounded up. Source: the documentation of `log2_ceil_usize` of p3-util 0.8.0.
use Rattle.std.specs.Prelude.{ℕ, ◌^◌, nat_lt, if◌then◌else◌}
use Rattle.p3_util_kernels.specs.Sums.{sum_below}

-- the least e with `n ≤ 2 ^ e`. This is the number of powers of two below n
unfoldable pub clog : ℕ → ℕ
clog n = sum_below n (λ e. if nat_lt (2 ^ e) n then 1 else 0)

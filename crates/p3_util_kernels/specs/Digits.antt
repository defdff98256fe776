-- The bits of a number and their reversal, defined by quotients, remainders and powers.
-- Source: the documentation and the tests of `reverse_bits_len` of p3-util 0.8.0.
use Rattle.std.specs.Prelude.{ℕ, zero, suc, ◌-◌, ◌*◌, ◌/◌, ◌%◌, ◌^◌}
use Rattle.p3_util_kernels.specs.Sums.{sum_below}

-- bit i of x, counted from the lowest one: `x / 2 ^ i % 2`
abbrev pub bit : ℕ → ℕ → ℕ
bit x i = (x / 2 ^ i) % 2

-- the k low bits of x in reversed order: bit i of x, which is `bit x i`, becomes bit `k - 1 - i`
unfoldable pub rev : (k x : ℕ) → ℕ
rev k x = sum_below k (λ i. bit x i * 2 ^ (k - 1 - i))

-- what `reverse_bits_len` returns: `rev bit_len x`. If `bit_len` is 0, all 64 bits are reversed
unfoldable pub rev_word : (bit_len x : ℕ) → ℕ
rev_word zero x = rev 64 x
rev_word (suc k) x = rev (suc k) x

-- Powers and their exponents. Source: the documentation of the logarithms of p3-util 0.8.0.
use Rattle.std.specs.Prelude.{ℕ, zero, suc, Bool, false, not, ◌==◌, ◌&&◌, ◌||◌, ◌⊎◌, ◌≡◌, ◌-◌, ◌^◌, IsTrue, bit_and}
use Rattle.std.specs.Int.{IsPowerOfTwo, is_power_of_two}

-- n is `3 ^ e` for some e
abbrev pub IsPowerOfThree : ℕ → Type 0
IsPowerOfThree n = (e : ℕ) × (n ≡ 3 ^ e)

-- some number below n passes the test
abbrev pub any_below : ℕ → (ℕ → Bool) → Bool
any_below zero test = false
any_below (suc n) test = any_below n test || test n

-- n is a power of two. There are three ways to show this: std's `IsPowerOfTwo`; a call of std's `is_power_of_two` that
-- returned true; or, if n is a literal, a test that the checker evaluates. Source: new.
abbrev pub HasLog2 : ℕ → Type 0
HasLog2 n = IsPowerOfTwo n ⊎ IsTrue (not (n == 0) && bit_and n (n - 1) == 0 || is_power_of_two n)

-- n is a power of three. There are two ways to show this: `IsPowerOfThree`; or a test that compares n with the 41
-- powers of three that fit in a usize, and that the checker evaluates if n is a literal. Source: new.
abbrev pub HasLog3 : ℕ → Type 0
HasLog3 n = IsPowerOfThree n ⊎ IsTrue (any_below 41 (λ e. n == 3 ^ e))

-- Bit reversal of the items or the rows of a list. Source: the comment above the bit reversal kernels of p3-util 0.8.0.
use Rattle.std.specs.Prelude.{ℕ, ◌≡◌, ◌+◌, ◌-◌, ◌*◌, ◌^◌, ◌<◌, ◌⊎◌, ◌==◌, ◌||◌, IsTrue, bit_and, List, length, slice_get}
use Rattle.std.specs.Int.{IsPowerOfTwo, is_power_of_two}
use Rattle.p3_util_kernels.specs.Digits.{rev}

-- n is 0 or a power of two. Source: the condition of the original's reversal.
abbrev pub IsZeroOrPowerOfTwo : ℕ → Type 0
IsZeroOrPowerOfTwo n = (n ≡ 0) ⊎ IsPowerOfTwo n

-- `IsZeroOrPowerOfTwo n`, which may be shown in one of three ways: by itself; by a call of std's `is_power_of_two` that
-- returned true; or, if n is a literal, by a test that the checker evaluates. Source: new.
abbrev pub IsReversible : ℕ → Type 0
IsReversible n = IsZeroOrPowerOfTwo n ⊎ IsTrue (bit_and n (n - 1) == 0 || is_power_of_two n)

-- `len` items fill whole rows of `row_width` items, and the number of rows is 0 or a power of two. Source: new.
abbrev pub FitsRows : (len row_width : ℕ) → Type 0
FitsRows len row_width = (rows : ℕ) × IsZeroOrPowerOfTwo rows × (len ≡ row_width * rows)

-- The two lists have the same length. If `old` has `2 ^ k` rows of `row_width` items, row r of `new` has the items of
-- row `rev k r` of `old`, in the same order.
-- Source: the comment above the bit reversal kernels of p3-util 0.8.0, for rows of one item. Wider rows are new.
pub record IsRowReversal {A : Type 0} (row_width : ℕ) (old new : List A) : Type 0 where
  pub same_length : length new ≡ length old
  pub places : (k r j : ℕ) → length old ≡ row_width * 2 ^ k → r < 2 ^ k → j < row_width
      → slice_get new (r * row_width + j) ≡ slice_get old (rev k r * row_width + j)

-- The two lists have the same length. If `old` has `2 ^ k` items, item i of `new` is item `rev k i`
-- of `old`. This is `IsRowReversal` for rows of one item
abbrev pub IsReversal : {A : Type 0} → (old new : List A) → Type 0
IsReversal old new = IsRowReversal 1 old new

-- What the steps of a transform guarantee to each other.
use Rattle.std.specs.Prelude.{ℕ, ◌≡◌, ◌+◌, ◌-◌, ◌*◌, ◌%◌, ◌^◌, ◌<◌, List, length, slice_index}
use Rattle.p3_util.specs.Digits.{rev}
use Rattle.p3_util.specs.Sums.{sum_below}
use Rattle.p3_util_examples.specs.declared.transform.field.TheConstants.{PRIME}

-- each number is below the prime, and so is 0, which stands for items beyond the end
abbrev pub AreBelowPrime : List ℕ → Type 0
AreBelowPrime xs = (i : ℕ) → slice_index xs i < PRIME

-- the first n powers of a number, from its power 0 on
pub record ArePowers (root n : ℕ) (powers : List ℕ) : Type 0 where
  pub count : length powers ≡ n
  pub each : (i : ℕ) → i < n → slice_index powers i ≡ root ^ i % PRIME

-- if k is at least 1, the root raised to half of `2 ^ k` is -1 modulo the prime
abbrev pub IsRoot : (k root : ℕ) → Type 0
IsRoot k root = (h : ℕ) → k ≡ h + 1 → (root ^ 2 ^ h + 1) % PRIME ≡ 0

-- row r is unchanged
abbrev pub SameRow : (width r : ℕ) (old new : List ℕ) → Type 0
SameRow width r old new = (c : ℕ) → c < width → slice_index new (r * width + c) ≡ slice_index old (r * width + c)

-- row `low` became its sum with t times row `high`, and row `high` the difference, modulo the prime
pub record AreJoined (width low high t : ℕ) (old new : List ℕ) : Type 0 where
  pub sums : (c : ℕ) → c < width
      → slice_index new (low * width + c) ≡ (slice_index old (low * width + c) + slice_index old (high * width + c) * t) % PRIME
  pub differences : (c : ℕ) → c < width
      → slice_index new (high * width + c) ≡ (slice_index old (low * width + c) + PRIME - slice_index old (high * width + c) * t % PRIME) % PRIME

-- in each block of `2 * half` rows, row i of the first half is joined with row i of the second
-- half, by power `i * stride`
abbrev pub AreBlocksJoined : (width half blocks stride : ℕ) (powers old new : List ℕ) → Type 0
AreBlocksJoined width half blocks stride powers old new = (b i : ℕ) → b < blocks → i < half
    → AreJoined width (b * (2 * half) + i) (b * (2 * half) + half + i) (slice_index powers (i * stride)) old new

-- the transform of the `2 ^ s` items that begin at place `rev m b` and are `2 ^ m` places apart,
-- before it is reduced modulo the prime
abbrev pub part : (ℕ → ℕ) → (root m s b i : ℕ) → ℕ
part x root m s b i = sum_below (2 ^ s) (λ j. x (rev m b + j * 2 ^ m) * root ^ (2 ^ m * i * j))

-- 2 ^ m blocks of 2 ^ s rows, each of which is the transform of its part of `old`
pub record IsStage (root width m s : ℕ) (old now : List ℕ) : Type 0 where
  pub same_length : length now ≡ length old
  pub places : (b i c : ℕ) → b < 2 ^ m → i < 2 ^ s → c < width
      → slice_index now ((b * 2 ^ s + i) * width + c) ≡ part (λ j. slice_index old (j * width + c)) root m s b i % PRIME

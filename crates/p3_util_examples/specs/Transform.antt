-- The transform of the columns of a matrix, by sums, powers and remainders.
use Rattle.std.specs.Prelude.{ℕ, ◌≡◌, ◌+◌, ◌-◌, ◌*◌, ◌%◌, ◌^◌, ◌<◌, ◌≤◌, List, length, slice_index, EachIndex}
use Rattle.p3_util.specs.Sums.{sum_below}
use Rattle.p3_util_examples.specs.Matrix.{Matrix}
use Rattle.p3_util_examples.specs.declared.transform.field.TheConstants.{HALF, MOST_STAGES, PRIME, ROOTS}

-- a matrix of `2 ^ k` rows of numbers below the prime, for k up to 27
pub record FitsTransform (m : Matrix ℕ) : Type 0 where
  pub levels : (k : ℕ) × (k ≤ MOST_STAGES) × (m.height ≡ 2 ^ k)
  pub below : EachIndex m.items (λ i. slice_index m.items i < PRIME)

-- row r of column c of `new` is the sum over the rows j of old[j, c] * root ^ (r * j), modulo the prime
pub record IsTransformed (root width height : ℕ) (old new : List ℕ) : Type 0 where
  pub same_length : length new ≡ length old
  pub places : (r c : ℕ) → r < height → c < width
      → slice_index new (r * width + c) ≡ sum_below height (λ j. slice_index old (j * width + c) * root ^ (r * j)) % PRIME

-- the same with the inverse of the root, which is its power `2 ^ k - 1`, and multiplied by the inverse of `2 ^ k`
pub record IsInverseTransformed (k root width : ℕ) (old new : List ℕ) : Type 0 where
  pub same_length : length new ≡ length old
  pub places : (r c : ℕ) → r < 2 ^ k → c < width
      → slice_index new (r * width + c)
      ≡ (sum_below (2 ^ k) (λ j. slice_index old (j * width + c) * (root ^ (2 ^ k - 1)) ^ (r * j)) * HALF ^ k) % PRIME

-- the list has `2 ^ k` rows of `width` numbers below the prime, for k up to 27
abbrev pub IsMatrixList : (k width : ℕ) → List ℕ → Type 0
IsMatrixList k width xs = (k ≤ MOST_STAGES) × (length xs ≡ width * 2 ^ k) × EachIndex xs (λ i. slice_index xs i < PRIME)

-- the inverse of the transform of a list is the list itself
abbrev pub InverseRestores : Type 0
InverseRestores = (k width : ℕ) (old mid new : List ℕ) → IsMatrixList k width old
    → IsTransformed (slice_index ROOTS k) width (2 ^ k) old mid → IsInverseTransformed k (slice_index ROOTS k) width mid new → new ≡ old

-- the transform of the inverse of a list is the list itself
abbrev pub TransformRestores : Type 0
TransformRestores = (k width : ℕ) (old mid new : List ℕ) → IsMatrixList k width old
    → IsInverseTransformed k (slice_index ROOTS k) width old mid → IsTransformed (slice_index ROOTS k) width (2 ^ k) mid new → new ≡ old

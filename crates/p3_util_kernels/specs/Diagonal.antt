-- Items of a square exchanged across its diagonal. Row a and column b is the place base + a * stride + b.
use Rattle.std.specs.Prelude.{ℕ, ◌≡◌, ◌+◌, ◌*◌, ◌<◌, ◌≤◌, min, max, List, length, slice_get}

-- Row a and column b, or row b and column a, lies above the diagonal, in the rows from `row` to below `row_end` and the
-- columns from `col` to below `col_end`.
pub record IsInBlock (row row_end col col_end a b : ℕ) : Type 0 where
  pub apart : min a b < max a b
  pub row_from : row ≤ min a b
  pub row_to : min a b < row_end
  pub col_from : col ≤ max a b
  pub col_to : max a b < col_end

-- the block above the diagonal is exchanged with its mirror image below, and all else stays
pub record SwapsAcross {A : Type 0} (base stride row row_end col col_end : ℕ) (old new : List A) : Type 0 where
  pub same_length : length new ≡ length old
  pub crossed : (a b : ℕ) → a < stride → b < stride → IsInBlock row row_end col col_end a b
      → slice_get new (base + a * stride + b) ≡ slice_get old (base + b * stride + a)
  pub kept : (a b : ℕ) → b < stride → (IsInBlock row row_end col col_end a b → ⊥)
      → slice_get new (base + a * stride + b) ≡ slice_get old (base + a * stride + b)
  pub before : (k : ℕ) → k < base → slice_get new k ≡ slice_get old k

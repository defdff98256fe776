-- Neighbouring items of a column of a matrix, put at consecutive cells. These definitions serve
-- only the private contracts of the transposes.
use Rattle.std.specs.Prelude.{ℕ, ◌≡◌, ◌+◌, ◌*◌, ◌^◌, ◌<◌, ◌≤◌, ◌⊎◌, List, length, slice_get}

-- The column is the `rows` items of `input` that begin at place `from` and are `width` places apart. `input` has all of
-- them, and `out` has as many cells from `to` on. Both lengths fit a usize.
pub record HoldsColumn {A : Type 0} (rows from width to : ℕ) (input out : List A) : Type 0 where
  pub inside : (t : ℕ) → t < rows → from + t * width < length input
  pub room : to + rows ≤ length out
  pub input_fits : length input < 2 ^ 64
  pub out_fits : length out < 2 ^ 64

-- Cell `to + t` holds item t of the column, and every other cell holds what it held before.
pub record IsColumnPut {A : Type 0} (rows from width to : ℕ) (input old new : List A) : Type 0 where
  pub same_length : length new ≡ length old
  pub places : (t : ℕ) → t < rows → slice_get new (to + t) ≡ slice_get input (from + t * width)
  pub others : (p : ℕ) → (p < to) ⊎ (to + rows ≤ p) → slice_get new p ≡ slice_get old p

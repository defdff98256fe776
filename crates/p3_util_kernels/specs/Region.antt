-- A region of a matrix, transposed into an output that has room for the transpose of the whole matrix. Source: new.
use Rattle.std.specs.Prelude.{ℕ, ◌≡◌, ◌≢◌, ◌+◌, ◌-◌, ◌*◌, ◌^◌, ◌<◌, ◌≤◌, List, length, slice_get}
use Rattle.p3_util_kernels.specs.declared.transpose.region.Region.{Region}

-- row y and column x belong to the region
pub record IsInRegion (region : Region) (x y : ℕ) : Type 0 where
  pub row_from : region.row_start ≤ y
  pub row_to : y < region.row_end
  pub col_from : region.col_start ≤ x
  pub col_to : x < region.col_end

-- The region lies in a matrix of `height` rows of `width` items. Neither its rows nor its columns end before they begin
pub record LiesInMatrix (region : Region) (width height : ℕ) : Type 0 where
  pub rows_in_order : region.row_start ≤ region.row_end
  pub rows_inside : region.row_end ≤ height
  pub cols_in_order : region.col_start ≤ region.col_end
  pub cols_inside : region.col_end ≤ width

-- the number of rows of the region
abbrev pub rows_of : Region → ℕ
rows_of region = region.row_end - region.row_start

-- the number of columns of the region
abbrev pub cols_of : Region → ℕ
cols_of region = region.col_end - region.col_start

-- the number of items of the region
abbrev pub items_of : Region → ℕ
items_of region = rows_of region * cols_of region

-- `input` has `height` rows of `width` items, and an output changes from `old` to `new`. For each
-- row y and column x of the region, item `x * height + y` of `new` is item `y * width + x` of
-- `input`. Every other item of the output stays as it was. Source: the rectangular transposes of p3-util 0.8.0.
pub record IsRegionTransposed {A : Type 0} (region : Region) (width height : ℕ) (input old new : List A) : Type 0 where
  pub same_length : length new ≡ length old
  pub places : (x y : ℕ) → IsInRegion region x y → slice_get new (x * height + y) ≡ slice_get input (y * width + x)
  pub others : (p : ℕ) → ((x y : ℕ) → IsInRegion region x y → p ≢ x * height + y) → slice_get new p ≡ slice_get old p

-- Both lists have `width * height` items, which is less than `2 ^ 64`, and the region lies in a
-- matrix of that width and height. Only private functions have this precondition.
pub record IsReady {A : Type 0} (region : Region) (width height : ℕ) (input out : List A) : Type 0 where
  pub inside : LiesInMatrix region width height
  pub input_fits : length input ≡ width * height
  pub output_fits : length out ≡ width * height
  pub len_fits : width * height < 2 ^ 64

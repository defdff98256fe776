-- The transpose of a matrix in row-major order. Source: the documentation of `transpose` of p3-util 0.8.0.
use Rattle.std.specs.Prelude.{ℕ, ◌≡◌, ◌+◌, ◌*◌, ◌<◌, List, length, slice_get}

-- `old` has `height` rows of `width` items. `new` is its transpose, which has `width` rows of `height` items: item
-- `x * height + y` of `new` is item `y * width + x` of `old`, for x < width and y < height
pub record IsTranspose {A : Type 0} (width height : ℕ) (old new : List A) : Type 0 where
  pub same_length : length new ≡ width * height
  pub places : (x y : ℕ) → x < width → y < height → slice_get new (x * height + y) ≡ slice_get old (y * width + x)

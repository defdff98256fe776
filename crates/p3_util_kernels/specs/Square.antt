-- A square of items inside a list, transposed in place. Source: `transpose_in_place_square` of p3-util 0.8.0.
use Rattle.std.specs.Prelude.{ℕ, ◌≡◌, ◌≢◌, ◌+◌, ◌*◌, ◌^◌, ◌<◌, List, length, slice_get}

-- A square in a list has `2 ^ log_size` rows and as many columns. It begins at place `base`, and each row begins
-- `2 ^ log_stride` places after the row before it. In row a and column b, the square in `new` has the item that the
-- square in `old` has in row b and column a. All other items stay where they are.
pub record IsSquareTransposed {A : Type 0} (base log_stride log_size : ℕ) (old new : List A) : Type 0 where
  pub same_length : length new ≡ length old
  pub places : (a b : ℕ) → a < 2 ^ log_size → b < 2 ^ log_size
      → slice_get new (base + a * 2 ^ log_stride + b) ≡ slice_get old (base + b * 2 ^ log_stride + a)
  pub others : (k : ℕ) → ((a b : ℕ) → a < 2 ^ log_size → b < 2 ^ log_size → k ≢ base + a * 2 ^ log_stride + b)
      → slice_get new k ≡ slice_get old k

-- Squares that lie side by side in a list, the first of which are transposed. This definition serves the private
-- contract of `transpose_squares_on` on the long path, and callers that build such a path from public calls.
use Rattle.std.specs.Prelude.{ℕ, ◌≡◌, ◌+◌, ◌-◌, ◌*◌, ◌^◌, ◌<◌, ◌≤◌, List, length, slice_get}

-- The list has `2 ^ log_size` rows of `2 ^ log_stride` items, so squares of `2 ^ log_size` rows lie
-- side by side in it. The first `count` squares are transposed, and the others are unchanged.
pub record AreTransposed {A : Type 0} (count log_stride log_size : ℕ) (old new : List A) : Type 0 where
  pub same_length : length new ≡ length old
  pub crossed : (s a b : ℕ) → s < count → a < 2 ^ log_size → b < 2 ^ log_size
      → slice_get new (a * 2 ^ log_stride + (s * 2 ^ log_size + b)) ≡ slice_get old (b * 2 ^ log_stride + (s * 2 ^ log_size + a))
  pub kept : (s a b : ℕ) → count ≤ s → s < 2 ^ (log_stride - log_size) → a < 2 ^ log_size → b < 2 ^ log_size
      → slice_get new (a * 2 ^ log_stride + (s * 2 ^ log_size + b)) ≡ slice_get old (a * 2 ^ log_stride + (s * 2 ^ log_size + b))

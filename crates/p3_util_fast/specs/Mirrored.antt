-- Items of a list exchanged with their mirror images. A place has a fixed part `m` and two numbers, and its mirror
-- image has the same two numbers in the other order. This definition serves only private contracts.
use Rattle.std.specs.Prelude.{ℕ, ◌≡◌, ◌≢◌, List, length, slice_get}

-- If S holds for m, x and y, the item at `place m x y` comes from `place m y x`. Every other place keeps its item.
pub record Mirrored {A M : Type 0} (place : M → ℕ → ℕ → ℕ) (S : M → ℕ → ℕ → Type 0) (old new : List A) : Type 0 where
  pub same_length : length new ≡ length old
  pub crossed : (m : M) (x y : ℕ) → S m x y → slice_get new (place m x y) ≡ slice_get old (place m y x)
  pub others : (k : ℕ) → ((m : M) (x y : ℕ) → S m x y → k ≢ place m x y) → slice_get new k ≡ slice_get old k

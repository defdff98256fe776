-- Two tiles exchanged with each other's mirror image, and one tile transposed. Source: new.
use Rattle.std.specs.Prelude.{ℕ, ◌+◌, ◌*◌, ◌<◌, ◌≤◌, ◌⊎◌, List, slice_index}
use Rattle.p3_util_fast.specs.Registers.{ItemsExchanged}

-- Two tiles have 8 rows each. Row r of the one is the 8 places of a list from entry r of `x` on, and
-- row r of the other the 8 places from entry r of `y` on. The list has `len` places, which include
-- all these places, and no two of the 16 rows overlap.
pub record AreTiles (x y : List ℕ) (len : ℕ) : Type 0 where
  pub first_inside : (r : ℕ) → r < 8 → slice_index x r + 8 ≤ len
  pub second_inside : (r : ℕ) → r < 8 → slice_index y r + 8 ≤ len
  pub first_apart : (a b : ℕ) → a < b → b < 8 → (slice_index x a + 8 ≤ slice_index x b) ⊎ (slice_index x b + 8 ≤ slice_index x a)
  pub second_apart : (a b : ℕ) → a < b → b < 8 → (slice_index y a + 8 ≤ slice_index y b) ⊎ (slice_index y b + 8 ≤ slice_index y a)
  pub both_apart : (a b : ℕ) → a < 8 → b < 8 → (slice_index x a + 8 ≤ slice_index y b) ⊎ (slice_index y b + 8 ≤ slice_index x a)

-- The first n items of the tile at `x`, counted row after row, are exchanged with their mirror images in the tile at
-- `y`. All other items stay where they are.
abbrev pub TilesExchanged : {A : Type 0} → ℕ → List ℕ → List ℕ → List A → List A → Type 0
TilesExchanged n = ItemsExchanged (λ r c. 8 * r + c < n)

-- A tile has 8 rows. Row r is the 8 places of a list from entry r of `x` on. The list has `len`
-- places, which include all these places, and no two of the rows overlap.
pub record IsTile (x : List ℕ) (len : ℕ) : Type 0 where
  pub inside : (r : ℕ) → r < 8 → slice_index x r + 8 ≤ len
  pub apart : (a b : ℕ) → a < b → b < 8 → (slice_index x a + 8 ≤ slice_index x b) ⊎ (slice_index x b + 8 ≤ slice_index x a)

-- The tile at `x` is transposed as far as its first n items, counted row after row: if one of the two items in row r
-- and column c and in row c and column r is among the first n, they are exchanged. All other items stay where they are.
abbrev pub TileTurned : {A : Type 0} → ℕ → List ℕ → List A → List A → Type 0
TileTurned n x = ItemsExchanged (λ r c. (r ≤ c) × (8 * r + c < n)) x x

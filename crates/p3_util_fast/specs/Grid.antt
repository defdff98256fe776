-- Squares of a list whose rows are in bit-reversed order, exchanged across the diagonal.
-- These definitions serve the private contracts of `src/grid.rt`. Source: new.
use Rattle.std.specs.Prelude.{ℕ, ◌≡◌, ◌+◌, ◌*◌, ◌/◌, ◌%◌, ◌^◌, ◌<◌, ◌≤◌, ◌⊎◌, min, max, List, length}
use Rattle.p3_util_fast.specs.declared.grid.Grid.{Grid}
use Rattle.p3_util_kernels.specs.declared.transpose.region.Region.{Region}
use Rattle.p3_util_kernels.specs.Digits.{rev}
use Rattle.p3_util_fast.specs.Mirrored.{Mirrored}
use Rattle.p3_util_kernels.specs.Region.{IsInRegion}

-- the place at which row x of the grid begins
unfoldable pub row_place : (grid : Grid) (x : ℕ) → ℕ
row_place grid x = grid.base + rev grid.digits x * grid.stride

-- all places of the grid fit in a usize
pub record PlacesFit (grid : Grid) : Type 0 where
  pub few : grid.digits < 64
  pub rows : (a : ℕ) → a < 2 ^ grid.digits → row_place grid a + 2 ^ grid.digits ≤ 2 ^ 64

-- the place p is in row x of the grid, and 8 divides x
pub record IsInFirstRow (grid : Grid) (p : ℕ) : Type 0 where
  pub x : ℕ
  pub y : ℕ
  pub whole : x % 8 ≡ 0
  pub x_below : x + 8 ≤ 2 ^ grid.digits
  pub y_below : y < 2 ^ grid.digits
  pub is : p ≡ row_place grid x + y

-- for the 8 rows from row x on, where 8 divides x: the binary digits of the number of a row, in reversed order, say how
-- often its distance from row x has the distance of row x + 4
abbrev pub IsRowDistance : (grid : Grid) (distance : ℕ) → Type 0
IsRowDistance grid distance =
    (x t : ℕ) → x % 8 ≡ 0 → x + 8 ≤ 2 ^ grid.digits → t < 8
    → row_place grid (x + t) ≡ row_place grid x + (t % 2 * 4 + t / 2 % 2 * 2 + t / 4) * distance

-- A place of the grid is the index of a run of `width` items. For all a and b that are different and
-- whose lesser one is a row and whose greater one is a column of the region, the items of row a and
-- column b are exchanged with those of row b and column a. All other items stay where they are
abbrev pub SwapsInGrid : {A : Type 0} (grid : Grid) (region : Region) (old new : List A) → Type 0
SwapsInGrid grid region old new =
    Mirrored {M = ℕ} (λ t a b. (row_place grid a + b) * grid.width + t)
    (λ t a b. ((t < grid.width) × (a < 2 ^ grid.digits) × (b < 2 ^ grid.digits)) × IsInRegion region (max a b) (min a b)) old new

-- the square of `size` rows and `size` columns from `start` on
abbrev pub square_at : (start size : ℕ) → Region
square_at start size = record { row_start = start; row_end = start + size; col_start = start; col_end = start + size }

-- The list has all places of the grid, no two rows of which overlap. Its length fits in a usize, and
-- `width` is at least 1
pub record HoldsGrid {A : Type 0} (grid : Grid) (items : List A) : Type 0 where
  pub few : grid.digits < 64
  pub wide : 0 < grid.width
  pub room : (a : ℕ) → a < 2 ^ grid.digits → (row_place grid a + 2 ^ grid.digits) * grid.width ≤ length items
  pub apart : (a b : ℕ) → a < b → b < 2 ^ grid.digits
      → (row_place grid a + 2 ^ grid.digits ≤ row_place grid b) ⊎ (row_place grid b + 2 ^ grid.digits ≤ row_place grid a)
  pub len_fits : length items < 2 ^ 64

-- There are `2 ^ (half + c)` rows of `row_width` items. This is the grid of those rows whose index has
-- `middle` between its `half` high and its `half` low bits: row x and column y of the grid are the row
-- whose index has x reversed, `middle` and y
abbrev pub grid_of_rows : (half c row_width middle : ℕ) → Grid
grid_of_rows half c row_width middle = record { width = row_width; base = middle * 2 ^ half; stride = 2 ^ c; digits = half }

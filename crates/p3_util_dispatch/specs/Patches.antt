-- The grids of the rows of a reversal, cut into patches. These definitions serve private contracts:
-- those of `src/parts.rt` and of the files below it.
--
-- There are `2 ^ digits` rows. As `crates/p3_util_kernels/src/reverse/rows.rt` explains, they form one grid, or two if
-- `digits` is odd. A grid has `2 ^ (digits / 2)` rows and as many columns. Both are cut into parts of
-- `part_len` numbers, which cuts the grid into patches. Source: new.
use Rattle.std.specs.Prelude.{ℕ, ◌≡◌, ◌+◌, ◌-◌, ◌*◌, ◌/◌, ◌%◌, ◌^◌, ◌<◌, ◌≤◌, ◌==◌, if◌then◌else◌, List}
use Rattle.p3_util_kernels.specs.declared.transpose.region.Region.{Region}
use Rattle.p3_util_fast.specs.Grid.{SwapsInGrid, grid_of_rows}
use Rattle.p3_util_dispatch.specs.Parts.{number_of_pair, pairs_of, parts_in, start_of}
use Rattle.p3_util_kernels.specs.Region.{items_of, rows_of}
use Rattle.p3_util_kernels.specs.SwapCounts.{square_swaps}

-- the number of patches on and above the diagonals of all grids
abbrev pub patches_of : (digits part_len : ℕ) → ℕ
patches_of digits part_len = pairs_of (parts_in (2 ^ (digits / 2)) part_len) * 2 ^ (digits % 2)

-- Of the patches that `patches_of` counts, the one with this number is `region` in the grid of the rows whose indices
-- have the middle part `middle`. The rows of the patch are one part of the grid's rows, and its columns are the same
-- part of the columns or a later one. Patches of the same rows and columns have consecutive numbers.
pub record IsPatch (digits part_len number middle : ℕ) (region : Region) : Type 0 where
  pub row : ℕ
  pub col : ℕ
  pub in_order : row ≤ col
  pub below : col < parts_in (2 ^ (digits / 2)) part_len
  pub middle_below : middle < 2 ^ (digits % 2)
  pub number_is : number ≡ number_of_pair (parts_in (2 ^ (digits / 2)) part_len) row col * 2 ^ (digits % 2) + middle
  pub region_is : region ≡ record { row_start = start_of (2 ^ (digits / 2)) part_len row; row_end = start_of (2 ^ (digits / 2)) part_len (row + 1); col_start = start_of (2 ^ (digits / 2)) part_len col; col_end = start_of (2 ^ (digits / 2)) part_len (col + 1) }

-- the number of exchanges for a patch of rows of one item. A patch on the diagonal takes
-- `square_swaps` of its rows, and a patch above it takes one exchange for each place
abbrev pub swaps_of_patch : Region → ℕ
swaps_of_patch region = if region.row_start == region.col_start then square_swaps (rows_of region) else items_of region

-- The pairs of rows in the patch with this number are exchanged, and no other rows. `Steps` holds
-- for the number of exchanges.
abbrev pub IsPatchExchanged : {A : Type 0} → (digits row_width part_len number : ℕ) (old new : List A) (Steps : ℕ → Type 0) → Type 0
IsPatchExchanged digits row_width part_len number old new Steps =
    let half = digits / 2 in
    (middle : ℕ) × (region : Region) × IsPatch digits part_len number middle region
    × SwapsInGrid (grid_of_rows half (digits - half) row_width middle) region old new
    × Steps (row_width * swaps_of_patch region)

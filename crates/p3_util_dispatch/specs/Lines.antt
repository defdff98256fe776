-- A region that is put by the cache lines of its output. These definitions serve only private contracts.
use Rattle.std.specs.Prelude.{ℕ, ◌≡◌, ◌≢◌, ◌+◌, ◌-◌, ◌*◌, ◌%◌, ◌^◌, ◌<◌, List, bit_and, length, min, slice_get}
use Rattle.p3_util_kernels.specs.declared.transpose.region.Region.{Region}
use Rattle.p3_util_kernels.specs.Sums.{sum_below}
use Rattle.p3_util_kernels.specs.Region.{IsInRegion, cols_of, rows_of}

-- How many cells come before the first cell of column x of a region in its line. A line has `cells` cells. Where a line
-- begins has no effect on what is put, so sums may wrap.
abbrev pub cells_before : (row_start cells before step x : ℕ) → ℕ
cells_before row_start cells before step x = bit_and (((before + row_start) % 2 ^ 64 + x * step % 2 ^ 64) % 2 ^ 64) (cells - 1)

-- the row to which column x of the region is put, if each column is put as far as `rows` rows after the line of its first
-- cell begins
abbrev pub limit : (region : Region) (cells before step rows x : ℕ) → ℕ
limit region cells before step rows x = region.row_start + min (rows_of region) (rows - cells_before region.row_start cells before step x)

-- Of each column x of the region, the rows before `to x` are put. Every other item of the output stays as it was
pub record IsPutTo {A : Type 0} (region : Region) (to : ℕ → ℕ) (width height : ℕ) (input old new : List A) : Type 0 where
  pub same_length : length new ≡ length old
  pub places : (x y : ℕ) → IsInRegion region x y → y < to x → slice_get new (x * height + y) ≡ slice_get input (y * width + x)
  pub others : (p : ℕ) → ((x y : ℕ) → IsInRegion region x y → y < to x → p ≢ x * height + y) → slice_get new p ≡ slice_get old p

-- how many items these are
abbrev pub items_to : Region → (ℕ → ℕ) → ℕ
items_to region to = sum_below (cols_of region) (λ i. to (region.col_start + i) - region.row_start)

-- Each column of the region is put one line further, from `rows_done` rows after its first line begins. This turns `out` into
-- `result`. `Steps` and `StepsNow` say how many items are put before and after this
abbrev pub IsRowPut : {A M : Type 0} → (region : Region) (cells before step rows_done width height : ℕ) (input out result : List A) (Steps StepsNow : ℕ → M → Type 0) → Type 0
IsRowPut {A} {M} region cells before step rows_done width height input out result Steps StepsNow =
    let from = limit region cells before step rows_done in
    let to = limit region cells before step (rows_done + cells) in
    ((old : List A) → IsPutTo region from width height input old out → IsPutTo region to width height input old result)
    × ((old : M) → Steps (items_to region from) old → StepsNow (items_to region to) old)

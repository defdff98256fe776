-- A region put column by column, and its numbers of items.
use Rattle.std.proofs.Common.{◌≡◌, ℕ, ◌+◌, ◌-◌, ◌*◌, ◌<◌, ◌≤◌, ◌⊎◌, List, length, slice_get, mul_comm, mul-le-mul_right, arith}
use Rattle.p3_util_kernels.specs.declared.transpose.region.Region.{Region}
use Rattle.p3_util_kernels.specs.Region.{IsRegionTransposed}
use Rattle.p3_util_kernels.proofs.BitsLemmas.Pairs.{mul-parts_left, mul-parts_right}

-- the numbers of items of a region's two parts add up to that of the region
pub rows_in_two : (start middle end cols : ℕ) → start ≤ middle → middle ≤ end → (middle - start) * cols + (end - middle) * cols ≡ (end - start) * cols
rows_in_two start middle end cols from to = mul-parts_left (middle - start) (end - middle) (end - start) cols (omega arith)

pub cols_in_two : (start middle end rows : ℕ) → start ≤ middle → middle ≤ end → rows * (middle - start) + rows * (end - middle) ≡ rows * (end - start)
cols_in_two start middle end rows from to = mul-parts_right (middle - start) (end - middle) (end - start) rows (omega arith)

-- if the `rows` items of a column are put at consecutive cells, that column of the region is transposed
pub region_of_column : {A : Type 0} (region : Region) (width height col rows : ℕ) (input old new : List A)
    → region.row_end ≡ region.row_start + rows
    → length new ≡ length old
    → ((t : ℕ) → t < rows → slice_get new (col * height + region.row_start + t) ≡ slice_get input ((region.row_start + t) * width + col))
    → ((p : ℕ) → (p < col * height + region.row_start) ⊎ (col * height + region.row_start + rows ≤ p) → slice_get new p ≡ slice_get old p)
    → IsRegionTransposed (record region { col_start = col; col_end = col + 1 }) width height input old new
region_of_column region width height col rows input old new end same places others = record {
  same_length = same;
  places = λ x y h.
      let ex : x ≡ col = omega (arith, h.col_from, h.col_to) in
      let row : region.row_start + (y - region.row_start) ≡ y = omega (arith, h.row_from) in
      let there : col * height + region.row_start + (y - region.row_start) ≡ col * height + y = omega (arith, row) in
      let inside : y - region.row_start < rows = omega (arith, end, h.row_from, h.row_to) in
      rw ex (rw there at (rw row at (places (y - region.row_start) inside)));
  others = λ p out. others p (grind (arith, end, out col (p - col * height)));
}

-- an item of a matrix, and its cell, lie in lists of `width * height` items
pub cell_inside : (x y width height : ℕ) → x < width → y < height → x * height + y < width * height
cell_inside x y width height hx hy = omega (arith, hx, hy, mul-le-mul_right height (let next : x + 1 ≤ width = omega (arith, hx) in next))

pub item_inside : (x y width height : ℕ) → x < width → y < height → y * width + x < width * height
item_inside x y width height hx hy = omega (arith, cell_inside y x height width hy hx, mul_comm width height)

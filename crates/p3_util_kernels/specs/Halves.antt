-- A region cut into two parts. These definitions serve the private contracts of the split and of
-- the regions that it cuts.
use Rattle.std.specs.Prelude.{ℕ, ◌≡◌, ◌+◌, ◌<◌, ◌≤◌, ◌⊎◌, max}
use Rattle.p3_util_kernels.specs.declared.transpose.region.Region.{Region}
use Rattle.p3_util_kernels.specs.Levels.{lev, nest}
use Rattle.p3_util_kernels.specs.Region.{IsInRegion, cols_of, items_of, rows_of}

-- The part lies in the whole. If the rows of the whole are in order, so are those of the part, and
-- the same holds for the columns.
pub record IsPart (whole part : Region) : Type 0 where
  pub row_from : whole.row_start ≤ part.row_start
  pub row_to : part.row_end ≤ whole.row_end
  pub col_from : whole.col_start ≤ part.col_start
  pub col_to : part.col_end ≤ whole.col_end
  pub rows : whole.row_start ≤ whole.row_end → part.row_start ≤ part.row_end
  pub cols : whole.col_start ≤ whole.col_end → part.col_start ≤ part.col_end

-- A region is cut into two parts. Each place of the region lies in exactly one of them, and
-- together they have as many items as the region.
pub record IsCut (whole first second : Region) : Type 0 where
  pub parts : (x y : ℕ) → IsInRegion whole x y → (IsInRegion first x y) ⊎ (IsInRegion second x y)
  pub apart : (x y : ℕ) → IsInRegion first x y → IsInRegion second x y → ⊥
  pub first_inside : IsPart whole first
  pub second_inside : IsPart whole second
  pub items : items_of first + items_of second ≡ items_of whole

-- A region is cut into two parts. In each part the splits nest at least one level less deep than in
-- the region, and in one of the parts exactly one level less.
pub record AreHalves (whole first second : Region) : Type 0 where
  pub cut : IsCut whole first second
  pub first_levels : lev (rows_of first) (cols_of first) < lev (rows_of whole) (cols_of whole)
  pub second_levels : lev (rows_of second) (cols_of second) < lev (rows_of whole) (cols_of whole)
  pub nested : 1 + max (nest (rows_of first) (cols_of first)) (nest (rows_of second) (cols_of second)) ≡ nest (rows_of whole) (cols_of whole)

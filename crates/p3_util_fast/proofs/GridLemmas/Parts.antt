-- Parts of a grid are exchanged across its diagonal, one after another.
use Rattle.std.proofs.Common.{◌≡◌, ◌≢◌, ℕ, ◌+◌, ◌-◌, ◌*◌, ◌^◌, ◌<◌, ◌≤◌, ◌⊎◌, min, max, List, length, slice_index, inl, inr, ap, mul-le-mul_left, mul-le-mul_right, arith}
use Rattle.std.proofs.lemmas.Bool.{cases_lt}
use Rattle.std.proofs.lemmas.Nat.{same_from_place}
use Rattle.p3_util_fast.specs.declared.grid.Grid.{Grid}
use Rattle.p3_util_kernels.specs.declared.transpose.region.Region.{Region}
use Rattle.p3_util_kernels.specs.Exchanged.{RunsExchanged}
use Rattle.p3_util_fast.specs.Tiles.{AreTiles, IsTile}
use Rattle.p3_util_fast.specs.Registers.{ItemsExchanged}
use Rattle.p3_util_fast.specs.Grid.{HoldsGrid, PlacesFit, SwapsInGrid, row_place}
use Rattle.p3_util_kernels.specs.Halves.{IsCut}
use Rattle.p3_util_kernels.specs.Region.{IsInRegion}
use Rattle.p3_util_fast.proofs.GridLemmas.Crossing.{outside}
use Rattle.p3_util_fast.proofs.GridLemmas.Mirrored.{Mirrored-cut, Mirrored-none}
use Rattle.p3_util_kernels.proofs.TransposeLemmas.Region.{IsCut-cols, IsCut-rows}

-- an item of a tile, and its mirror image
in_tile : (row col a b : ℕ) → (row ≡ col) ⊎ (row + 8 ≤ col) → row ≤ a → a < row + 8 → col ≤ b → b < col + 8
    → let tile : Region = record { row_start = row; row_end = row + 8; col_start = col; col_end = col + 8 } in IsInRegion tile (max a b) (min a b) × IsInRegion tile (max b a) (min b a)
in_tile row col a b above ha ka hb kb = grind (arith, above)

module _ {A : Type 0} (grid : Grid) (items : List A) (holds : HoldsGrid grid items) where
  side : ℕ
  side = 2 ^ grid.digits

  -- the items of one place
  pub grid_room : (a b : ℕ) → a < 2 ^ grid.digits → b < 2 ^ grid.digits → (row_place grid a + b) * grid.width + grid.width ≤ length items
  grid_room a b ha hb =
      let row : (row_place grid a + b + 1) * grid.width ≤ (row_place grid a + 2 ^ grid.digits) * grid.width = mul-le-mul_right grid.width (omega arith) in
      omega (arith, row, holds.room a ha)

  pub grid_fits : PlacesFit grid
  grid_fits = record {
    few = holds.few;
    rows = λ a less.
        let wide : (row_place grid a + 2 ^ grid.digits) * 1 ≤ (row_place grid a + 2 ^ grid.digits) * grid.width = mul-le-mul_left (row_place grid a + 2 ^ grid.digits) (omega (arith, holds.wide)) in
        omega (arith, wide, holds.room a less, holds.len_fits);
  }

  -- two rows do not overlap
  rows_apart : (a b : ℕ) → a < 2 ^ grid.digits → b < 2 ^ grid.digits → a ≢ b
      → (row_place grid a + 2 ^ grid.digits ≤ row_place grid b) ⊎ (row_place grid b + 2 ^ grid.digits ≤ row_place grid a)
  rows_apart a b ha hb ne = grind (arith, ne, holds.apart a b, holds.apart b a)

  -- each place has only one row and one column
  pub one_place : (a b v w : ℕ) → a < 2 ^ grid.digits → b < 2 ^ grid.digits → v < 2 ^ grid.digits → w < 2 ^ grid.digits
      → row_place grid a + b ≡ row_place grid v + w → (a ≡ v) × (b ≡ w)
  one_place a b v w ha hb hv hw e = grind (arith, e, rows_apart a v ha hv)

  abbrev Within : ℕ → ℕ → ℕ → Type 0
  Within t a b = (t < grid.width) × (a < 2 ^ grid.digits) × (b < 2 ^ grid.digits)

  same_pair : (m n x y v w : ℕ) → Within m x y → Within n v w
      → (row_place grid x + y) * grid.width + m ≡ (row_place grid v + w) * grid.width + n → (max x y ≡ max v w) × (min x y ≡ min v w)
  same_pair m n x y v w h k e =
      let places = same_from_place (row_place grid x + y) m (row_place grid v + w) n grid.width h.0 k.0 e in
      let same = one_place x y v w h.1 h.2 k.1 k.2 places.0 in
      (omega (arith, same.0, same.1), omega (arith, same.0, same.1))

  turned : (m x y : ℕ) → Within m x y → Within m y x
  turned m x y h = (h.0, h.2, h.1)

  module _ {B : Type 0} where
    pub SwapsInGrid-none : (region : Region) (xs : List B) → ((t a b : ℕ) → Within t a b → IsInRegion region (max a b) (min a b) → a ≡ b)
        → SwapsInGrid grid region xs xs
    SwapsInGrid-none = Mirrored-none _ _ (λ m n. n) turned same_pair

    -- one part of a region, and then the other
    pub cut_exchanged : (whole first second : Region) (xs ys zs : List B) → IsCut whole first second
        → SwapsInGrid grid first xs ys → SwapsInGrid grid second ys zs → SwapsInGrid grid whole xs zs
    cut_exchanged = Mirrored-cut _ _ (λ m n. n) turned same_pair

    -- row a and column b are exchanged with row b and column a
    pub SwapsInGrid-pair : (a b : ℕ) (xs ys : List B) → a < b → b < 2 ^ grid.digits
        → RunsExchanged ((row_place grid a + b) * grid.width) ((row_place grid b + a) * grid.width) grid.width xs ys
        → SwapsInGrid grid (record { row_start = a; row_end = a + 1; col_start = b; col_end = b + 1 }) xs ys
    SwapsInGrid-pair a b xs ys less below pair = record {
      same_length = pair.same_length;
      crossed = λ t c d h. grind (arith, h, pair.first t h.0.0, pair.second t h.0.0);
      others = λ k out.
          pair.others k
          (outside k _ grid.width (λ t ht. out t a b ((ht, omega arith, below), grind arith)))
          (outside k _ grid.width (λ t ht. out t b a ((ht, below, omega arith), grind arith)));
    }

    -- the first column of the region is exchanged, and then the others
    pub SwapsInGrid-item : (row col : ℕ) (region : Region) (xs ys zs : List B) → row < region.col_start → region.col_start ≤ col → col < 2 ^ grid.digits
        → SwapsInGrid grid (record region { row_start = row; row_end = row + 1; col_end = col }) xs ys
        → RunsExchanged ((row_place grid row + col) * grid.width) ((row_place grid col + row) * grid.width) grid.width ys zs
        → SwapsInGrid grid (record region { row_start = row; row_end = row + 1; col_end = col + 1 }) xs zs
    SwapsInGrid-item row col region xs ys zs above from within before step =
        let done : Region = record region { row_start = row; row_end = row + 1; col_end = col + 1 } in
        cut_exchanged done _ _ xs ys zs (IsCut-cols done col from (omega arith)) before (SwapsInGrid-pair row col ys zs (omega arith) within step)

    -- the upper left quadrant, the upper right one with its mirror image, and the lower right one make up the square
    pub SwapsInGrid-quadrants : (start mid end : ℕ) (xs ys zs ws : List B) → start ≤ mid → mid ≤ end
        → SwapsInGrid grid (record { row_start = start; row_end = mid; col_start = start; col_end = mid }) xs ys
        → SwapsInGrid grid (record { row_start = start; row_end = mid; col_start = mid; col_end = end }) ys zs
        → SwapsInGrid grid (record { row_start = mid; row_end = end; col_start = mid; col_end = end }) zs ws
        → SwapsInGrid grid (record { row_start = start; row_end = end; col_start = start; col_end = end }) xs ws
    SwapsInGrid-quadrants start mid end xs ys zs ws h1 h2 s t u =
        let whole : Region = record { row_start = start; row_end = end; col_start = start; col_end = end } in
        let upper : Region = record whole { row_end = mid } in
        let lower : Region = record whole { row_start = mid } in
        cut_exchanged whole upper _ xs zs ws (IsCut-rows whole mid h1 h2) (cut_exchanged upper _ _ xs ys zs (IsCut-cols upper mid h1 h2) s t)
        (cut_exchanged lower _ _ zs zs ws (IsCut-cols lower mid h1 h2) (SwapsInGrid-none _ zs (λ t a b h k. absurd (omega (arith, k.row_from, k.col_to)))) u)

    -- in a square, one more row to the right of the diagonal
    pub SwapsInGrid-corner : (start row end : ℕ) (xs ys zs : List B) → start ≤ row → row < end
        → SwapsInGrid grid (record { row_start = start; row_end = row; col_start = start; col_end = end }) xs ys
        → SwapsInGrid grid (record { row_start = row; row_end = row + 1; col_start = row + 1; col_end = end }) ys zs
        → SwapsInGrid grid (record { row_start = start; row_end = row + 1; col_start = start; col_end = end }) xs zs
    SwapsInGrid-corner start row end xs ys zs from to before step =
        let done : Region = record { row_start = start; row_end = row + 1; col_start = start; col_end = end } in
        let last : Region = record done { row_start = row } in
        cut_exchanged done _ _ xs ys zs (IsCut-rows done row from (omega arith)) before
        (cut_exchanged last _ _ ys ys zs (IsCut-cols last (row + 1) (omega arith) (omega arith))
        (SwapsInGrid-none _ ys (λ t a b h k. omega (arith, k.row_from, k.col_to))) step)

    -- a tile is exchanged with its mirror image, which is the tile itself on the diagonal
    pub SwapsInGrid-tile : (row col : ℕ) (x y : List ℕ) (some : ℕ → ℕ → Type 0) (xs ys : List B) → grid.width ≡ 1 → (row ≡ col) ⊎ (row + 8 ≤ col) → col + 8 ≤ 2 ^ grid.digits
        → ((t : ℕ) → t < 8 → slice_index x t ≡ row_place grid (row + t) + col) → ((t : ℕ) → t < 8 → slice_index y t ≡ row_place grid (col + t) + row)
        → ((r c : ℕ) → r < 8 → c < 8 → row + r ≤ col + c → some r c) → ItemsExchanged some x y xs ys
        → SwapsInGrid grid (record { row_start = row; row_end = row + 8; col_start = col; col_end = col + 8 }) xs ys
    SwapsInGrid-tile row col x y some xs ys one above within upper lower all s =
        let single : (n : ℕ) → n * grid.width + 0 ≡ n = λ n. omega (arith, ap (λ k. n * k) one) in
        let up : (a b : ℕ) → row ≤ a → a < row + 8 → col ≤ b → (row_place grid a + b) * grid.width + 0 ≡ slice_index x (a - row) + (b - col) =
        λ a b ha ka hb. let at : row + (a - row) ≡ a = omega arith in omega (arith, single (row_place grid a + b), rw at at (upper (a - row) (omega arith))) in
        let low : (a b : ℕ) → row ≤ a → col ≤ b → b < col + 8 → (row_place grid b + a) * grid.width + 0 ≡ slice_index y (b - col) + (a - row) =
        λ a b ha hb kb. let at : col + (b - col) ≡ b = omega arith in omega (arith, single (row_place grid b + a), rw at at (lower (b - col) (omega arith))) in
        record {
          same_length = s.same_length;
          crossed = λ t a b h.
              let first : t ≡ 0 = omega (arith, h.0.0, one) in
              let ra : row ≤ min a b = h.1.row_from in
              let ka : min a b < row + 8 = h.1.row_to in
              let cb : col ≤ max a b = h.1.col_from in
              let kb : max a b < col + 8 = h.1.col_to in
              elim (cases_lt a b) [
                | inl less ↦ rw (first, up a b (omega arith) (omega arith) (omega arith), low a b (omega arith) (omega arith) (omega arith)) (s.first (a - row) (b - col) (omega arith) (omega arith) (all _ _ (omega arith) (omega arith) (omega arith)))
                | inr more ↦ rw (first, up b a (omega arith) (omega arith) (omega arith), low b a (omega arith) (omega arith) (omega arith)) (s.second (b - row) (a - col) (omega arith) (omega arith) (all _ _ (omega arith) (omega arith) (omega arith)))
              ];
          others = λ k out.
              s.others k (λ r c hr hc h.
              let at = in_tile row col (row + r) (col + c) above (omega arith) (omega arith) (omega arith) (omega arith) in
              let low : row ≤ col = elim above [ inl e ↦ omega arith | inr e ↦ omega arith ] in (
                λ e. out 0 (row + r) (col + c) ((omega (arith, one), omega arith, omega arith), at.0) (omega (arith, e, single (row_place grid (row + r) + (col + c)), upper r hr)),
                λ e. out 0 (col + c) (row + r) ((omega (arith, one), omega arith, omega arith), at.1) (omega (arith, e, single (row_place grid (col + c) + (row + r)), lower c hc)),
              ));
        }

  -- the rows of tiles
  room : grid.width ≡ 1 → (a : ℕ) → a < 2 ^ grid.digits → row_place grid a + 2 ^ grid.digits ≤ length items
  room one a ha = omega (arith, ap (λ k. (row_place grid a + 2 ^ grid.digits) * k) one, holds.room a ha)

  parts : (a b p q : ℕ) → a < 2 ^ grid.digits → b < 2 ^ grid.digits → a ≢ b → p + 8 ≤ 2 ^ grid.digits → q + 8 ≤ 2 ^ grid.digits
      → (row_place grid a + p + 8 ≤ row_place grid b + q) ⊎ (row_place grid b + q + 8 ≤ row_place grid a + p)
  parts a b p q ha hb ne hp hq = elim (rows_apart a b ha hb ne) [ inl u ↦ inl (omega arith) | inr u ↦ inr (omega arith) ]

  -- no two rows of a tile on the diagonal overlap
  pub IsTile-grid : (start : ℕ) (x : List ℕ) → grid.width ≡ 1 → start + 8 ≤ 2 ^ grid.digits
      → ((t : ℕ) → t < 8 → slice_index x t ≡ row_place grid (start + t) + start) → IsTile x (length items)
  IsTile-grid start x one within at = record {
    inside = λ r h. rw (at r h) (omega (arith, room one (start + r) (omega arith)));
    apart = λ a b less h. rw (at a (omega arith), at b h) (parts (start + a) (start + b) start start (omega arith) (omega arith) (λ e. omega arith) within within);
  }

  -- a tile above the diagonal and its mirror image do not overlap
  pub AreTiles-grid : (row col : ℕ) (x y : List ℕ) → grid.width ≡ 1 → row + 8 ≤ col → col + 8 ≤ 2 ^ grid.digits
      → ((t : ℕ) → t < 8 → slice_index x t ≡ row_place grid (row + t) + col) → ((t : ℕ) → t < 8 → slice_index y t ≡ row_place grid (col + t) + row)
      → AreTiles x y (length items)
  AreTiles-grid row col x y one above within upper lower =
      record {
        first_inside = λ r h. rw (upper r h) (omega (arith, room one (row + r) (omega arith)));
        second_inside = λ r h. rw (lower r h) (omega (arith, room one (col + r) (omega arith)));
        first_apart = λ a b less h. rw (upper a (omega arith), upper b h) (parts (row + a) (row + b) col col (omega arith) (omega arith) (λ e. omega arith) within within);
        second_apart = λ a b less h. rw (lower a (omega arith), lower b h) (parts (col + a) (col + b) row row (omega arith) (omega arith) (λ e. omega arith) (omega arith) (omega arith));
        both_apart = λ a b ha hb. rw (upper a ha, lower b hb) (parts (row + a) (col + b) col row (omega arith) (omega arith) (λ e. omega arith) within (omega arith));
      }

-- Rows of a list as grids: those whose indices have the same middle bit form one grid.
use Rattle.std.proofs.Common.{◌≡◌, ℕ, ◌+◌, ◌-◌, ◌*◌, ◌^◌, ◌<◌, ◌≤◌, List, inl, inr, ap, ◌∙◌, mul-le-mul_right, pow-add, arith}
use Rattle.std.proofs.lemmas.Bool.{cases_lt}
use Rattle.p3_util_fast.specs.declared.grid.Grid.{Grid}
use Rattle.p3_util_fast.specs.Crossing.{HoldsRows, IsRowItem, row_of}
use Rattle.p3_util_kernels.specs.Digits.{rev}
use Rattle.p3_util_fast.specs.Grid.{HoldsGrid, SwapsInGrid, grid_of_rows, row_place, square_at}
use Rattle.p3_util_fast.proofs.GridLemmas.Crossing.{AreCrossed, same_item, turned as turned_item}
use Rattle.p3_util_kernels.proofs.BitsLemmas.Digits.{rev-lt, rev-rev-below}
use Rattle.p3_util_fast.proofs.GridLemmas.Distances.{turned}
use Rattle.p3_util_kernels.proofs.ReverseLemmas.SideBySide.{row_length}

module _ (half c row_width middle : ℕ) (within : half ≤ c) (below : middle < 2 ^ (c - half)) where
  abbrev grid : Grid
  grid = grid_of_rows half c row_width middle

  -- the place of row x and column y is the row whose index has these parts
  pub place-row : (x y : ℕ) → row_place (grid_of_rows half c row_width middle) x + y ≡ row_of half c middle x y
  place-row x y = omega (arith, turned grid x)

  -- the grid's columns are part of a row of the list
  columns : middle * 2 ^ half + 2 ^ half ≤ 2 ^ c
  columns = omega (arith, row_length c half within, mul-le-mul_right {m = middle + 1} {n = 2 ^ (c - half)} (2 ^ half) (omega arith))

  -- rows of the grid whose reversed numbers are in order
  later : (a b : ℕ) → rev half a < rev half b → row_place (grid_of_rows half c row_width middle) a + 2 ^ half ≤ row_place (grid_of_rows half c row_width middle) b
  later a b less =
      let next : (rev half a + 1) * 2 ^ c ≤ rev half b * 2 ^ c = mul-le-mul_right (2 ^ c) (omega arith) in
      omega (arith, next, columns, turned grid a, turned grid b)

  pub HoldsGrid-rows : {A : Type 0} (digits : ℕ) (items : List A) → digits ≡ half + c → HoldsRows row_width digits items
      → HoldsGrid (grid_of_rows half c row_width middle) items
  HoldsGrid-rows digits items is rows = record {
    few = omega (arith, rows.few);
    wide = rows.wide;
    room = λ a less.
        let row : (rev half a + 1) * 2 ^ c ≤ 2 ^ half * 2 ^ c = mul-le-mul_right (2 ^ c) (omega (arith, rev-lt half a)) in
        let all : 2 ^ digits ≡ 2 ^ half * 2 ^ c = ap (λ n. 2 ^ n) is ∙ pow-add 2 half c in
        let places : row_place grid a + 2 ^ half ≤ 2 ^ digits = omega (arith, row, all, columns, turned grid a) in
        omega (arith, mul-le-mul_right {m = row_place grid a + 2 ^ half} {n = 2 ^ digits} row_width places, rows.rows);
    apart = λ a b less h. grind (arith, later a b, later b a, rev-rev-below half a (omega arith), rev-rev-below half b h);
    len_fits = rows.len_fits;
  }

  -- the pairs in the grids before this one are exchanged, and then those in this grid
  pub AreCrossed-more : {A : Type 0} (xs ys zs : List A) → AreCrossed half c row_width middle xs ys
      → SwapsInGrid (grid_of_rows half c row_width middle) (square_at 0 (2 ^ half)) ys zs
      → AreCrossed half c row_width (middle + 1) xs zs
  AreCrossed-more xs ys zs s t =
      let own : (u v w : ℕ) → (u < row_width) × (v < 2 ^ half) × (w < 2 ^ half) → IsRowItem half c row_width middle u v w =
      λ u v w h. record { middle = below; item = h.0; high = h.1; low = h.2 } in
      record {
        same_length = t.same_length ∙ s.same_length;
        crossed = λ m x y (item, less).
            elim (cases_lt m.0 middle) [
              | inl before ↦
                  t.others (row_of half c m.0 x y * row_width + m.1)
                  (λ u v w k e.
                  omega (arith, before, (same_item half c within row_width m (middle, u) x y v w item (own u v w k.0) (e ∙ ap (λ n. n * row_width + u) (place-row v w))).0.0))
                  ∙ s.crossed m x y (item, before)
              | inr last ↦
                  let is : m.0 ≡ middle = omega arith in
                  rw (is, ← place-row x y, ← place-row y x)
                  (t.crossed m.1 x y ((item.item, item.high, item.low), grind (arith, item))
                  ∙ rw (place-row, ← is)
                  (s.others (row_of half c m.0 y x * row_width + m.1)
                  (λ n v w k e. omega (arith, is, k.1, (same_item half c within row_width m n y x v w (turned_item half c within row_width m x y item) k.0 e).0.0))))
            ];
        others = λ p out.
            t.others p (λ u v w k e. out (middle, u) v w (own u v w k.0, omega arith) (e ∙ ap (λ n. n * row_width + u) (place-row v w)))
            ∙ s.others p (λ m x y k. out m x y (k.0, omega (arith, k.1)));
      }

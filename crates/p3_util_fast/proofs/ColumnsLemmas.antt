-- Columns of a matrix put one after another, and items of a column.
use Rattle.std.proofs.Common.{◌≡◌, ℕ, ◌+◌, ◌-◌, ◌*◌, ◌<◌, ◌≤◌, List, length, inl, inr, ap, ◌∙◌, arith}
use Rattle.std.proofs.lemmas.Bool.{cases_lt}
use Rattle.std.proofs.lemmas.Nat.{mul-add-lt}
use Rattle.p3_util_kernels.specs.declared.transpose.region.Region.{Region}
use Rattle.p3_util_fast.specs.Columns.{HoldsColumn, IsColumnPut}
use Rattle.p3_util_kernels.specs.Region.{IsReady, IsRegionTransposed, rows_of}
use Rattle.p3_util_kernels.proofs.TransposeLemmas.Tiles.{region_of_column}

module _ {A : Type 0} (width : ℕ) (input : List A) where
  -- some items of a column, and then more of them
  pub IsColumnPut-more : (rows more from to : ℕ) (old mid new : List A)
      → IsColumnPut rows from width to input old mid
      → IsColumnPut more (from + rows * width) width (to + rows) input mid new
      → IsColumnPut (rows + more) from width to input old new
  IsColumnPut-more rows more from to old mid new first second = record {
    same_length = second.same_length ∙ first.same_length;
    places = λ t ht.
        elim (cases_lt t rows) [
          | inl before ↦ second.others (to + t) (inl (omega arith)) ∙ first.places t before
          | inr after ↦
              let whole : rows + (t - rows) ≡ t = omega arith in
              let there : to + rows + (t - rows) ≡ to + t = omega arith in
              let here : from + rows * width + (t - rows) * width ≡ from + t * width = omega (arith, ap (λ n. n * width) whole) in
              rw (there, here) at (second.places (t - rows) (omega arith))
        ];
    others = λ p out. grind (arith, out, first.others p, second.others p);
  }

-- the preconditions for all items of a column include those for some of them
pub HoldsColumn-some : {A : Type 0} (rows from width to : ℕ) (input old out : List A) (done more : ℕ) → done + more ≤ rows → length out ≡ length old
    → HoldsColumn rows from width to input old → HoldsColumn more (from + done * width) width (to + done) input out
HoldsColumn-some rows from width to input old out done more within same h = record {
  inside = λ t ht. omega (arith, h.inside (done + t) (omega arith));
  room = omega (arith, same, h.room);
  input_fits = h.input_fits;
  out_fits = omega (arith, same, h.out_fits);
}

-- the items of one column of a region
module _ {A : Type 0} (region : Region) (width height col : ℕ) (input : List A) where
  pub HoldsColumn-region : (old out : List A) → region.row_start < region.row_end → col < region.col_end → length out ≡ length old
      → IsReady region width height input old
      → HoldsColumn (rows_of region) (region.row_start * width + col) width (col * height + region.row_start) input out
  HoldsColumn-region old out some to same h =
      let inside = h.inside in
      let last = mul-add-lt col height (region.row_end - 1) width (omega (arith, inside.cols_inside)) (omega (arith, inside.rows_inside)) in
      record {
        inside = λ t ht. omega (arith, h.input_fits, mul-add-lt (region.row_start + t) width col height (omega (arith, inside.cols_inside)) (omega (arith, inside.rows_inside)));
        room = omega (arith, same, h.output_fits, last);
        input_fits = omega (arith, h.input_fits, h.len_fits);
        out_fits = omega (arith, same, h.output_fits, h.len_fits);
      }

  pub IsRegionTransposed-column : (old new : List A) → region.row_start ≤ region.row_end
      → IsColumnPut (rows_of region) (region.row_start * width + col) width (col * height + region.row_start) input old new
      → IsRegionTransposed (record region { col_start = col; col_end = col + 1 }) width height input old new
  IsRegionTransposed-column old new order s =
      region_of_column region width height col (rows_of region) input old new (omega arith) s.same_length
      (λ t h. let here : region.row_start * width + col + t * width ≡ (region.row_start + t) * width + col = omega arith in rw here at (s.places t h)) s.others

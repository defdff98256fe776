-- The whole matrix as a region.
use Rattle.std.proofs.Common.{◌≡◌, ℕ, ◌*◌, ◌/◌, ◌%◌, List, length, inl, inr, sym, ◌∙◌, mul_comm, div-add-mod', arith}
use Rattle.std.proofs.lemmas.Bool.{cases_lt}
use Rattle.std.proofs.lemmas.Option.{slice_get_past}
use Rattle.p3_util_kernels.specs.declared.transpose.region.Region.{Region}
use Rattle.p3_util_kernels.specs.Region.{IsRegionTransposed, cols_of, items_of, rows_of}
use Rattle.p3_util_kernels.specs.Transpose.{IsTranspose}
use Rattle.p3_util_kernels.proofs.TransposeLemmas.Matrix.{row_and_column}

-- a transpose puts the region that has all rows and all columns
pub whole_put : {A : Type 0} (region : Region) (width height : ℕ) (input old new : List A) → region.row_start ≡ 0 → region.row_end ≡ height
    → region.col_start ≡ 0 → region.col_end ≡ width → length old ≡ width * height → IsTranspose width height input new
    → IsRegionTransposed region width height input old new
whole_put region width height input old new top bottom left right fits put = record {
  same_length = put.same_length ∙ sym fits;
  places = λ x y h. put.places x y (omega (arith, h.col_to, right)) (omega (arith, h.row_to, bottom));
  others = λ p out.
      elim (cases_lt p (width * height)) [
        | inl within ↦
            let at = row_and_column p width height within in
            absurd (out (p / height) (p % height)
            (record { row_from = omega (arith, top); row_to = omega (arith, at.1, bottom); col_from = omega (arith, left); col_to = omega (arith, at.0, right) })
            (sym (div-add-mod' p height)))
        | inr past ↦ slice_get_past new p (omega (arith, past, put.same_length)) ∙ sym (slice_get_past old p (omega (arith, past, fits)))
      ];
}

-- it has as many items as the matrix
pub whole_items : (region : Region) (width height : ℕ) → region.row_start ≡ 0 → region.row_end ≡ height → region.col_start ≡ 0 → region.col_end ≡ width
    → items_of region ≡ width * height
whole_items region width height top bottom left right =
    let rows : rows_of region ≡ height = omega (arith, top, bottom) in
    let cols : cols_of region ≡ width = omega (arith, left, right) in
    rw (rows, cols) (mul_comm height width)

-- and to put this region is a transpose
pub whole_order : {A : Type 0} (width height : ℕ) (input old new : List A) → length old ≡ width * height
    → IsRegionTransposed (record { row_start = 0; row_end = height; col_start = 0; col_end = width }) width height input old new → IsTranspose width height input new
whole_order width height input old new fits put = record {
  same_length = put.same_length ∙ fits;
  places = λ x y hx hy. put.places x y (record { row_from = omega arith; row_to = hy; col_from = omega arith; col_to = hx });
}

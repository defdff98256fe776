-- A region of a transpose names each of its places once. So if there are as many writes as it has
-- items, the writes are at these places.
use Rattle.std.proofs.Common.{◌≡◌, ◌≢◌, ℕ, ◌+◌, ◌*◌, ◌/◌, ◌%◌, ◌<◌, true, List, length, slice_get, refl, sym, ◌∙◌, arith}
use Rattle.std.proofs.lemmas.Nat.{mul-add-lt, same_from_place}
use Rattle.p3_util_kernels.specs.declared.transpose.region.Region.{Region}
use Rattle.p3_util_kernels.specs.Least.{AreOnceAmong, after_puts, places_put}
use Rattle.p3_util_dispatch.specs.PlacesOfParts.{IsPlaceOfRegion, NoItemInCommon}
use Rattle.p3_util_kernels.specs.Region.{IsInRegion, IsRegionTransposed, LiesInMatrix, cols_of, items_of, rows_of}
use Rattle.p3_util_kernels.proofs.LawsLemmas.Counts.{count-all}
use Rattle.p3_util_kernels.proofs.TransposeLemmas.Matrix.{row_and_column, same_number}
use Rattle.p3_util_kernels.proofs.PlacesLemmas.WrittenPlaces.{AreOnceAmong-weaker, puts-places, puts-written, written-at}

module _ (region : Region) where
  -- the column and the row of item i, if items are counted column by column
  abbrev pub column : ℕ → ℕ
  column i = region.col_start + i / rows_of region

  abbrev pub row : ℕ → ℕ
  row i = region.row_start + i % rows_of region

  pub in_region : (i : ℕ) → i < items_of region → IsInRegion region (column i) (row i)
  in_region i less =
      let at = row_and_column i (cols_of region) (rows_of region) (omega arith) in
      record { row_from = omega arith; row_to = omega arith; col_from = omega arith; col_to = omega arith }

module _ (region : Region) (width height : ℕ) (inside : LiesInMatrix region width height) where
  abbrev place : ℕ → ℕ
  place i = column region i * height + row region i

  apart : (i j : ℕ) → i < items_of region → j < items_of region → place i ≡ place j → i ≡ j
  apart i j hi hj e =
      let here = in_region region i hi in
      let there = in_region region j hj in
      let same = same_from_place (column region i) (row region i) (column region j) (row region j) height (omega (arith, here.row_to, inside.rows_inside)) (omega (arith, there.row_to, inside.rows_inside)) e in
      same_number i j (rows_of region) (omega (arith, same.0)) (omega (arith, same.1))

  pub region-stays : {A : Type 0} (input old : List A) (steps : List (ℕ × A)) → length input ≡ width * height → length old ≡ width * height → NoItemInCommon input old
      → length steps ≡ items_of region → IsRegionTransposed region width height input old (after_puts old steps)
      → AreOnceAmong (λ p. IsPlaceOfRegion region height p × (slice_get old p ≢ slice_get (after_puts old steps) p)) (places_put steps)
  region-stays input old steps input_fits old_fits strange many put =
      let changed : (i : ℕ) → i < items_of region → true ≡ true → slice_get old (place i) ≢ slice_get (after_puts old steps) (place i) =
      λ i less t e.
      let at = in_region region i less in
      let x_below : column region i < width = omega (arith, at.col_to, inside.cols_inside) in
      let y_below : row region i < height = omega (arith, at.row_to, inside.rows_inside) in
      strange (row region i * width + column region i) (place i) (rw input_fits (mul-add-lt (row region i) width (column region i) height y_below x_below))
      (omega (arith, old_fits, mul-add-lt (column region i) height (row region i) width x_below y_below)) (sym (put.places (column region i) (row region i) at) ∙ sym e) in
      let at = written-at (items_of region) place (λ i. true) (λ i j hi hj ti tj. apart i j hi hj) (places_put steps) old (after_puts old steps)
      (puts-written steps old) changed (omega (arith, count-all (items_of region), many, puts-places steps)) in
      AreOnceAmong-weaker _ _ (places_put steps) (λ p (i, less, t, e). rw e ((column region i, row region i, in_region region i less, refl), changed i less t)) at

-- The places of a patch that are exchanged with their mirror images, and the exchanges at these places.
use Rattle.std.proofs.Common.{◌≡◌, ◌≢◌, ℕ, Bool, true, nat_lt, ltb-true, ◌*◌, ◌/◌, ◌%◌, ◌^◌, ◌<◌, IsTrue, List, length, slice_get, max, min, inl, inr, refl, ap, arith}
use Rattle.std.proofs.lemmas.Bool.{cases_eq, eq-eqb, ne_eqb}
use Rattle.std.proofs.lemmas.Bool.Decides.{nat_tests}
use Rattle.p3_util_kernels.specs.declared.transpose.region.Region.{Region}
use Rattle.p3_util_dispatch.specs.Patches.{IsPatch, swaps_of_patch}
use Rattle.p3_util_kernels.specs.Least.{AllDiffer, AreOnceAmong, after_swaps, count_below, places_swapped}
use Rattle.p3_util_fast.specs.Mirrored.{Mirrored}
use Rattle.p3_util_dispatch.specs.PlacesOfParts.{IsInPatch}
use Rattle.p3_util_kernels.specs.Region.{items_of, rows_of}
use Rattle.p3_util_kernels.specs.SwapCounts.{square_swaps}
use Rattle.p3_util_dispatch.proofs.PatchesLemmas.{patch-above, patch-diagonal}
use Rattle.p3_util_kernels.proofs.LawsLemmas.Counts.{count-all, count-first, count-same, count-times}
use Rattle.p3_util_kernels.proofs.TransposeLemmas.Matrix.{row_and_column, same_number}
use Rattle.p3_util_dispatch.proofs.MirrorSteps.{mirror-stays}
use Rattle.p3_util_dispatch.proofs.PartPlaces.{InPairs, pairs-inside, pairs-same, pairs-turned, place}
use Rattle.p3_util_kernels.proofs.BitsLemmas.Pairs.{square_swaps-next}
use Rattle.p3_util_dispatch.proofs.RegionSteps.{column, in_region, row}

module _ (digits width part_len number : ℕ) (some : 0 < part_len) (middle : ℕ) (region : Region) (patch : IsPatch digits part_len number middle region) where
  -- whether place i of the patch, counted column by column, is above the diagonal
  abbrev above : ℕ → Bool
  above i = nat_lt (row region i) (column region i)

  pairs-counted : count_below (items_of region) above ≡ swaps_of_patch region
  pairs-counted =
      elim (cases_eq region.row_start region.col_start) [
        | inl same ↦
            let end = patch-diagonal digits part_len number middle region some patch same in
            let rows : ℕ = rows_of region in
            let size : items_of region ≡ rows * rows = ap (λ n. rows * n) (omega arith) in
            let swaps : swaps_of_patch region ≡ square_swaps (rows_of region) = rw (eq-eqb region.row_start region.col_start same) refl in
            let count = count-first rows rows (λ n. n) square_swaps (λ n less. (omega arith, square_swaps-next n)) in
            let test = count-same (rows * rows) above (λ i. nat_lt (i % rows) (i / rows)) (λ i less. grind (arith, nat_tests, same)) in
            rw (swaps, size) (omega (arith, count, test))
        | inr other ↦
            let before = patch-above digits part_len number middle region some patch other in
            let swaps : swaps_of_patch region ≡ items_of region = rw (ne_eqb region.row_start region.col_start other) refl in
            let test = count-same (items_of region) above (λ i. true) (λ i less. let at = in_region region i less in grind (arith, nat_tests, before, at)) in
            rw swaps (omega (arith, test, count-all (items_of region)))
      ]

  -- number q names item `q % width` of the pair of rows at place `q / width`
  abbrev upper : ℕ → ℕ
  upper q = place digits width part_len some (middle, q % width) (row region (q / width)) (column region (q / width))

  abbrev lower : ℕ → ℕ
  lower q = place digits width part_len some (middle, q % width) (column region (q / width)) (row region (q / width))

  named : (q : ℕ) → q < items_of region * width → IsTrue (above (q / width))
      → (row region (q / width) < column region (q / width)) × InPairs digits width part_len some number (middle, q % width) (row region (q / width)) (column region (q / width))
  named q less t =
      let (of_pair, of_item) = row_and_column q (items_of region) width less in
      let order : row region (q / width) < column region (q / width) = ltb-true (row region (q / width)) (column region (q / width)) t in
      let greater : max (row region (q / width)) (column region (q / width)) ≡ column region (q / width) = omega arith in
      let smaller : min (row region (q / width)) (column region (q / width)) ≡ row region (q / width) = omega arith in
      (order, (of_item, (region, patch, rw (greater, smaller) (in_region region (q / width) of_pair))))

  same-name : (p q : ℕ) → p % width ≡ q % width → row region (p / width) ≡ row region (q / width) → column region (p / width) ≡ column region (q / width) → p ≡ q
  same-name p q item same_row same_col = same_number p q width (same_number (p / width) (q / width) (rows_of region) (omega arith) (omega arith)) item

  -- the exchanges of the patch
  pub pairs-steps : {A : Type 0} (old new : List A) (steps : List (ℕ × ℕ)) → length old ≡ width * 2 ^ digits → AllDiffer old
      → after_swaps old steps ≡ new → Mirrored (place digits width part_len some) (InPairs digits width part_len some number) old new → length steps ≡ width * swaps_of_patch region
      → AreOnceAmong (λ p. ((m t x y : ℕ) × (t < width) × IsInPatch digits part_len number m x y × (p ≡ place digits width part_len some (m, t) x y)) × (slice_get old p ≢ slice_get new p)) (places_swapped steps)
  pairs-steps old new steps fits differ leads exchanged many =
      let same = pairs-same digits width part_len some number number in
      let turned = pairs-turned digits width part_len some number in
      mirror-stays (items_of region * width) (λ q. above (q / width)) upper lower
      (λ p q hp hq tp tq e. let at = same _ _ _ _ _ _ (named p hp tp).1 (named q hq tq).1 e in same-name p q at.0.1 at.1 at.2)
      (λ p q hp hq tp tq e. let at = same _ _ _ _ _ _ (turned _ _ _ (named p hp tp).1) (turned _ _ _ (named q hq tq).1) e in same-name p q at.0.1 at.2 at.1)
      (λ p q hp hq tp tq e.
      let at = same _ _ _ _ _ _ (named p hp tp).1 (turned _ _ _ (named q hq tq).1) e in
      omega (arith, at.1, at.2, (named p hp tp).0, (named q hq tq).0))
      old new (λ p. (m t x y : ℕ) × (t < width) × IsInPatch digits part_len number m x y × (p ≡ place digits width part_len some (m, t) x y)) differ
      (λ q hq tq.
      let in_pair = (named q hq tq).1 in
      let back = turned _ _ _ in_pair in (
        pairs-inside digits width part_len some (length old) number _ _ _ fits in_pair,
        pairs-inside digits width part_len some (length old) number _ _ _ fits back,
        (middle, q % width, row region (q / width), column region (q / width), in_pair.0, in_pair.1, refl),
        (middle, q % width, column region (q / width), row region (q / width), back.0, back.1, refl),
        exchanged.crossed _ _ _ in_pair,
        exchanged.crossed _ _ _ back,
      ))
      steps (omega (arith, many, count-times (items_of region) width above, ap (λ n. width * n) pairs-counted)) leads

-- The places of the parts of a call: no two parts have a place in common, and each place belongs to some part.
use Rattle.std.proofs.Common.{◌≡◌, ℕ, Bool, true, false, if◌then◌else◌, ◌+◌, ◌-◌, ◌*◌, ◌/◌, ◌%◌, ◌^◌, ◌<◌, ◌≤◌, List, ap, arith, ◌∙◌}
use Rattle.std.proofs.lemmas.Nat.{mul-add-lt, pow-add, same_from_place}
use Rattle.p3_util_kernels.specs.declared.transpose.region.Region.{Region}
use Rattle.p3_util_dispatch.specs.Patches.{IsPatch}
use Rattle.p3_util_fast.specs.Crossing.{IsRowItem, row_of}
use Rattle.p3_util_kernels.specs.Digits.{rev}
use Rattle.p3_util_fast.specs.Grid.{SwapsInGrid, grid_of_rows}
use Rattle.p3_util_fast.specs.Mirrored.{Mirrored}
use Rattle.p3_util_dispatch.specs.Parts.{part_of_matrix, parts_in}
use Rattle.p3_util_dispatch.specs.PlacesOfParts.{IsInPatch}
use Rattle.p3_util_kernels.specs.Region.{IsInRegion}
use Rattle.p3_util_dispatch.proofs.PatchesLemmas.{patch-alone, patch-same, patch-sides, patch-turned}
use Rattle.p3_util_fast.proofs.GridLemmas.Crossing.{same_item}
use Rattle.p3_util_dispatch.proofs.CutParts.{number-covered, part-same}
use Rattle.p3_util_kernels.proofs.BitsLemmas.Digits.{rev-lt}
use Rattle.p3_util_fast.proofs.GridLemmas.Rows.{place-row}
use Rattle.p3_util_kernels.proofs.ReverseLemmas.SideBySide.{in_row}

-- the parts of a matrix
module _ (width height : ℕ) (len part_len : ℕ) where
  pub part-apart : (by_rows : Bool) → len ≡ (if by_rows then height else width) → (k l x y v w : ℕ) → IsInRegion (part_of_matrix width height by_rows len part_len k) x y
      → IsInRegion (part_of_matrix width height by_rows len part_len l) v w → x * height + y ≡ v * height + w → k ≡ l
  part-apart true side k l x y v w here there e =
      let same = same_from_place x y v w height (omega (arith, here.row_to, side)) (omega (arith, there.row_to, side)) e in
      part-same len part_len k l y here.row_from here.row_to (omega (arith, there.row_from, same.1)) (omega (arith, there.row_to, same.1))
  part-apart false side k l x y v w here there e =
      let same = same_from_place x y v w height here.row_to there.row_to e in
      part-same len part_len k l x here.col_from here.col_to (omega (arith, there.col_from, same.0)) (omega (arith, there.col_to, same.0))

  pub part-covers : 0 < part_len → (by_rows : Bool) → len ≡ (if by_rows then height else width) → (x y : ℕ) → x < width → y < height
      → (k : ℕ) × (k < parts_in len part_len) × IsInRegion (part_of_matrix width height by_rows len part_len k) x y
  part-covers some true side x y hx hy =
      let at = number-covered len part_len y some (omega (arith, hy, side)) in
      (_, at.0, record { row_from = at.1; row_to = at.2; col_from = omega arith; col_to = hx })
  part-covers some false side x y hx hy =
      let at = number-covered len part_len x some (omega (arith, hx, side)) in
      (_, at.0, record { row_from = omega arith; row_to = hy; col_from = at.1; col_to = at.2 })

-- patches of pairs of rows
module _ (digits width part_len : ℕ) (some : 0 < part_len) where
  abbrev half : ℕ
  half = digits / 2

  abbrev c : ℕ
  c = digits - half

  -- the place of the item of a row with this middle part, at this place in the row
  abbrev pub place : ℕ × ℕ → ℕ → ℕ → ℕ
  place m x y = row_of half c m.0 x y * width + m.1

  abbrev pub InPairs : ℕ → ℕ × ℕ → ℕ → ℕ → Type 0
  InPairs k m x y = (m.1 < width) × IsInPatch digits part_len k m.0 x y

  within : half ≤ c
  within = omega arith

  pub pairs-item : (k : ℕ) (m : ℕ × ℕ) (x y : ℕ) → InPairs k m x y → IsRowItem half c width m.0 m.1 x y
  pairs-item k m x y h =
      let sides = patch-sides digits part_len some k m.0 x y h.1 in
      let rest : digits - digits / 2 - digits / 2 ≡ digits % 2 = omega arith in
      record { middle = rw rest sides.0; item = h.0; high = sides.1; low = sides.2 }

  pub pairs-turned : (k : ℕ) (m : ℕ × ℕ) (x y : ℕ) → InPairs k m x y → InPairs k m y x
  pairs-turned k m x y h = (h.0, patch-turned digits part_len k m.0 x y h.1)

  pub pairs-same : (k l : ℕ) (m n : ℕ × ℕ) (x y v w : ℕ) → InPairs k m x y → InPairs l n v w → place m x y ≡ place n v w
      → ((m.0 ≡ n.0) × (m.1 ≡ n.1)) × (x ≡ v) × (y ≡ w)
  pairs-same k l m n x y v w here there = same_item half c within width m n x y v w (pairs-item k m x y here) (pairs-item l n v w there)

  pub pairs-apart : (k l : ℕ) (m n : ℕ × ℕ) (x y v w : ℕ) → InPairs k m x y → InPairs l n v w → place m x y ≡ place n v w → k ≡ l
  pairs-apart k l m n x y v w here there e =
      let same = pairs-same k l m n x y v w here there e in
      patch-same digits part_len some k l m.0 x y here.1 (rw (same.0.0, same.1, same.2) there.1)

  -- the list has all places of a patch
  pub pairs-inside : (len k : ℕ) (m : ℕ × ℕ) (x y : ℕ) → len ≡ width * 2 ^ digits → InPairs k m x y → place m x y < len
  pairs-inside len k m x y fits h =
      let whole : half + c ≡ digits = omega arith in
      let own = pairs-item k m x y h in
      let row = mul-add-lt (rev half x) (2 ^ c) (m.0 * 2 ^ half + y) (2 ^ half) (rev-lt half x) (in_row c half within m.0 y own.middle own.low) in
      let below : row_of half c m.0 x y < 2 ^ (half + c) = rw (pow-add 2 half c) (omega (arith, row)) in
      rw fits (mul-add-lt (row_of half c m.0 x y) width m.1 (2 ^ digits) (rw whole at below) h.0)

  -- the exchange of a patch, stated with the middle part of its pairs
  pub pairs-exchanged : {A : Type 0} (k middle : ℕ) (region : Region) (old new : List A) → IsPatch digits part_len k middle region
      → SwapsInGrid (grid_of_rows half c width middle) region old new → Mirrored place (InPairs k) old new
  pairs-exchanged k middle region old new patch swapped =
      let rest : digits - digits / 2 - digits / 2 ≡ digits % 2 = omega arith in
      let at_row = place-row half c width middle within (rw rest patch.middle_below) in
      record {
        same_length = swapped.same_length;
        crossed = λ m x y h.
            let one = patch-alone digits part_len k middle m.0 region h.1.0 patch h.1.1 in
            let own = pairs-item k m x y h in
            rw (← one.0, ← at_row x y, ← at_row y x) (swapped.crossed m.1 x y ((own.item, own.high, own.low), rw one.1 h.1.2));
        others = λ p out.
            swapped.others p (λ t x y h e. out (middle, t) x y (h.0.0, (region, patch, h.1)) (e ∙ ap (λ n. n * width + t) (at_row x y)));
      }

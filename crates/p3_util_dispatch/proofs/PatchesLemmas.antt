-- Patches of the grids of rows: they meet the preconditions of the kernels for patches, each place of a
-- grid is in one of them, and no two of them have a place in common.
use Rattle.std.proofs.Common.{◌≡◌, ◌≢◌, ℕ, ◌+◌, ◌-◌, ◌*◌, ◌/◌, ◌%◌, ◌^◌, ◌<◌, ◌≤◌, max, min, refl, sym, ◌∙◌, inl, inr, arith}
use Rattle.std.proofs.lemmas.Bool.{cases_lt}
use Rattle.std.proofs.lemmas.Nat.{le-div, mul-add-lt, same_from_place}
use Rattle.std.proofs.Math.Nat.{div-mul-le_self, mul-le-mul, mul-le-mul_left, pow-le-pow_right}
use Rattle.p3_util_kernels.specs.declared.transpose.region.Region.{Region}
use Rattle.p3_util_dispatch.specs.Patches.{IsPatch, patches_of}
use Rattle.p3_util_dispatch.specs.PlacesOfParts.{IsInPatch}
use Rattle.p3_util_dispatch.specs.Parts.{number_of_pair, pairs_of, parts_in, start_of}
use Rattle.p3_util_dispatch.proofs.CutParts.{number-covered, pair-alone, pair-below, part-same, start-below, start-rising}

-- the number of patches fits in a usize
pub patches-few : (digits part_len : ℕ) → parts_in (2 ^ (digits / 2)) part_len < 2 ^ 32 → patches_of digits part_len < 2 ^ 64
patches-few digits part_len few =
    let n : ℕ = parts_in (2 ^ (digits / 2)) part_len in
    let grids : 2 ^ (digits % 2) ≤ 2 ^ 1 = pow-le-pow_right {n = 2} (omega arith) {i = digits % 2} {j = 1} (omega arith) in
    let all : pairs_of n * 2 ^ (digits % 2) ≤ pairs_of n * 2 ^ 1 = mul-le-mul_left (pairs_of n) grids in
    let less : n ≤ 2 ^ 32 - 1 = omega arith in
    let next : n + 1 ≤ 2 ^ 32 = omega arith in
    let square : n * (n + 1) ≤ (2 ^ 32 - 1) * 2 ^ 32 = mul-le-mul less next in
    omega (arith, all, square)

-- the number of a patch determines the patch
pub patch-alone : (digits part_len number middle middle' : ℕ) (region region' : Region) → IsPatch digits part_len number middle region
    → IsPatch digits part_len number middle' region' → (middle ≡ middle') × (region ≡ region')
patch-alone digits part_len number middle middle' region region' a b =
    let n : ℕ = parts_in (2 ^ (digits / 2)) part_len in
    let numbers = same_from_place (number_of_pair n a.row a.col) middle (number_of_pair n b.row b.col) middle' (2 ^ (digits % 2)) a.middle_below b.middle_below
    (sym a.number_is ∙ b.number_is) in
    let parts = pair-alone n a.row a.col b.row b.col a.in_order a.below b.in_order b.below numbers.0 in
    (numbers.1, a.region_is ∙ rw (parts.0, parts.1) (sym b.region_is))

-- the preconditions of the kernels for a patch
module _ (digits part_len number middle : ℕ) (region : Region) (some : 0 < part_len) (patch : IsPatch digits part_len number middle region) where
  pub patch-rows : (region.row_start < region.row_end) × (region.row_end ≤ 2 ^ (digits / 2))
  patch-rows =
      let start = start-below (2 ^ (digits / 2)) part_len some patch.row (omega (arith, patch.in_order, patch.below)) in
      rw patch.region_is (omega (arith, start), omega arith)

  pub patch-cols : (region.col_start < region.col_end) × (region.col_end ≤ 2 ^ (digits / 2))
  patch-cols =
      let start = start-below (2 ^ (digits / 2)) part_len some patch.col patch.below in
      rw patch.region_is (omega (arith, start), omega arith)

  pub patch-diagonal : region.row_start ≡ region.col_start → region.row_end ≡ region.col_end
  patch-diagonal same =
      elim (cases_lt patch.row patch.col) [
        | inl above ↦
            let before : region.row_end ≤ region.col_start = rw patch.region_is (start-rising (2 ^ (digits / 2)) part_len patch.row patch.col above) in
            absurd (omega (arith, patch-rows, same, before))
        | inr here ↦ let one : patch.row ≡ patch.col = omega (arith, patch.in_order, here) in rw (patch.region_is, one) refl
      ]

  pub patch-above : region.row_start ≢ region.col_start → region.row_end ≤ region.col_start
  patch-above other =
      elim (cases_lt patch.row patch.col) [
        | inl above ↦ rw patch.region_is (start-rising (2 ^ (digits / 2)) part_len patch.row patch.col above)
        | inr here ↦ let one : patch.row ≡ patch.col = omega (arith, patch.in_order, here) in absurd (other (rw (patch.region_is, one) refl))
      ]

module _ (digits part_len : ℕ) where
  pub patch-turned : (k m a b : ℕ) → IsInPatch digits part_len k m a b → IsInPatch digits part_len k m b a
  patch-turned k m a b (region, patch, at) =
      let greater : max b a ≡ max a b = omega arith in
      let smaller : min b a ≡ min a b = omega arith in
      (region, patch, rw (greater, smaller) at)

  module _ (some : 0 < part_len) where
    pub patch-sides : (k m a b : ℕ) → IsInPatch digits part_len k m a b → (m < 2 ^ (digits % 2)) × (a < 2 ^ (digits / 2)) × (b < 2 ^ (digits / 2))
    patch-sides k m a b (region, patch, at) =
        let cols = patch-cols digits part_len k m region some patch in
        (patch.middle_below, omega (arith, at.col_to, cols), omega (arith, at.col_to, cols))

    -- a place of a grid is in only one patch
    pub patch-same : (k l m a b : ℕ) → IsInPatch digits part_len k m a b → IsInPatch digits part_len l m a b → k ≡ l
    patch-same k l m a b (region, patch, at) (region', patch', at') =
        let here = rw patch.region_is at at in
        let there = rw patch'.region_is at at' in
        let row : patch.row ≡ patch'.row = part-same (2 ^ (digits / 2)) part_len patch.row patch'.row (min a b) here.row_from here.row_to there.row_from there.row_to in
        let col : patch.col ≡ patch'.col = part-same (2 ^ (digits / 2)) part_len patch.col patch'.col (max a b) here.col_from here.col_to there.col_from there.col_to in
        patch.number_is ∙ rw (row, col) (sym patch'.number_is)

    -- and it is in a patch
    pub patch-covered : (m a b : ℕ) → m < 2 ^ (digits % 2) → a < 2 ^ (digits / 2) → b < 2 ^ (digits / 2)
        → (k : ℕ) × (k < patches_of digits part_len) × IsInPatch digits part_len k m a b
    patch-covered m a b hm ha hb =
        let side : ℕ = 2 ^ (digits / 2) in
        let n : ℕ = parts_in side part_len in
        let row : ℕ = min a b / part_len in
        let col : ℕ = max a b / part_len in
        let rows = number-covered side part_len (min a b) some (omega arith) in
        let cols = number-covered side part_len (max a b) some (omega arith) in
        let region : Region =
        record { row_start = start_of side part_len row; row_end = start_of side part_len (row + 1); col_start = start_of side part_len col; col_end = start_of side part_len (col + 1) } in
        let in_order : row ≤ col = le-div row (max a b) part_len some (omega (arith, div-mul-le_self (min a b) part_len)) in (
          number_of_pair n row col * 2 ^ (digits % 2) + m,
          omega (arith, mul-add-lt (number_of_pair n row col) (2 ^ (digits % 2)) m (pairs_of n) (pair-below n row col in_order cols.0) hm),
          (
            region,
            record { row = row; col = col; in_order = in_order; below = cols.0; middle_below = hm; number_is = refl; region_is = refl },
            record { row_from = rows.1; row_to = rows.2; col_from = cols.1; col_to = cols.2 },
          ),
        )

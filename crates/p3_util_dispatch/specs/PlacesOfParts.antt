-- The places of the parts of a call. These definitions serve private contracts: those of `src/laws.rt`. Source: new.
use Rattle.std.specs.Prelude.{◌≡◌, ◌≢◌, ℕ, ◌+◌, ◌-◌, ◌*◌, ◌/◌, ◌<◌, min, max, List, length, slice_get}
use Rattle.p3_util_dispatch.specs.declared.parts.reversal.ReversalPlan.{ReversalPlan}
use Rattle.p3_util_dispatch.specs.declared.parts.reversal.ReversalPlan.TheVariants.{Patches, Whole}
use Rattle.p3_util_kernels.specs.declared.transpose.region.Region.{Region}
use Rattle.p3_util_dispatch.specs.Patches.{IsPatch}
use Rattle.p3_util_fast.specs.Crossing.{row_of}
use Rattle.p3_util_kernels.specs.Region.{IsInRegion}

-- no place has both properties
abbrev pub NoPlaceInCommon : (ℕ → Type 0) → (ℕ → Type 0) → Type 0
NoPlaceInCommon first second = (p : ℕ) → first p → second p → ⊥

-- no item of one list is equal to an item of the other
abbrev pub NoItemInCommon : {A : Type 0} → List A → List A → Type 0
NoItemInCommon xs ys = (i j : ℕ) → i < length xs → j < length ys → slice_get xs i ≢ slice_get ys j

-- p is the place of an item of the region in the transpose of a matrix of `height` rows
abbrev pub IsPlaceOfRegion : (region : Region) (height p : ℕ) → Type 0
IsPlaceOfRegion region height p = (x y : ℕ) × IsInRegion region x y × (p ≡ x * height + y)

-- row a and column b of the grid of `middle` lie in the patch with this number or in its mirror image
abbrev pub IsInPatch : (digits part_len number middle a b : ℕ) → Type 0
IsInPatch digits part_len number middle a b =
    (region : Region) × IsPatch digits part_len number middle region × IsInRegion region (max a b) (min a b)

-- p is a place of part `number` of the plan. The part that is the whole call has all places. A patch has the places in
-- the rows that it exchanges. A row that stays where it is counts as a pair with itself
abbrev pub IsPlaceOfPart : (plan : ReversalPlan) (number p : ℕ) → Type 0
IsPlaceOfPart (Whole items width) number p = (number ≡ 0) × (p < items)
IsPlaceOfPart (Patches pairs) number p =
    let half = pairs.rows.digits / 2 in
    (m t x y : ℕ) × (t < pairs.rows.width) × IsInPatch pairs.rows.digits pairs.cut.part_len number m x y
    × (p ≡ row_of half (pairs.rows.digits - half) m x y * pairs.rows.width + t)

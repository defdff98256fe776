-- Regions of a matrix are transposed one after another.
use Rattle.std.proofs.Common.{◌≡◌, ℕ, ◌+◌, ◌-◌, ◌*◌, ◌/◌, ◌<◌, ◌≤◌, ◌⊎◌, List, inl, inr, slice_get, refl, ◌∙◌, div-mul-le_self, mul-le-mul_right, arith}
use Rattle.std.proofs.lemmas.Nat.{same_from_place}
use Rattle.p3_util_kernels.specs.declared.transpose.region.Region.{Region}
use Rattle.p3_util_kernels.specs.Halves.{IsCut, IsPart}
use Rattle.p3_util_kernels.specs.Region.{IsInRegion, IsRegionTransposed, cols_of, rows_of}
use Rattle.p3_util_kernels.proofs.BitsLemmas.Pairs.{mul-parts_left, mul-parts_right}

-- a place in a part is in the whole
pub inside : (whole part : Region) (x y : ℕ) → IsPart whole part → IsInRegion part x y → IsInRegion whole x y
inside whole part x y p h = grind (arith, p, h)

-- the rows before `mid`, and those from `mid` on
pub IsCut-rows : (whole : Region) (mid : ℕ) → whole.row_start ≤ mid → mid ≤ whole.row_end
    → IsCut whole (record whole { row_end = mid }) (record whole { row_start = mid })
IsCut-rows whole mid from to = record {
  parts = λ x y h.
      grind (arith, h);
  apart = λ x y h k. omega (arith, h.row_to, k.row_from);
  first_inside = grind arith;
  second_inside = grind arith;
  items = mul-parts_left (mid - whole.row_start) (whole.row_end - mid) (rows_of whole) (cols_of whole) (omega arith);
}

-- the columns before `mid`, and those from `mid` on
pub IsCut-cols : (whole : Region) (mid : ℕ) → whole.col_start ≤ mid → mid ≤ whole.col_end
    → IsCut whole (record whole { col_end = mid }) (record whole { col_start = mid })
IsCut-cols whole mid from to = record {
  parts = λ x y h.
      grind (arith, h);
  apart = λ x y h k. omega (arith, h.col_to, k.col_from);
  first_inside = grind arith;
  second_inside = grind arith;
  items = mul-parts_right (mid - whole.col_start) (whole.col_end - mid) (cols_of whole) (rows_of whole) (omega arith);
}

-- each whole part of `size` numbers is among the `all` numbers that are cut, and so are all of them
pub part_inside : (part size all : ℕ) → part < all / size → part * size + size ≤ all
part_inside part size all h = omega (arith, mul-le-mul_right size (let next : part + 1 ≤ all / size = omega (arith, h) in next), div-mul-le_self all size)

-- a region without rows or without columns is put from the beginning
pub nothing_put : {A : Type 0} (region : Region) (width height : ℕ) (input xs : List A) → (region.row_end ≤ region.row_start) ⊎ (region.col_end ≤ region.col_start)
    → IsRegionTransposed region width height input xs xs
nothing_put region width height input xs none = record { same_length = refl; places = λ x y h. absurd (grind (arith, none, h)); others = λ p out. refl }

-- if a region is cut into two, putting one and then the other puts the region
pub IsRegionTransposed-cut : {A : Type 0} (width height : ℕ) (input : List A) (whole first second : Region) (old mid new : List A) → whole.row_end ≤ height
    → IsCut whole first second → IsRegionTransposed first width height input old mid → IsRegionTransposed second width height input mid new
    → IsRegionTransposed whole width height input old new
IsRegionTransposed-cut width height input whole first second old mid new low cut s t = record {
  same_length = t.same_length ∙ s.same_length;
  places = λ x y h.
      elim (cut.parts x y h) [
        | inl in_first ↦
            t.others (x * height + y) (λ a b k e.
            let below : b < height = omega (arith, k.row_to, cut.second_inside.row_to) in
            let same : (x ≡ a) × (y ≡ b) = same_from_place x y a b height (omega (arith, h.row_to)) below e in
            cut.apart x y in_first (rw (← same.0, ← same.1) at k))
            ∙ s.places x y in_first
        | inr in_second ↦ t.places x y in_second
      ];
  others = λ p out.
      t.others p (λ x y k. out x y (inside whole second x y cut.second_inside k))
      ∙ s.others p (λ x y k. out x y (inside whole first x y cut.first_inside k));
}

-- some rows of a region are put, and then the rows below them, and the same of columns
module _ {A : Type 0} (region : Region) (width height : ℕ) (input old now new : List A) (mid end : ℕ) where
  pub IsRegionTransposed-rows : region.row_start ≤ mid → mid ≤ end → end ≤ height
      → IsRegionTransposed (record region { row_end = mid }) width height input old now
      → IsRegionTransposed (record region { row_start = mid; row_end = end }) width height input now new
      → IsRegionTransposed (record region { row_end = end }) width height input old new
  IsRegionTransposed-rows from to low =
      let done = record region { row_end = end } in
      IsRegionTransposed-cut width height input done _ _ old now new low (IsCut-rows done mid from to)

  pub IsRegionTransposed-cols : region.col_start ≤ mid → mid ≤ end → region.row_end ≤ height
      → IsRegionTransposed (record region { col_end = mid }) width height input old now
      → IsRegionTransposed (record region { col_start = mid; col_end = end }) width height input now new
      → IsRegionTransposed (record region { col_end = end }) width height input old new
  IsRegionTransposed-cols from to low =
      let done = record region { col_end = end } in
      IsRegionTransposed-cut width height input done _ _ old now new low (IsCut-cols done mid from to)

-- A cell whose row or column is outside of the region stays.
pub region_stay : {A : Type 0} (region : Region) (width height : ℕ) (input old new : List A) → IsRegionTransposed region width height input old new
    → region.row_end ≤ height → (x y : ℕ) → y < height
    → ((y < region.row_start) ⊎ (region.row_end ≤ y) ⊎ (x < region.col_start) ⊎ (region.col_end ≤ x))
    → slice_get new (x * height + y) ≡ slice_get old (x * height + y)
region_stay region width height input old new put rows x y h out = put.others (x * height + y) (λ a b within e.
    let below : b < height = omega (arith, within.row_to, rows) in
    let same : (x ≡ a) × (y ≡ b) = same_from_place x y a b height h below e in
    grind (arith, same, within, out))

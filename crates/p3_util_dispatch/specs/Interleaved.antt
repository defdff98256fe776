-- Steps of several lists that are interleaved, as several threads make them. These definitions
-- serve private contracts: those of `src/laws.rt`. Source: new.
use Rattle.std.specs.Prelude.{ℕ, ◌≡◌, List, [], ◌∷◌, All, Some, length, map, slice_get, slice_set}
use Rattle.std.specs.List.{range_with_len}
use Rattle.p3_util_dispatch.specs.declared.parts.reversal.ReversalPlan.{ReversalPlan}
use Rattle.p3_util_dispatch.specs.declared.parts.transpose.TransposePlan.{TransposePlan}
use Rattle.p3_util_kernels.specs.declared.transpose.region.Region.{Region}
use Rattle.p3_util_kernels.specs.Least.{after_puts, after_swaps}
use Rattle.p3_util_dispatch.specs.Parts.{part_of_matrix}
use Rattle.p3_util_dispatch.specs.Plans.{IsPartMade}
use Rattle.p3_util_kernels.specs.Region.{IsRegionTransposed, items_of}

-- `all` is an interleaving of the lists: each step of `all` is the first remaining step of one of
-- the lists, and at the end no list has a step left.
unfoldable pub IsInterleaved : {S : Type 0} → (lists : List (List S)) (all : List S) → Type 0
IsInterleaved lists [] = All (λ steps. steps ≡ []) lists
IsInterleaved {S} lists (step ∷ all) = (k : ℕ) × (rest : List S) × (slice_get lists k ≡ Some (step ∷ rest)) × IsInterleaved (slice_set lists k rest) all

-- there is one list for each of `count` parts, and `IsOf k` holds for that of part k
abbrev pub AreOfParts : {S : Type 0} → (count : ℕ) (IsOf : ℕ → List S → Type 0) (lists : List (List S)) → Type 0
AreOfParts {S} count IsOf lists = (length lists ≡ count) × ((k : ℕ) (steps : List S) → slice_get lists k ≡ Some steps → IsOf k steps)

-- the list 0, 1, 2 and so on of n numbers, which all differ
abbrev pub numbers_below : ℕ → List ℕ
numbers_below n = range_with_len 0 n

-- the region of part k of the plan
abbrev pub region_of : (plan : TransposePlan) (k : ℕ) → Region
region_of plan k = part_of_matrix plan.width plan.height plan.by_rows plan.cut.len plan.cut.part_len k

-- The writes `steps`, made on `old` without those of any other part, put the transpose of the
-- region of part k. There is one write for each item of the region
abbrev pub IsPutAlone : {A : Type 0} → (plan : TransposePlan) (k : ℕ) (input old : List A) (steps : List (ℕ × A)) → Type 0
IsPutAlone plan k input old steps =
    (length steps ≡ items_of (region_of plan k)) × IsRegionTransposed (region_of plan k) plan.width plan.height input old (after_puts old steps)

-- Writes that put numbers, which they read from the list `numbers_below`, become writes that read another
-- list at the same places: `item i` is put in place of the number i
abbrev pub puts_of : {A : Type 0} → (item : ℕ → A) (steps : List (ℕ × ℕ)) → List (ℕ × A)
puts_of item steps = map (λ step. (step.0, item step.1)) steps

-- The exchanges `steps`, made on `old` without those of any other part, do what `IsPartMade` says
-- about part k of the plan, and there are as many as it says
abbrev pub IsMadeAlone : {A : Type 0} → (plan : ReversalPlan) (k : ℕ) (old : List A) (steps : List (ℕ × ℕ)) → Type 0
IsMadeAlone plan k old steps = IsPartMade plan k old (after_swaps old steps) (λ n. length steps ≡ n)

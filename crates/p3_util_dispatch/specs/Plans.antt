-- How a reversal is cut, and its parts. These definitions serve private contracts: those of
-- `src/parts/reversal.rt` and of `src/laws.rt`. Source: new.
use Rattle.std.specs.Prelude.{ℕ, Option, None, Some, ◌⊎◌, ◌≡◌, ◌*◌, ◌%◌, ◌^◌, ◌<◌, ◌≤◌, ◌==◌, if◌then◌else◌, max, min, List, length}
use Rattle.p3_util_dispatch.specs.declared.parts.reversal.ReversalPlan.{ReversalPlan}
use Rattle.p3_util_dispatch.specs.declared.parts.reversal.ReversalPlan.TheVariants.{Patches, Whole}
use Rattle.p3_util_dispatch.specs.Parts.{IsLeastPartLen, parts_in, start_of}
use Rattle.p3_util_dispatch.specs.Patches.{IsPatchExchanged, patches_of}
use Rattle.p3_util_kernels.specs.Reversal.{FitsRows, IsRowReversal}
use Rattle.p3_util_kernels.specs.SwapCounts.{row_swaps}

-- the number of items of each row that the plan reverses
abbrev pub width_of : (plan : ReversalPlan) → ℕ
width_of (Whole items width) = width
width_of (Patches pairs) = pairs.rows.width

-- the plan is one for a list of `len` items
abbrev pub IsReversalPlan : (len : ℕ) (plan : ReversalPlan) → Type 0
IsReversalPlan len (Whole items width) = (items ≡ len) × FitsRows len width
IsReversalPlan len (Patches pairs) = (0 < pairs.rows.width) × (len ≡ pairs.rows.width * 2 ^ pairs.rows.digits)

-- The plan has patches exactly if a number of parts is asked for and the list has items. Then each
-- side of a grid is cut into at most so many parts, where 0 counts as 1. These are no longer than
-- necessary, and begin at multiples of `unit` if a row is one item.
abbrev pub IsCutAsAsked : (len : ℕ) (asked : Option ℕ) (unit : ℕ) (plan : ReversalPlan) → Type 0
IsCutAsAsked len asked unit (Whole items width) = (len ≡ 0) ⊎ (asked ≡ None)
IsCutAsAsked len asked unit (Patches pairs) =
    let each = if pairs.rows.width == 1 then unit else 1 in
    (parts : ℕ) × (asked ≡ Some parts) × (0 < len)
    × (parts_in pairs.cut.len pairs.cut.part_len ≤ max parts 1) × IsLeastPartLen parts each pairs.cut.len pairs.cut.part_len
    × ((k : ℕ) → k < parts_in pairs.cut.len pairs.cut.part_len → start_of pairs.cut.len pairs.cut.part_len k % each ≡ 0)

-- the number of parts of a plan
abbrev pub parts_of : (plan : ReversalPlan) → ℕ
parts_of (Whole items width) = min items 1
parts_of (Patches pairs) = patches_of pairs.rows.digits pairs.cut.part_len

-- Part `number` of the plan turns `old` into `new`, and `Steps` holds for the number of its
-- exchanges. The part is the reversal itself, or exchanges the pairs of rows of a patch.
abbrev pub IsPartMade : {A : Type 0} → (plan : ReversalPlan) (number : ℕ) (old new : List A) (Steps : ℕ → Type 0) → Type 0
IsPartMade (Whole items width) number old new Steps = IsRowReversal width old new × Steps (row_swaps (length old) width)
IsPartMade (Patches pairs) number old new Steps = IsPatchExchanged pairs.rows.digits pairs.rows.width pairs.cut.part_len number old new Steps

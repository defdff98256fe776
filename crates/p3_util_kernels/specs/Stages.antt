-- The two stages of the transpose of a block of 4 by 4 items. Source: the block transposes of p3-util 0.8.0.
use Rattle.std.specs.Prelude.{ℕ, ◌≡◌, ◌+◌, ◌*◌, ◌<◌, List, Option, slice_get}
use Rattle.std.specs.Option.{option_and_then}

-- the item in row r and column c
abbrev pub item_at : {A : Type 0} → List (List A) → ℕ → ℕ → Option A
item_at rows r c = option_and_then (λ row. slice_get row c) (slice_get rows r)

-- Both lists are the rows of a block of 4 by 4 items. From `old` to `new`, the low bit of the row
-- number of each item is exchanged with the low bit of its column number
abbrev pub IsStageOne : {A : Type 0} → List (List A) → List (List A) → Type 0
IsStageOne old new =
    (P p Q q : ℕ) → P < 2 → p < 2 → Q < 2 → q < 2 → item_at new (2 * P + p) (2 * Q + q) ≡ item_at old (2 * P + q) (2 * Q + p)

-- Both lists are the rows of a block of 4 by 4 items. From `old` to `new`, the high bit of the row
-- number of each item is exchanged with the high bit of its column number
abbrev pub IsStageTwo : {A : Type 0} → List (List A) → List (List A) → Type 0
IsStageTwo old new =
    (P p Q q : ℕ) → P < 2 → p < 2 → Q < 2 → q < 2 → item_at new (2 * P + p) (2 * Q + q) ≡ item_at old (2 * Q + p) (2 * P + q)

-- Both lists are the rows of a block of 4 by 4 items, and `new` is the transpose of `old`
abbrev pub IsBlockTransposed : {A : Type 0} → List (List A) → List (List A) → Type 0
IsBlockTransposed old new = (r c : ℕ) → r < 4 → c < 4 → item_at new r c ≡ item_at old c r

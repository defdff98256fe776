-- Columns of 8 rows in registers. It serves private contracts.
use Rattle.std.specs.Prelude.{◌≡◌, ℕ, ◌+◌, ◌*◌, ◌/◌, ◌%◌, ◌<◌, ◌≤◌, ◌⊎◌, List, slice_get}
use Rattle.p3_util_fast.specs.declared.bulk.Block.{Block}
use Rattle.p3_util_kernels.specs.Stages.{item_at}

-- Four registers hold the columns of 8 rows, one column after another. The rows have `side` items each,
-- the first row begins at place `from`, and two rows are `width` places apart
abbrev pub AreLines : {A : Type 0} → ℕ → ℕ → ℕ → List A → List (List A) → Type 0
AreLines side from width list four = (c r : ℕ) → c < side → r < 8 → item_at four ((8 * c + r) / (2 * side)) ((8 * c + r) % (2 * side)) ≡ slice_get list (from + r * width + c)

-- A holder may read, of each row of a block, the run of `side` items from its first column on, which may
-- end after the block, and every run of `side` items that is within the block
abbrev pub ColumnsReached : ℕ → Block → (ℕ → Type 0) → Type 0
ColumnsReached side block may = (r c : ℕ) → r < block.rows → (c ≡ 0) ⊎ (c + side ≤ block.cols) → may (block.from + r * block.width + c)

-- A holder may put each column of a block as four runs of `side` cells, one after another
abbrev pub LinesReached : ℕ → Block → (ℕ → Type 0) → Type 0
LinesReached side block may = (c k : ℕ) → c < block.cols → k < 4 → may (block.to + c * block.height + k * side)

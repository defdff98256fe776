-- A block of a matrix, put where its transpose belongs. Source: new.
use Rattle.std.specs.Prelude.{ℕ, ◌≡◌, ◌≢◌, ◌+◌, ◌*◌, ◌<◌, ◌≤◌, List, IfSome, take, drop, length, slice_get}
use Rattle.std.specs.Borrow.{Bor}
use Rattle.p3_util_fast.specs.declared.bulk.Block.{Block}

-- the number of items of the block
abbrev pub block_items : Block → ℕ
block_items block = block.rows * block.cols

-- A source of `input_len` items has all items of the block, and a list of `output_len` cells has all
-- cells of the block's transpose. The columns of the block do not overlap in the cells.
pub record BlockFits (block : Block) (input_len output_len : ℕ) : Type 0 where
  pub inside : (r c : ℕ) → r < block.rows → c < block.cols → block.from + r * block.width + c < input_len
  pub room : (r c : ℕ) → r < block.rows → c < block.cols → block.to + c * block.height + r < output_len
  pub apart : block.rows ≤ block.height

-- The first n items of the block, counted column after column, are put: the item in row r and column c of the block is
-- at cell `to + c * height + r` of `new`. Every other cell holds what it held before.
pub record IsBlockPut {A : Type 0} (n : ℕ) (block : Block) (input old new : List A) : Type 0 where
  pub same_length : length new ≡ length old
  pub places : (r c : ℕ) → r < block.rows → block.rows * c + r < n → slice_get new (block.to + c * block.height + r) ≡ slice_get input (block.from + r * block.width + c)
  pub others : (p : ℕ) → ((r c : ℕ) → r < block.rows → block.rows * c + r < n → p ≢ block.to + c * block.height + r) → slice_get new p ≡ slice_get old p

-- The first n lists are the first rows of the block.
abbrev pub AreRows : {A : Type 0} → Block → ℕ → List A → List (Bor (List A)) → Type 0
AreRows block n input rows = (r : ℕ) → r < n → IfSome (slice_get rows r) (λ row. row.now ≡ take block.cols (drop (block.from + r * block.width) input))

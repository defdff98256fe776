-- Rows of items in registers, and squares of rows that are transposed by interleaving registers. Source: new.
use Rattle.std.specs.Prelude.{ℕ, ◌≡◌, ◌≢◌, ◌+◌, ◌-◌, ◌*◌, ◌/◌, ◌%◌, ◌<◌, ◌≤◌, ◌⊎◌, List, [], ◌∷◌, length, slice_get, slice_index}
use Rattle.p3_util_kernels.specs.Stages.{item_at}
use Rattle.p3_util_fast.specs.declared.bulk.Block.{Block}
use Rattle.p3_util_fast.specs.declared.registers.Four.{Four}

-- The first items of c are, in turn, n items of `a` from place i on and n items of `b` from place j on
pub record AreInterleaved {A : Type 0} (n i j : ℕ) (a b c : List A) : Type 0 where
  pub first : (t : ℕ) → t < n → slice_get c (2 * t) ≡ slice_get a (i + t)
  pub second : (t : ℕ) → t < n → slice_get c (2 * t + 1) ≡ slice_get b (j + t)

-- the items of each of four registers
abbrev pub items_of_four : {A D : Type 0} → (D → List A) → Four D → List (List A)
items_of_four items four = items four.a ∷ items four.b ∷ items four.c ∷ items four.d ∷ []

-- the number of rows of a square that is transposed in registers
abbrev pub IsSide : ℕ → Type 0
IsSide n = (n ≡ 2) ⊎ ((n ≡ 4) ⊎ (n ≡ 8))

-- A holder may touch each of the first n runs, which begin at these places
abbrev pub AreReached : ℕ → List ℕ → (ℕ → Type 0) → Type 0
AreReached n places may = (j : ℕ) → j < n → may (slice_index places j)

-- A holder may touch each run of `side` items in n rows of n items. Row r begins at place `row r`
abbrev pub RowsReached : ℕ → ℕ → (ℕ → ℕ) → (ℕ → Type 0) → Type 0
RowsReached n side row may = (r c : ℕ) → r < n → c + side ≤ n → may (row r + c)

-- no two of the first n runs overlap
abbrev pub AreDisjoint : ℕ → ℕ → List ℕ → Type 0
AreDisjoint n side to = (a b : ℕ) → a < b → b < n → (slice_index to a + side ≤ slice_index to b) ⊎ (slice_index to b + side ≤ slice_index to a)

-- Each of four registers has two of the runs of a list, interleaved
abbrev pub AreLoaded : {A : Type 0} → ℕ → List ℕ → List A → List (List A) → Type 0
AreLoaded side from list four = (i t e : ℕ) → i < 4 → t < side → e < 2 → item_at four i (2 * t + e) ≡ slice_get list (slice_index from (i + 4 * e) + t)

-- four registers after their items were interleaved
abbrev pub IsNextStage : {A : Type 0} → ℕ → List (List A) → List (List A) → Type 0
IsNextStage side old new = (i h t e : ℕ) → i < 2 → h < 2 → t < side → e < 2 → item_at new (2 * i + h) (2 * t + e) ≡ item_at old (i + 2 * e) (side * h + t)

-- The 8 runs are the rows of squares of `side` rows, one square after another. Each of four
-- registers has two columns of these squares
abbrev pub AreColumns : {A : Type 0} → ℕ → List ℕ → List A → List (List A) → Type 0
AreColumns side places list four = (c r : ℕ) → c < 8 → r < side → item_at four (c / 2) (side * (c % 2) + r) ≡ slice_get list (slice_index places (c - c % side + r) + c % side)

-- Two runs of a list, from places i and j on, hold the items of a register. All other items stay where they are
pub record IsStored {A : Type 0} (side i j : ℕ) (items old new : List A) : Type 0 where
  pub same_length : length new ≡ length old
  pub first : (t : ℕ) → t < side → slice_get new (i + t) ≡ slice_get items t
  pub second : (t : ℕ) → t < side → slice_get new (j + t) ≡ slice_get items (side + t)
  pub others : (p : ℕ) → (p < i) ⊎ (i + side ≤ p) → (p < j) ⊎ (j + side ≤ p) → slice_get new p ≡ slice_get old p

-- The first n of 8 runs of a list hold the items of four registers, two runs of each. All other
-- items stay where they are
pub record AreStored {A : Type 0} (n side : ℕ) (to : List ℕ) (four : List (List A)) (old new : List A) : Type 0 where
  pub same_length : length new ≡ length old
  pub rows : (c t : ℕ) → c < n → t < side → slice_get new (slice_index to c + t) ≡ item_at four (c / 2) (side * (c % 2) + t)
  pub others : (p : ℕ) → ((c : ℕ) → c < n → (p < slice_index to c) ⊎ (slice_index to c + side ≤ p)) → slice_get new p ≡ slice_get old p

-- A run of a list, from place i on, holds the items of a register. All other items stay where they are
pub record IsRunStored {A : Type 0} (count i : ℕ) (items old new : List A) : Type 0 where
  pub same_length : length new ≡ length old
  pub run : (t : ℕ) → t < count → slice_get new (i + t) ≡ slice_get items t
  pub others : (p : ℕ) → (p < i) ⊎ (i + count ≤ p) → slice_get new p ≡ slice_get old p

-- Some items of the tile at `x` are exchanged with their mirror images in the tile at `y`: row r and column c of one
-- tile with row c and column r of the other. All other items stay where they are.
pub record ItemsExchanged {A : Type 0} (some : ℕ → ℕ → Type 0) (x y : List ℕ) (old new : List A) : Type 0 where
  pub same_length : length new ≡ length old
  pub first : (r c : ℕ) → r < 8 → c < 8 → some r c → slice_get new (slice_index x r + c) ≡ slice_get old (slice_index y c + r)
  pub second : (r c : ℕ) → r < 8 → c < 8 → some r c → slice_get new (slice_index y c + r) ≡ slice_get old (slice_index x r + c)
  pub others : (p : ℕ) → ((r c : ℕ) → r < 8 → c < 8 → some r c → (p ≢ slice_index x r + c) × (p ≢ slice_index y c + r)) → slice_get new p ≡ slice_get old p

-- The items in the rows of the tile at `x` from row `from` on and before row `to` are exchanged with
-- their mirror images in the tile at `y`. All other items stay where they are
abbrev pub RowsExchanged : {A : Type 0} → ℕ → ℕ → List ℕ → List ℕ → List A → List A → Type 0
RowsExchanged from to = ItemsExchanged (λ r c. (from ≤ r) × (r < to))

-- A tile consists of squares of `side` rows. This is the first row of the square of row r and column
-- c, and its first column, added modulo 8
abbrev pub sum_of : ℕ → ℕ → ℕ → ℕ
sum_of side r c = (r - r % side + (c - c % side)) % 8

-- The squares of the tile at `x` with a sum from `from` on and less than `to` are transposed, each
-- into the place of its mirror image. All other items stay where they are
abbrev pub SquaresTurned : {A : Type 0} → ℕ → ℕ → ℕ → List ℕ → List A → List A → Type 0
SquaresTurned from to side x = ItemsExchanged (λ r c. (r ≤ c) × ((from ≤ sum_of side r c) × (sum_of side r c < to))) x x

-- The columns of a block from column `from` on and before column `to` are put where the transpose of
-- the block has them. Every other cell holds what it held before
pub record ColumnsPut {A : Type 0} (from to : ℕ) (block : Block) (input old new : List A) : Type 0 where
  pub same_length : length new ≡ length old
  pub places : (r c : ℕ) → r < block.rows → from ≤ c → c < to → slice_get new (block.to + c * block.height + r) ≡ slice_get input (block.from + r * block.width + c)
  pub others : (p : ℕ) → ((r c : ℕ) → r < block.rows → from ≤ c → c < to → p ≢ block.to + c * block.height + r) → slice_get new p ≡ slice_get old p

-- The item in row r and column c is one of the first n items, counted diagonal after diagonal, of a square of 4 by 4 items of a
-- tile that begins in row `row` and column `col`. Diagonal d has the items of rows 0 to 3 in columns d, d + 1, d + 2 and d + 3
-- modulo 4
abbrev pub IsSquareOf : (row col n : ℕ) → ℕ → ℕ → Type 0
IsSquareOf row col n r c = (row ≤ r) × ((col ≤ c) × ((c < col + 4) × ((r < row + 4) × (4 * ((c - col + 4 - (r - row)) % 4) + (r - row) < n))))

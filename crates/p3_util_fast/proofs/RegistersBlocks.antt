-- Blocks whose columns are put by squares.
use Rattle.std.proofs.Common.{◌≡◌, ◌≢◌, ℕ, ◌+◌, ◌-◌, ◌*◌, ◌%◌, ◌<◌, ◌≤◌, ◌⊎◌, List, slice_index, replicate, inl, inr, ◌∙◌, arith}
use Rattle.std.proofs.Math.Nat.{lt_of_mul-lt-mul_left, mul-le-mul_right}
use Rattle.std.proofs.lemmas.Bool.{cases_lt}
use Rattle.std.proofs.lemmas.List.{get_or-replicate}
use Rattle.p3_util_fast.specs.declared.bulk.Block.{Block}
use Rattle.p3_util_fast.specs.BlockPut.{BlockFits, IsBlockPut}
use Rattle.p3_util_fast.specs.Registers.{AreDisjoint, AreColumns, AreStored, ColumnsPut, IsSide}
use Rattle.p3_util_fast.proofs.BulkLemmas.Blocks.{in_block}
use Rattle.p3_util_fast.proofs.RegistersTiles.{AreDisjoint-rows, SquaresMoved-rows}

-- what is in one column is before the next one
column_before : (a b height : ℕ) → a < b → a * height + height ≤ b * height
column_before a b height h = omega (arith, mul-le-mul_right {m = a + 1} {n = b} height (omega arith))

module _ (side : ℕ) (block : Block) (col input_len len : ℕ) (is : IsSide side) (known : (block.rows ≡ 4) ⊎ (block.rows ≡ 8))
    (below : col + side ≤ block.rows) (square : block.cols ≡ block.rows) (fits : BlockFits block input_len len) (rows cols : List ℕ)
    (at_rows : (c : ℕ) → c < 8 → slice_index rows c ≡ block.from + c % block.rows * block.width)
    (at_cols : (c : ℕ) → c < 8 → slice_index cols c ≡ block.to + c % block.rows * block.height) where
  in_all : (c : ℕ) → c < block.rows → c < 8
  in_all c h = grind (arith, known)

  at_col : (c : ℕ) → c < block.rows → slice_index cols c ≡ block.to + c * block.height
  at_col c h = let same : c % block.rows ≡ c = grind (arith, known) in rw same at (at_cols c (in_all c h))

  apart : (a b : ℕ) → a < b → b < block.rows → (slice_index cols a + block.rows ≤ slice_index cols b) ⊎ (slice_index cols b + block.rows ≤ slice_index cols a)
  apart a b h k = inl (omega (arith, at_col a (omega arith), at_col b k, fits.apart, column_before a b block.height h))

  is_top : (c : ℕ) → c < block.rows → slice_index (replicate 8 col) c ≡ col
  is_top c h = get_or-replicate 8 c col 0 (in_all c h)

  module _ (to : List ℕ) (at : (c : ℕ) → c < 8 → slice_index to c ≡ slice_index cols (slice_index (replicate 8 col) c + c % side) + (c - c % side)) where
    at_row : (c : ℕ) → c < block.rows → slice_index to c ≡ slice_index cols (slice_index (replicate 8 col) c + c % side) + (c - c % side)
    at_row c h = at c (in_all c h)

    pub AreDisjoint-block_to : AreDisjoint block.rows side to
    AreDisjoint-block_to = AreDisjoint-rows block.rows side known is (omega arith) (λ s. col) cols (replicate 8 col) to (λ c h. below) is_top at_row apart

    pub ColumnsPut-step : {A : Type 0} (from : List ℕ) (columns : List (List A)) (input old new : List A) → ((c : ℕ) → c < 8 → slice_index from c ≡ slice_index rows c + slice_index (replicate 8 col) c)
        → AreColumns side from input columns → AreStored block.rows side to columns old new → ColumnsPut col (col + side) block input old new
    ColumnsPut-step from columns input old new at_from of stored =
        let moved = SquaresMoved-rows block.rows side known is (omega arith) (λ s. col) cols (replicate 8 col) to (λ c h. below) is_top at_row rows from columns input old new (λ c h. at_from c (in_all c h)) of stored in
        let from_is : (r : ℕ) → r < block.rows → slice_index rows r ≡ block.from + r * block.width = λ r h. let same : r % block.rows ≡ r = grind (arith, known) in rw same at (at_rows r (in_all r h)) in
        record {
          same_length = moved.same_length;
          places = λ r c hr h k. rw (at_col c (omega arith), from_is r hr) at (moved.places c r hr h k);
          others = λ p out. moved.others p (λ c r hr h k. rw (at_col c (omega arith)) (out r c hr h k));
        }

module _ (block : Block) (input_len len : ℕ) (fits : BlockFits block input_len len) where
  -- a cell belongs to only one column
  one_column : (r c v w : ℕ) → r < block.rows → v < block.rows → c ≢ w → block.to + c * block.height + r ≢ block.to + w * block.height + v
  one_column r c v w hr hv other e = grind (arith, fits.apart, column_before c w block.height, column_before w c block.height)

  -- some columns are put, and then those that follow them
  pub ColumnsPut-joined : {A : Type 0} (a b d : ℕ) (input old mid new : List A) → a ≤ b → b ≤ d → ColumnsPut a b block input old mid → ColumnsPut b d block input mid new → ColumnsPut a d block input old new
  ColumnsPut-joined a b d input old mid new up more one two = record {
    same_length = two.same_length ∙ one.same_length;
    places = λ r c hr h k.
        elim (cases_lt c b) [ inl early ↦ two.others _ (λ v w hv i j e. one_column r c v w hr hv (omega arith) e) ∙ one.places r c hr h early | inr late ↦ two.places r c hr late k ];
    others = λ p out. two.others p (λ r c hr h k. out r c hr (omega arith) k) ∙ one.others p (λ r c hr h k. out r c hr h (omega arith));
  }

-- all columns are put
pub IsBlockPut-whole : {A : Type 0} (block : Block) (end : ℕ) (input old new : List A) → block.cols ≡ end → ColumnsPut 0 end block input old new → IsBlockPut (block.rows * block.cols) block input old new
IsBlockPut-whole block end input old new is all = record {
  same_length = all.same_length;
  places = λ r c hr h. all.places r c hr (omega arith) (rw (← is) (lt_of_mul-lt-mul_left block.rows (let column : block.rows * c < block.rows * block.cols = omega (arith, h) in column)));
  others = λ p out. all.others p (λ r c hr h k. out r c hr (in_block block.rows block.cols r c hr (omega (arith, k, is))));
}

-- a run that is within a row of the block is within the source
pub run_inside : (block : Block) (len side r c : ℕ) → ((r c : ℕ) → r < block.rows → c < block.cols → block.from + r * block.width + c < len)
    → 0 < side → r < block.rows → c + side ≤ block.cols → block.from + r * block.width + c + side ≤ len
run_inside block len side r c inside some hr hc = omega (arith, some, inside r (c + side - 1) hr (omega (arith, some, hc)))

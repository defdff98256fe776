-- A block is put item by item, and what it leaves is the transpose of a region.
use Rattle.std.proofs.Common.{◌≡◌, ℕ, ◌+◌, ◌-◌, ◌*◌, ◌<◌, ◌≤◌, ◌++◌, List, Some, Bor, IfSome, length, slice_get, slice_set, take, drop, length-drop, refl, sym, ap, ◌∙◌, inl, inr, length-take, length-set, arith}
use Rattle.std.proofs.Math.Nat.{lt_of_mul-lt-mul_left, mul-le-mul_left}
use Rattle.std.proofs.lemmas.Bool.{cases_eq, cases_lt}
use Rattle.std.proofs.lemmas.Nat.{mul-add-lt, same_from_place}
use Rattle.std.proofs.lemmas.Option.{IfSome_then, slice_get_cases}
use Rattle.p3_util_fast.specs.declared.bulk.Block.{Block}
use Rattle.p3_util_kernels.specs.declared.transpose.region.Region.{Region}
use Rattle.p3_util_fast.specs.BlockPut.{AreRows, BlockFits, IsBlockPut, block_items}
use Rattle.p3_util_kernels.specs.Region.{IsReady, IsRegionTransposed, cols_of, rows_of}
use Rattle.p3_util_kernels.proofs.PlacesLemmas.ListParts.{length-spliced, slice_get-beside, slice_get-drop, slice_get-spliced, slice_get-take}
use Rattle.p3_util_kernels.proofs.PlacesLemmas.Exchange.{slice_get-set_other, slice_get-set_same}

mul-le_next : (k c n : ℕ) → c < n → k * c + k ≤ k * n
mul-le_next k c n h = omega (arith, mul-le-mul_left k (let next : c + 1 ≤ n = omega (arith, h) in next))

-- the rows of a block, as lists
module _ {A : Type 0} (block : Block) (input : List A) (rows : List (Bor (List A))) where
  -- one more list is a row
  pub AreRows-more : (n : ℕ) (row : Bor (List A)) → n < length rows → row.now ≡ take block.cols (drop (block.from + n * block.width) input)
      → AreRows block n input rows → AreRows block (n + 1) input (slice_set rows n row)
  AreRows-more n row room same before r h = elim (cases_lt r n) [
    | inl earlier ↦ rw (slice_get-set_other rows n r row (λ e. omega (arith, e, earlier))) (before r earlier)
    | inr later ↦ let at : r ≡ n = omega (arith, h, later) in rw (at, slice_get-set_same rows n row room) same
  ]

  module _ (n : ℕ) (are : AreRows block n input rows) (r col : ℕ) (h : r < n) (hc : col < block.cols) where
    -- a row has an item in each column
    pub row-long : block.from + r * block.width + block.cols ≤ length input → IfSome (slice_get rows r) (λ row. col < length row.now)
    row-long room = let start = block.from + r * block.width in
        IfSome_then (slice_get rows r) (are r h) (λ row same. omega (arith, ap length same, length-take block.cols (drop start input), length-drop start input))

    -- what is put of a row is the item of the block
    pub row-item : (column : List A) → r < length rows → IfSome (slice_get rows r) (λ row. slice_get column r ≡ slice_get row.now col)
        → slice_get column r ≡ slice_get input (block.from + r * block.width + col)
    row-item column room put = let start = block.from + r * block.width in
        elim (slice_get_cases rows r).1 [
          | inl found ↦
              let same : found.0.now ≡ take block.cols (drop start input) = rw found.2 at (are r h) in
              let item : slice_get column r ≡ slice_get found.0.now col = rw found.2 at put in
              item ∙ ap (λ xs. slice_get xs col) same ∙ slice_get-take block.cols (drop start input) col hc ∙ slice_get-drop start input col (start + col) (omega arith)
          | inr past ↦ absurd (omega (arith, past.0, room))
        ]

module _ (block : Block) (input_len output_len : ℕ) (fits : BlockFits block input_len output_len) where
  -- the cell of the item in row r and column c, and the index of this item
  abbrev cell : (r c : ℕ) → ℕ
  cell r c = block.to + c * block.height + r

  abbrev index : (r c : ℕ) → ℕ
  index r c = block.from + r * block.width + c

  -- a cell belongs to only one item of the block
  cell-alone : (r c s d : ℕ) → r < block.rows → s < block.rows → cell r c ≡ cell s d → (r ≡ s) × (c ≡ d)
  cell-alone r c s d hr hs e =
      let same = same_from_place c r d s block.height (omega (arith, fits.apart)) (omega (arith, fits.apart)) (omega (arith, e)) in
      (same.1, same.0)

  -- one more item is put
  pub IsBlockPut-more : {A : Type 0} (r c : ℕ) (v : A) (input old now next : List A) → output_len ≡ length old → r < block.rows → c < block.cols
      → IsBlockPut (block.rows * c + r) block input old now → slice_get input (index r c) ≡ Some v → next ≡ slice_set now (cell r c) v
      → IsBlockPut (block.rows * c + (r + 1)) block input old next
  IsBlockPut-more r c v input old now next all hr hc before read step =
      let room : cell r c < length now = omega (arith, before.same_length, fits.room r c hr hc) in
      let number : (s d : ℕ) → s < block.rows → block.rows * d + s ≡ block.rows * c + r → (d ≡ c) × (s ≡ r) =
      λ s d hs e. same_from_place d s c r block.rows hs hr (omega (arith, e)) in
      record {
        same_length = ap length step ∙ length-set now _ _ ∙ before.same_length;
        places = λ s d hs h.
            elim (cases_eq (block.rows * d + s) (block.rows * c + r)) [
              | inl same ↦ let at = number s d hs same in rw (at.0, at.1, step) (slice_get-set_same now _ v room ∙ sym read)
              | inr other ↦
                  rw step
                  (slice_get-set_other now (cell r c) (cell s d) v (λ e. let at = cell-alone s d r c hs hr e in other (rw (at.0, at.1) refl))
                  ∙ before.places s d hs (omega arith))
            ];
        others = λ p out. rw step (slice_get-set_other now (cell r c) p v (out r c hr (omega arith)) ∙ before.others p (λ s d hs h. out s d hs (omega arith)));
      }

  -- one more column is put, as the run of `n` cells from `at` on
  pub IsBlockPut-column : {A : Type 0} (at n col : ℕ) (input old now column : List A) → output_len ≡ length old → 0 < n → n ≡ block.rows → col < block.cols
      → at ≡ block.to + col * block.height → IsBlockPut (block.rows * col) block input old now → length column ≡ n → ((r : ℕ) → r < block.rows → slice_get column r ≡ slice_get input (index r col))
      → IsBlockPut (block.rows * (col + 1)) block input old (take at now ++ (column ++ drop n (drop at now)))
  IsBlockPut-column at n col input old now column all some rows hc begin before len filled =
      let room : at + n ≤ length now = omega (arith, before.same_length, fits.room (n - 1) col (omega arith) hc) in
      let left : (c : ℕ) → c < col → block.rows * c + block.rows ≤ block.rows * col = λ c h. omega (arith, mul-le_next block.rows c col h) in
      record {
        same_length = length-spliced at n now column len room ∙ before.same_length;
        places = λ r c hr h.
            elim (cases_lt c col) [
              | inl earlier ↦
                  let below : cell r c < at = omega (arith, hr, fits.apart, mul-le_next block.height c col earlier) in
                  slice_get-beside at n now column (cell r c) len room (inl below) ∙ before.places r c hr (omega (arith, left c earlier))
              | inr later ↦
                  let same : c ≡ col = omega (arith, lt_of_mul-lt-mul_left block.rows (let less : block.rows * c < block.rows * (col + 1) = omega (arith, h) in less)) in
                  rw same
                  (slice_get-spliced at n now column (cell r col) r len room (omega arith) (omega arith) ∙ filled r hr)
            ];
        others = λ p out.
            slice_get-beside at n now column p len room
            (elim (cases_lt p at) [
              | inl below ↦ inl below
              | inr above ↦ elim (cases_lt p (at + n)) [
                | inl inside ↦ absurd (out (p - at) col (omega arith) (omega arith) (omega arith))
                | inr after ↦ inr after
              ]
            ])
            ∙ before.others p (λ r c hr h. out r c hr (omega (arith, h)));
      }

-- the last item of a block is at the end of its column
pub in_block : (rows cols r c : ℕ) → r < rows → c < cols → rows * c + r < rows * cols
in_block rows cols r c hr hc = omega (arith, mul-add-lt c rows r cols hc hr)

-- a block that is a region of a matrix
module _ {A : Type 0} (region : Region) (width height : ℕ) (input : List A) where
  abbrev pub block_of : Block
  block_of = record { rows = rows_of region; cols = cols_of region; from = region.row_start * width + region.col_start; width = width; to = region.col_start * height + region.row_start; height = height }

  pub BlockFits-region : (old : List A) → IsReady region width height input old → BlockFits block_of (length input) (length old)
  BlockFits-region old h = record {
    inside = λ r c hr hc.
        omega (arith, h.input_fits, mul-add-lt (region.row_start + r) width (region.col_start + c) height (omega (arith, h.inside.rows_inside)) (omega (arith, h.inside.cols_inside)));
    room = λ r c hr hc.
        omega (arith, h.output_fits, mul-add-lt (region.col_start + c) height (region.row_start + r) width (omega (arith, h.inside.cols_inside)) (omega (arith, h.inside.rows_inside)));
    apart = omega (arith, h.inside.rows_inside);
  }

  pub IsRegionTransposed-block : (old new : List A) → IsBlockPut (block_items block_of) block_of input old new → IsRegionTransposed region width height input old new
  IsRegionTransposed-block old new put = record {
    same_length = put.same_length;
    places = λ x y h.
        let r : ℕ = y - region.row_start in
        let c : ℕ = x - region.col_start in
        let row : region.row_start + r ≡ y = omega (arith, h.row_from) in
        let col : region.col_start + c ≡ x = omega (arith, h.col_from) in
        let hr : r < rows_of region = omega (arith, h.row_from, h.row_to) in
        let there : region.col_start * height + region.row_start + c * height + r ≡ x * height + y = omega (arith, row, ap (λ n. n * height) col) in
        let here : region.row_start * width + region.col_start + r * width + c ≡ y * width + x = omega (arith, col, ap (λ n. n * width) row) in
        rw (there, here) at (put.places r c hr (in_block (rows_of region) (cols_of region) r c hr (omega (arith, h.col_from, h.col_to))));
    others = λ p out.
        put.others p (λ r c hr h e.
        out (region.col_start + c) (region.row_start + r)
        (record { row_from = omega arith; row_to = omega (arith, hr); col_from = omega arith; col_to = omega (arith, lt_of_mul-lt-mul_left (rows_of region) (let column : rows_of region * c < rows_of region * cols_of region = omega (arith, h) in column)) })
        (e ∙ omega arith));
  }

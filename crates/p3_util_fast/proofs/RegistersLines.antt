-- Blocks whose columns are put one after another.
use Rattle.std.proofs.Common.{◌≡◌, ℕ, ◌+◌, ◌-◌, ◌*◌, ◌/◌, ◌%◌, ◌<◌, ◌⊎◌, List, ◌++◌, length, slice_get, slice_index, inl, inr, refl, sym, ◌∙◌, arith}
use Rattle.p3_util_kernels.specs.Stages.{item_at}
use Rattle.p3_util_fast.specs.declared.bulk.Block.{Block}
use Rattle.p3_util_fast.specs.RegisterLines.{AreLines}
use Rattle.p3_util_fast.specs.Registers.{AreInterleaved, AreLoaded, ColumnsPut, IsNextStage, IsRunStored, IsStored}
use Rattle.p3_util_kernels.proofs.PlacesLemmas.ListParts.{slice_get-append_left, slice_get-append_right}
use Rattle.p3_util_fast.proofs.GridLemmas.Crossing.{outside}

module _ {A : Type 0} (from width : ℕ) (rows : List ℕ) (list : List A) (a b d : List (List A)) (at : (r : ℕ) → r < 8 → slice_index rows r ≡ from + r * width) where
  two : AreLoaded 2 rows list a → IsNextStage 2 a b → IsNextStage 2 b d → AreLines 2 from width list d
  two one mid last c r hc hr =
      let x : (8 * c + r) / (2 * 2) ≡ 2 * c + r / 4 = omega arith in
      let y : (8 * c + r) % (2 * 2) ≡ 2 * (r / 2 % 2) + r % 2 = omega arith in
      let i : 2 * (r % 2) + c ≡ c + 2 * (r % 2) = omega arith in
      let row : r % 2 + 2 * (r / 2 % 2) + 4 * (r / 4) ≡ r = omega arith in
      rw (x, y)
      (last c (r / 4) (r / 2 % 2) (r % 2) (omega arith) (omega arith) (omega arith) (omega arith)
      ∙ rw i at (mid (r % 2) c (r / 4) (r / 2 % 2) (omega arith) (omega arith) (omega arith) (omega arith))
      ∙ rw (row, at r hr) at (one (r % 2 + 2 * (r / 2 % 2)) c (r / 4) (omega arith) (omega arith) (omega arith)))

  four : AreLoaded 4 rows list a → IsNextStage 4 a b → IsNextStage 4 b d → AreLines 4 from width list d
  four one mid last c r hc hr =
      let x : (8 * c + r) / (2 * 4) ≡ 2 * (c / 2) + c % 2 = omega arith in
      let y : (8 * c + r) % (2 * 4) ≡ 2 * (r / 2) + r % 2 = omega arith in
      let i : 2 * (r % 2) + c / 2 ≡ c / 2 + 2 * (r % 2) = omega arith in
      let t : 2 * (2 * (c % 2) + r / 4) + r / 2 % 2 ≡ 4 * (c % 2) + r / 2 = omega arith in
      let u : 2 * c + r / 4 ≡ 4 * (c / 2) + (2 * (c % 2) + r / 4) = omega arith in
      let row : r % 2 + 2 * (r / 2 % 2) + 4 * (r / 4) ≡ r = omega arith in
      rw (x, y)
      (last (c / 2) (c % 2) (r / 2) (r % 2) (omega arith) (omega arith) (omega arith) (omega arith)
      ∙ rw (i, t) at (mid (r % 2) (c / 2) (2 * (c % 2) + r / 4) (r / 2 % 2) (omega arith) (omega arith) (omega arith) (omega arith))
      ∙ rw (u, row, at r hr) at (one (r % 2 + 2 * (r / 2 % 2)) c (r / 4) (omega arith) (omega arith) (omega arith)))

  -- three stages make columns of 8 rows
  pub AreLines-stages : (side : ℕ) → (side ≡ 2) ⊎ (side ≡ 4) → AreLoaded side rows list a → IsNextStage side a b → IsNextStage side b d → AreLines side from width list d
  AreLines-stages side (inl is) one mid last = rw is (two (rw is at one) (rw is at mid) (rw is at last))
  AreLines-stages side (inr is) one mid last = rw is (four (rw is at one) (rw is at mid) (rw is at last))

-- two registers are stored, one after the other
pub IsRunStored-two : {A : Type 0} (side to : ℕ) (a b old mid new : List A) → length a ≡ 2 * side → IsStored side to (to + side) a old mid
    → IsStored side (to + 2 * side) (to + 3 * side) b mid new → IsRunStored (4 * side) to (a ++ b) old new
IsRunStored-two side to a b old mid new full one two = record {
  same_length = two.same_length ∙ one.same_length;
  run = λ t h.
      grind (arith, slice_get-append_left a b t, slice_get-append_right a b t (t - 2 * side), two.others (to + t), one.first t, one.second (t - side), two.first (t - 2 * side), two.second (t - 3 * side));
  others = λ p out. grind (arith, out, two.others p, one.others p);
}

-- a column in two registers
pub column_of_two : {A : Type 0} (n base width : ℕ) (input a b : List A) → length a ≡ n → ((r : ℕ) → r < n → slice_get a r ≡ slice_get input (base + r * width))
    → ((r : ℕ) → r < n → slice_get b r ≡ slice_get input (base + (n + r) * width)) → (r : ℕ) → r < 2 * n → slice_get (a ++ b) r ≡ slice_get input (base + r * width)
column_of_two n base width input a b full of_a of_b r h = grind (arith, slice_get-append_left a b r, slice_get-append_right a b r (r - n), of_a r, of_b (r - n))

-- a column of a block is stored
pub ColumnsPut-line : {A : Type 0} (block : Block) (n to base col : ℕ) (input items old new : List A) → n ≡ block.rows → to ≡ block.to + col * block.height → base ≡ block.from + col
    → IsRunStored n to items old new → ((r : ℕ) → r < n → slice_get items r ≡ slice_get input (base + r * block.width)) → ColumnsPut col (col + 1) block input old new
ColumnsPut-line block n to base col input items old new whole there here stored of = record {
  same_length = stored.same_length;
  places = λ r c hr h k.
      let column : col ≡ c = omega arith in
      let cell : to + r ≡ block.to + c * block.height + r = omega (arith, there, rw column at there) in
      let index : base + r * block.width ≡ block.from + r * block.width + c = omega arith in
      rw cell at (stored.run r (omega arith)) ∙ rw index at (of r (omega arith));
  others = λ p out. stored.others p (outside p to n (λ t within e. out t col (omega arith) (omega arith) (omega arith) (omega arith)));
}

-- where the registers of 8 rows have a column
module _ {A : Type 0} (side from width : ℕ) (list : List A) (regs : List (List A)) (lines : AreLines side from width list regs) where
  pub at_four : side ≡ 4 → (c r : ℕ) → c < 4 → r < 8 → item_at regs c r ≡ slice_get list (from + r * width + c)
  at_four is c r hc hr =
      let x : (8 * c + r) / (2 * 4) ≡ c = omega arith in
      let y : (8 * c + r) % (2 * 4) ≡ r = omega arith in
      rw (x, y) at (rw is at lines c r hc hr)

  pub at_two : side ≡ 2 → (c h r : ℕ) → c < 2 → h < 2 → r < 4 → item_at regs (2 * c + h) r ≡ slice_get list (from + (4 * h + r) * width + c)
  at_two is c h r hc hh hr =
      let x : (8 * c + (4 * h + r)) / (2 * 2) ≡ 2 * c + h = omega arith in
      let y : (8 * c + (4 * h + r)) % (2 * 2) ≡ r = omega arith in
      rw (x, y) at (rw is at lines c (4 * h + r) hc (omega arith))

-- one of the columns that are in registers is stored
module _ {A : Type 0} (side col this next : ℕ) (block : Block) (input a b old new : List A) (whole : block.rows ≡ 4 * side) (full : length a ≡ 2 * side) (after : next ≡ this + 1)
    (stored : IsRunStored block.rows (block.to + this * block.height) (a ++ b) old new) where
  abbrev base : ℕ
  base = block.from + col

  pub ColumnsPut-of_16 : side ≡ 4 → (top bottom : List (List A)) → AreLines side base block.width input top → AreLines side (base + 8 * block.width) block.width input bottom
      → (c : ℕ) → c < 4 → this ≡ col + c → ((r : ℕ) → item_at top c r ≡ slice_get a r) → ((r : ℕ) → item_at bottom c r ≡ slice_get b r) → ColumnsPut this next block input old new
  ColumnsPut-of_16 is top bottom above below c hc column of_a of_b =
      rw after
      (ColumnsPut-line block block.rows _ (base + c) this input (a ++ b) old new refl refl (omega (arith, column)) stored
      (λ r h. column_of_two 8 (base + c) block.width input a b (omega (arith, full, is))
      (λ r h. let at : base + r * block.width + c ≡ base + c + r * block.width = omega arith in sym (of_a r) ∙ rw at at (at_four side _ _ _ _ above is c r hc h))
      (λ r h.
      let at : base + 8 * block.width + r * block.width + c ≡ base + c + (8 + r) * block.width = omega arith in
      sym (of_b r) ∙ rw at at (at_four side _ _ _ _ below is c r hc h))
      r (omega (arith, whole, is))))

  pub ColumnsPut-of_8 : side ≡ 2 → (lines : List (List A)) → AreLines side base block.width input lines
      → (c : ℕ) → c < 2 → this ≡ col + c → ((r : ℕ) → item_at lines (2 * c + 0) r ≡ slice_get a r) → ((r : ℕ) → item_at lines (2 * c + 1) r ≡ slice_get b r) → ColumnsPut this next block input old new
  ColumnsPut-of_8 is lines of c hc column of_a of_b =
      rw after
      (ColumnsPut-line block block.rows _ (base + c) this input (a ++ b) old new refl refl (omega (arith, column)) stored
      (λ r h. column_of_two 4 (base + c) block.width input a b (omega (arith, full, is))
      (λ r h. let at : base + (4 * 0 + r) * block.width + c ≡ base + c + r * block.width = omega arith in sym (of_a r) ∙ rw at at (at_two side _ _ _ _ of is c 0 r hc (omega arith) h))
      (λ r h.
      let at : base + (4 * 1 + r) * block.width + c ≡ base + c + (4 + r) * block.width = omega arith in
      sym (of_b r) ∙ rw at at (at_two side _ _ _ _ of is c 1 r hc (omega arith) h))
      r (omega (arith, whole, is))))

-- a register of two items of a column
pub of_pair : {A : Type 0} (base second width : ℕ) (list a : List A) → second ≡ base + width → AreInterleaved 1 base second list list a
    → (r : ℕ) → r < 2 → slice_get a r ≡ slice_get list (base + r * width)
of_pair base second width list a next both r h = grind (arith, both.first 0, both.second 0)

-- Two tiles are exchanged item by item, in squares of 4 by 4.
use Rattle.std.proofs.Common.{◌≡◌, ℕ, ◌+◌, ◌-◌, ◌%◌, ◌*◌, ◌<◌, ◌≤◌, List, length, slice_index, inl, inr, swap, arith}
use Rattle.std.proofs.lemmas.Bool.{cases_lt}
use Rattle.p3_util_fast.specs.Tiles.{AreTiles, TilesExchanged}
use Rattle.p3_util_fast.specs.Registers.{IsSquareOf, ItemsExchanged}
use Rattle.p3_util_fast.proofs.BulkLemmas.Tiles.{IsItem, ItemsExchanged-joined, ItemsExchanged-one, other_places}

module _ (x y : List ℕ) (len : ℕ) (tiles : AreTiles x y len) where
  -- one more item of a square is exchanged
  pub ItemsExchanged-more : {A : Type 0} (row col d r : ℕ) (old now next : List A) → len ≡ length old → row + 4 ≤ 8 → col + 4 ≤ 8 → d < 4 → r < 4
      → ItemsExchanged (IsSquareOf row col (4 * d + r)) x y old now
      → next ≡ swap now (slice_index x (row + r) + (col + (r + d) % 4)) (slice_index y (col + (r + d) % 4) + (row + r))
      → ItemsExchanged (IsSquareOf row col (4 * d + (r + 1))) x y old next
  ItemsExchanged-more row col d r old now next all hrow hcol hd hr before step =
      ItemsExchanged-joined x y _ (other_places x y len tiles) (IsSquareOf row col (4 * d + r)) (IsItem (row + r) (col + (r + d) % 4)) (IsSquareOf row col (4 * d + (r + 1))) old now next
      (λ a b v w ha hb hv hw is k e. omega (arith, is.0, is.1.0, is.1.1.0, is.1.1.1.0, is.1.1.1.1, k.0, k.1, e.0, e.1))
      (λ a b ha hb is. elim (cases_lt (4 * ((b - col + 4 - (a - row)) % 4) + (a - row)) (4 * d + r)) [
        | inl early ↦ inl (is.0, (is.1.0, (is.1.1.0, (is.1.1.1.0, early))))
        | inr late ↦ inr (omega (arith, is.0, is.1.1.1.0, is.1.1.1.1), omega (arith, is.0, is.1.0, is.1.1.0, is.1.1.1.0, is.1.1.1.1))
      ])
      (λ a b ha hb is. (is.0, (is.1.0, (is.1.1.0, (is.1.1.1.0, omega (arith, is.1.1.1.1))))))
      (λ a b ha hb is. (omega (arith, is.0), (omega (arith, is.1), (omega (arith, is.1), (omega (arith, is.0), omega (arith, is.0, is.1))))))
      before (ItemsExchanged-one x y (row + r) (col + (r + d) % 4) now next (omega arith) (omega arith) (omega (arith, before.same_length, tiles.first_inside (row + r) (omega arith)))
      (omega (arith, before.same_length, tiles.second_inside (col + (r + d) % 4) (omega arith))) step)

  -- all four squares are exchanged
  pub TilesExchanged-squares : {A : Type 0} (a b c d e : List A) → ItemsExchanged (IsSquareOf 0 0 16) x y a b → ItemsExchanged (IsSquareOf 0 4 16) x y b c
      → ItemsExchanged (IsSquareOf 4 0 16) x y c d → ItemsExchanged (IsSquareOf 4 4 16) x y d e → TilesExchanged 64 x y a e
  TilesExchanged-squares {A} a b c d e one two three four =
      let rows : (n : ℕ) (f g h : List A) → ItemsExchanged (IsSquareOf n 0 16) x y f g → ItemsExchanged (IsSquareOf n 4 16) x y g h → ItemsExchanged (λ r c. (n ≤ r) × (r < n + 4)) x y f h =
      λ n f g h left right.
      ItemsExchanged-joined x y _ (other_places x y len tiles) (IsSquareOf n 0 16) (IsSquareOf n 4 16) (λ r c. (n ≤ r) × (r < n + 4)) f g h (λ r c v w hr hc hv hw h k e. omega (arith, h.1.1.0, k.1.0, e.1))
      (λ r c hr hc h. elim (cases_lt c 4) [ inl less ↦ inl (h.0, (omega arith, (omega arith, (h.1, omega (arith, h))))) | inr more ↦ inr (h.0, (omega arith, (omega arith, (h.1, omega (arith, h))))) ])
      (λ r c hr hc h. (h.0, h.1.1.1.0)) (λ r c hr hc h. (h.0, h.1.1.1.0)) left right in
      ItemsExchanged-joined x y _ (other_places x y len tiles) _ _ _ a c e (λ r c v w hr hc hv hw h k e. omega (arith, h, k, e))
      (λ r c hr hc h. elim (cases_lt r 4) [ inl up ↦ inl (omega arith, up) | inr down ↦ inr (down, hr) ]) (λ r c hr hc h. omega (arith, h)) (λ r c hr hc h. omega (arith, h))
      (rows 0 a b c one two) (rows 4 c d e three four)

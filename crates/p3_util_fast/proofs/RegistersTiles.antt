-- Tiles that are exchanged or transposed by squares.
use Rattle.std.proofs.Common.{◌≡◌, ◌≢◌, ℕ, ◌+◌, ◌-◌, ◌%◌, ◌<◌, ◌≤◌, ◌⊎◌, List, length, slice_get, slice_index, inl, inr, refl, sym, ap, ◌∙◌, arith}
use Rattle.std.proofs.Math.Nat.{mod-le}
use Rattle.std.proofs.lemmas.Bool.{cases_lt}
use Rattle.p3_util_fast.specs.Tiles.{AreTiles, IsTile, TileTurned, TilesExchanged}
use Rattle.p3_util_fast.specs.Registers.{AreDisjoint, AreColumns, AreReached, AreStored, IsSide, RowsExchanged, RowsReached, SquaresTurned, sum_of}
use Rattle.p3_util_fast.proofs.BulkLemmas.Tiles.{IsItem, ItemsExchanged-joined, ItemsExchanged-same, one_tile, other_places, places-apart}
use Rattle.p3_util_fast.proofs.GridLemmas.Crossing.{outside}

pub side_most : (side : ℕ) → IsSide side → side ≤ 8
side_most side is = grind (arith, is)

-- row c of some squares is row c % side of a square
pub row_below : (side : ℕ) → IsSide side → (c : ℕ) → c % side < side
row_below side is c = grind (arith, is)

-- the squares of all rows are whole
square_up : (side : ℕ) → IsSide side → (n c : ℕ) → (n ≡ 4) ⊎ (n ≡ 8) → side ≤ n → c < n → c - c % side + side ≤ n
square_up side is n c known small h = grind (arith, is, known)

-- row l of the square of row c
row_in_square : (side : ℕ) → IsSide side → (c l : ℕ) → l < side → (c - c % side + l) % side ≡ l
row_in_square side is c l h = grind (arith, is)

-- two rows are in the same square, or in squares side by side
squares_apart : (side : ℕ) → IsSide side → (a b : ℕ) → a < b → (a - a % side ≡ b - b % side) ⊎ (a - a % side + side ≤ b - b % side)
squares_apart side is a b h = grind (arith, is)

-- Some squares of the transpose are in n columns of a list. The square of column c begins in row `top` of its first
-- column. Row r of the list begins at entry r of `x`, and row c of the input at entry c of `y`
pub record SquaresMoved {A : Type 0} (n side : ℕ) (top : ℕ → ℕ) (x y : List ℕ) (input old new : List A) : Type 0 where
  pub same_length : length new ≡ length old
  pub places : (r c : ℕ) → c < n → top (c - c % side) ≤ r → r < top (c - c % side) + side → slice_get new (slice_index x r + c) ≡ slice_get input (slice_index y c + r)
  pub others : (p : ℕ) → ((r c : ℕ) → c < n → top (c - c % side) ≤ r → r < top (c - c % side) + side → p ≢ slice_index x r + c) → slice_get new p ≡ slice_get old p

module _ (n side : ℕ) (known : (n ≡ 4) ⊎ (n ≡ 8)) (is : IsSide side) (small : side ≤ n) (top : ℕ → ℕ) (x tops to : List ℕ)
    (low : (c : ℕ) → c < n → top (c - c % side) + side ≤ n) (is_top : (c : ℕ) → c < n → slice_index tops c ≡ top (c - c % side))
    (is_to : (c : ℕ) → c < n → slice_index to c ≡ slice_index x (slice_index tops c + c % side) + (c - c % side)) where
  at : (c : ℕ) → c < n → slice_index to c ≡ slice_index x (top (c - c % side) + c % side) + (c - c % side)
  at c h = rw (is_top c h) at (is_to c h)

  pub AreReached-rows : (may : ℕ → Type 0) → RowsReached n side (slice_index x) may → AreReached n to may
  AreReached-rows may all j h = rw (at j h) (all (top (j - j % side) + j % side) (j - j % side) (omega (arith, row_below side is j, low j h)) (square_up side is n j known small h))

  pub AreDisjoint-rows : ((a b : ℕ) → a < b → b < n → (slice_index x a + n ≤ slice_index x b) ⊎ (slice_index x b + n ≤ slice_index x a)) → AreDisjoint n side to
  AreDisjoint-rows apart a b h k =
      let at_a = at a (omega arith) in
      let at_b = at b k in
      let up_a = square_up side is n a known small (omega arith) in
      let up_b = square_up side is n b known small k in
      let row_a = top (a - a % side) + a % side in
      let row_b = top (b - b % side) + b % side in
      let in_a : row_a < n = omega (arith, row_below side is a, low a (omega arith)) in
      let in_b : row_b < n = omega (arith, row_below side is b, low b k) in
      grind (arith, at_a, at_b, up_a, up_b, in_a, in_b, apart row_a row_b, apart row_b row_a, squares_apart side is a b h, mod-le a side, mod-le b side)

  -- row r of the list and column c are in row `place` of the squares
  abbrev pub place : ℕ → ℕ → ℕ
  place r c = c - c % side + (r - top (c - c % side))

  pub placed : (r c : ℕ) → c < n → top (c - c % side) ≤ r → r < top (c - c % side) + side
      → (place r c < n) × ((place r c % side ≡ r - top (c - c % side)) × (slice_index to (place r c) ≡ slice_index x r + (c - c % side)))
  placed r c h k l =
      let row : place r c % side ≡ r - top (c - c % side) = row_in_square side is c (r - top (c - c % side)) (omega arith) in
      let start : place r c - place r c % side ≡ c - c % side = omega (arith, row) in
      let inside : place r c < n = omega (arith, square_up side is n c known small h) in
      let on : top (c - c % side) + (r - top (c - c % side)) ≡ r = omega arith in
      (inside, (row, rw (start, row, on) at (at (place r c) inside)))

  -- the squares are read from rows of the input
  pub SquaresMoved-rows : {A : Type 0} (y from : List ℕ) (columns : List (List A)) (input old new : List A) → ((c : ℕ) → c < n → slice_index from c ≡ slice_index y c + slice_index tops c)
      → AreColumns side from input columns → AreStored n side to columns old new → SquaresMoved n side top x y input old new
  SquaresMoved-rows y from columns input old new at_from of step = record {
    same_length = step.same_length;
    places = λ r c h k l.
        let (inside, (row, start)) = placed r c h k l in
        let most = mod-le c side in
        let to_is : slice_index to (place r c) + c % side ≡ slice_index x r + c = omega (arith, start, most) in
        let back : place r c - (r - top (c - c % side)) + c % side ≡ c = omega (arith, most) in
        let from_is : slice_index from c + (r - top (c - c % side)) ≡ slice_index y c + r = omega (arith, at_from c h, is_top c h) in
        let in_all : place r c < 8 = elim known [ inl u ↦ omega arith | inr u ↦ omega arith ] in
        rw to_is at (step.rows (place r c) (c % side) inside (row_below side is c)) ∙ rw (row, back, from_is) at (of (place r c) (c % side) in_all (row_below side is c));
    others = λ p out.
        step.others p (λ j m.
        let on = at j m in
        let up = square_up side is n j known small m in
        let most = mod-le j side in
        outside p (slice_index to j) side (λ t within e.
        let row = row_in_square side is j t (omega arith) in
        let start : j - j % side + t - (j - j % side + t) % side ≡ j - j % side = omega (arith, row) in
        let below = row_below side is j in
        out (top (j - j % side) + j % side) (j - j % side + t) (omega arith) (rw start (omega arith)) (rw start (omega arith)) (omega arith)));
  }

module _ (x y : List ℕ) (len : ℕ) (tiles : AreTiles x y len) where
  -- both are read, and each is written over the other
  pub RowsExchanged-band : {A : Type 0} (side row : ℕ) (tops in_x in_y : List ℕ) (to_x to_y : List (List A)) (old mid new : List A) → IsSide side → row + side ≤ 8
      → ((c : ℕ) → c < 8 → slice_index tops c ≡ row) → ((c : ℕ) → c < 8 → slice_index in_x c ≡ slice_index x (slice_index tops c + c % side) + (c - c % side))
      → ((c : ℕ) → c < 8 → slice_index in_y c ≡ slice_index y c + slice_index tops c)
      → AreColumns side in_x old to_y → AreColumns side in_y old to_x
      → AreStored 8 side in_y to_y old mid → AreStored 8 side in_x to_x mid new
      → RowsExchanged row (row + side) x y old new
  RowsExchanged-band side row tops in_x in_y to_x to_y old mid new is below is_top at_x at_y of_x of_y one two =
      let small : side ≤ 8 = omega arith in
      let moved = SquaresMoved-rows 8 side (inr refl) is small (λ s. row) x tops in_x (λ c h. below) is_top at_x y in_y to_x old mid new at_y of_y two in
      record {
        same_length = moved.same_length ∙ one.same_length;
        first = λ r c hr l h. moved.places r c l h.0 h.1;
        second = λ r c hr l h.
            let (inside, (row_in, start)) = placed 8 side (inr refl) is small (λ s. row) x tops in_x (λ c h. below) is_top at_x r c l h.0 h.1 in
            let to_is : slice_index in_y c + (r - row) ≡ slice_index y c + r = omega (arith, at_y c l, is_top c l) in
            let from_is : slice_index in_x (c - c % side + (r - row)) + c % side ≡ slice_index x r + c = omega (arith, start, mod-le c side) in
            moved.others (slice_index y c + r) (λ v w hw i j e. places-apart x y len tiles v w c r (omega arith) hw l (omega arith) (sym e))
            ∙ rw to_is at (one.rows c (r - row) l (omega arith)) ∙ rw from_is at (of_x c (r - row) l (omega arith));
        others = λ p out.
            moved.others p (λ r c h k l. (out r c (omega arith) h (k, l)).0)
            ∙ one.others p (λ j m.
            let on = at_y j m in
            let top = is_top j m in
            outside p (slice_index in_y j) side (λ t within e. (out (row + t) j (omega arith) m (omega arith, omega arith)).1 (omega arith)));
      }

  -- some rows are exchanged, and then those that follow them
  pub RowsExchanged-joined : {A : Type 0} (a b d : ℕ) (old mid new : List A) → a ≤ b → b ≤ d → RowsExchanged a b x y old mid → RowsExchanged b d x y mid new → RowsExchanged a d x y old new
  RowsExchanged-joined a b d old mid new up more =
      ItemsExchanged-joined x y _ (other_places x y len tiles) _ _ _ old mid new (λ r c v w hr hc hv hw h k e. omega (arith, h, k, e))
      (λ r c hr hc h. elim (cases_lt r b) [ inl early ↦ inl (h.0, early) | inr late ↦ inr (late, h.1) ]) (λ r c hr hc h. (h.0, omega (arith, h))) (λ r c hr hc h. (omega (arith, h), h.1))

-- all rows are exchanged
pub TilesExchanged-rows : {A : Type 0} (x y : List ℕ) (old new : List A) → RowsExchanged 0 8 x y old new → TilesExchanged 64 x y old new
TilesExchanged-rows x y old new = ItemsExchanged-same x y _ _ old new (λ r c hr hc h. (omega arith, hr)) (λ r c hr hc h. omega arith)

-- the first row of the square that is exchanged with the square that begins in column q, if their sum is s
abbrev pub opposite : ℕ → ℕ → ℕ
opposite s q = (8 + s - q) % 8

pub opposite_up : (side : ℕ) → IsSide side → (s c : ℕ) → s < 8 → s % side ≡ 0 → opposite s (c - c % side) + side ≤ 8
opposite_up side is s c h e = grind (arith, is)

opposite_row : (side : ℕ) → IsSide side → (s r c : ℕ) → r < 8 → c < 8 → s < 8 → s % side ≡ 0 → s ≤ sum_of side r c → sum_of side r c < s + side
    → opposite s (c - c % side) + r % side ≡ r
opposite_row side is s r c hr hc hs e h k = grind (arith, is)

opposite_sum : (side : ℕ) → IsSide side → (s r c : ℕ) → c < 8 → s < 8 → s % side ≡ 0 → opposite s (c - c % side) ≤ r → r < opposite s (c - c % side) + side → sum_of side r c ≡ s
opposite_sum side is s r c hc hs e h k = grind (arith, is)

sum_turned : (side r c : ℕ) → sum_of side r c ≡ sum_of side c r
sum_turned side r c = ap (λ n. n % 8) (omega arith)

module _ (x : List ℕ) (len : ℕ) (tile : IsTile x len) where
  -- the squares of one sum are read, and each is written over its mirror image
  pub SquaresTurned-step : {A : Type 0} (side s : ℕ) (tops from to : List ℕ) (columns : List (List A)) (old new : List A) → IsSide side → side ≤ 8 → s < 8 → s % side ≡ 0
      → ((c : ℕ) → c < 8 → slice_index tops c ≡ opposite s (c - c % side)) → ((c : ℕ) → c < 8 → slice_index from c ≡ slice_index x c + slice_index tops c)
      → ((c : ℕ) → c < 8 → slice_index to c ≡ slice_index x (slice_index tops c + c % side) + (c - c % side))
      → AreColumns side from old columns → AreStored 8 side to columns old new → SquaresTurned s (s + side) side x old new
  SquaresTurned-step side s tops from to columns old new is small below whole is_top at_from at of step =
      let moved = SquaresMoved-rows 8 side (inr refl) is small (opposite s) x tops to (λ c h. opposite_up side is s c below whole) is_top at x from columns old old new at_from of step in
      let turned : (r c : ℕ) → r < 8 → c < 8 → (s ≤ sum_of side r c) × (sum_of side r c < s + side) → slice_get new (slice_index x r + c) ≡ slice_get old (slice_index x c + r) =
      λ r c hr hc h.
      let mirror = opposite_row side is s r c hr hc below whole h.0 h.1 in
      moved.places r c hc (omega (arith, mirror)) (omega (arith, mirror, row_below side is r)) in
      record {
        same_length = moved.same_length;
        first = λ r c hr hc h. turned r c hr hc h.1;
        second = λ r c hr hc h. turned c r hc hr (rw (sum_turned side r c) at h.1);
        others = λ p out.
            moved.others p (λ r c hc h k.
            let sum = opposite_sum side is s r c hc below whole h k in
            let row : r < 8 = omega (arith, opposite_up side is s c below whole) in
            let sums : (s ≤ sum_of side r c) × (sum_of side r c < s + side) = (omega arith, omega (arith, row_below side is c)) in
            elim (cases_lt c r) [ inl low ↦ (out c r hc row (omega arith, rw (sum_turned side c r) sums)).1 | inr high ↦ (out r c row hc (high, sums)).0 ]);
      }

  -- the squares of some sums are turned, and then those of the sums that follow
  pub SquaresTurned-joined : {A : Type 0} (side a b d : ℕ) (old mid new : List A) → a ≤ b → b ≤ d → SquaresTurned a b side x old mid → SquaresTurned b d side x mid new → SquaresTurned a d side x old new
  SquaresTurned-joined side a b d old mid new up more =
      let other : (r c v w : ℕ) → sum_of side r c < b → b ≤ sum_of side v w → IsItem r c v w → ⊥ = λ r c v w h k e. omega (arith, rw (e.0, e.1) at k) in
      ItemsExchanged-joined x x _ (one_tile x len tile) _ _ _ old mid new (λ r c v w hr hc hv hw h k. (other r c v w h.1.1 k.1.0, other c r v w (rw (sum_turned side c r) h.1.1) k.1.0))
      (λ r c hr hc h. elim (cases_lt (sum_of side r c) b) [ inl early ↦ inl (h.0, (h.1.0, early)) | inr late ↦ inr (h.0, (late, h.1.1)) ])
      (λ r c hr hc h. (h.0, (h.1.0, omega (arith, h)))) (λ r c hr hc h. (h.0, (omega (arith, h), h.1.1)))

-- all squares are turned
pub TileTurned-squares : {A : Type 0} (x : List ℕ) (side : ℕ) (old new : List A) → SquaresTurned 0 8 side x old new → TileTurned 64 x old new
TileTurned-squares x side old new = ItemsExchanged-same x x _ _ old new (λ r c hr hc h. (h.0, (omega arith, omega arith))) (λ r c hr hc h. (h.0, omega arith))

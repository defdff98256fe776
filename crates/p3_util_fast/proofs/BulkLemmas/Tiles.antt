-- Two tiles are exchanged with each other's mirror image, or one tile is transposed, item by item.
use Rattle.std.proofs.Common.{◌≡◌, ◌≢◌, ℕ, ◌+◌, ◌*◌, ◌<◌, ◌≤◌, ◌⊎◌, List, length, slice_index, inl, inr, refl, sym, ap, ◌∙◌, swap, arith}
use Rattle.std.proofs.lemmas.List.Edits.{length-swap}
use Rattle.p3_util_fast.specs.Tiles.{AreTiles, IsTile, TileTurned}
use Rattle.p3_util_fast.specs.Registers.{ItemsExchanged}
use Rattle.p3_util_kernels.proofs.PlacesLemmas.Exchange.{slice_get-swap_first, slice_get-swap_second, slice_get-swap_other}

-- a place of a tile has only one row and one column
pub one_row : (z : List ℕ) (a b r c : ℕ) → ((a b : ℕ) → a < b → b < 8 → (slice_index z a + 8 ≤ slice_index z b) ⊎ (slice_index z b + 8 ≤ slice_index z a))
    → a < 8 → b < 8 → r < 8 → c < 8 → slice_index z a + b ≡ slice_index z r + c → (a ≡ r) × (b ≡ c)
one_row z a b r c apart ha hb hr hc e = grind (arith, e, apart a r, apart r a)

-- one item of a tile
abbrev pub IsItem : (row col r c : ℕ) → Type 0
IsItem row col r c = (r ≡ row) × (c ≡ col)

module _ (x y : List ℕ) where
  -- the places of an item and of its mirror image are not those of another item and its mirror image
  abbrev pub AreApart : (r c v w : ℕ) → Type 0
  AreApart r c v w =
      ((slice_index x r + c ≢ slice_index x v + w) × (slice_index x r + c ≢ slice_index y w + v)) × ((slice_index y c + r ≢ slice_index x v + w) × (slice_index y c + r ≢ slice_index y w + v))

  -- one item is exchanged
  pub ItemsExchanged-one : {A : Type 0} (row col : ℕ) (old new : List A) → row < 8 → col < 8 → slice_index x row + col < length old → slice_index y col + row < length old
      → new ≡ swap old (slice_index x row + col) (slice_index y col + row) → ItemsExchanged (IsItem row col) x y old new
  ItemsExchanged-one row col old new hr hc upper_in lower_in step = record {
    same_length = ap length step ∙ length-swap old _ _;
    first = λ r c h k is. rw (is.0, is.1, step) (slice_get-swap_first old _ _ upper_in lower_in);
    second = λ r c h k is. rw (is.0, is.1, step) (slice_get-swap_second old _ _ upper_in lower_in);
    others = λ p out. rw step (slice_get-swap_other old _ _ p (out row col hr hc (refl, refl)).0 (out row col hr hc (refl, refl)).1);
  }

  -- the same exchange, if a condition is met by the same items of the tile as another one
  pub ItemsExchanged-same : {A : Type 0} (some all : ℕ → ℕ → Type 0) (old new : List A) → ((r c : ℕ) → r < 8 → c < 8 → all r c → some r c)
      → ((r c : ℕ) → r < 8 → c < 8 → some r c → all r c) → ItemsExchanged some x y old new → ItemsExchanged all x y old new
  ItemsExchanged-same some all old new to from h = record {
    same_length = h.same_length;
    first = λ r c hr hc is. h.first r c hr hc (to r c hr hc is);
    second = λ r c hr hc is. h.second r c hr hc (to r c hr hc is);
    others = λ p out. h.others p (λ r c hr hc is. out r c hr hc (from r c hr hc is));
  }

  -- some items are exchanged, and then others
  pub ItemsExchanged-joined : {A : Type 0} (differ : (r c v w : ℕ) → Type 0) → ((r c v w : ℕ) → r < 8 → c < 8 → v < 8 → w < 8 → differ r c v w → AreApart r c v w)
      → (one two all : ℕ → ℕ → Type 0) (old mid new : List A) → ((r c v w : ℕ) → r < 8 → c < 8 → v < 8 → w < 8 → one r c → two v w → differ r c v w)
      → ((r c : ℕ) → r < 8 → c < 8 → all r c → one r c ⊎ two r c) → ((r c : ℕ) → r < 8 → c < 8 → one r c → all r c) → ((r c : ℕ) → r < 8 → c < 8 → two r c → all r c)
      → ItemsExchanged one x y old mid → ItemsExchanged two x y mid new → ItemsExchanged all x y old new
  ItemsExchanged-joined differ places one two all old mid new other each in_one in_two before after =
      let apart : (r c v w : ℕ) → r < 8 → c < 8 → v < 8 → w < 8 → one r c → two v w → AreApart r c v w = λ r c v w hr hc hv hw h k. places r c v w hr hc hv hw (other r c v w hr hc hv hw h k) in
      record {
        same_length = after.same_length ∙ before.same_length;
        first = λ r c hr hc is.
            elim (each r c hr hc is) [
              | inl early ↦ after.others _ (λ v w hv hw k. (apart r c v w hr hc hv hw early k).0) ∙ before.first r c hr hc early
              | inr late ↦
                  after.first r c hr hc late
                  ∙ before.others _ (λ v w hv hw k. let at = apart v w r c hv hw hr hc k late in (λ e. at.0.1 (sym e), λ e. at.1.1 (sym e)))
            ];
        second = λ r c hr hc is.
            elim (each r c hr hc is) [
              | inl early ↦ after.others _ (λ v w hv hw k. (apart r c v w hr hc hv hw early k).1) ∙ before.second r c hr hc early
              | inr late ↦
                  after.second r c hr hc late
                  ∙ before.others _ (λ v w hv hw k. let at = apart v w r c hv hw hr hc k late in (λ e. at.0.0 (sym e), λ e. at.1.0 (sym e)))
            ];
        others = λ p out. after.others p (λ r c hr hc k. out r c hr hc (in_two r c hr hc k)) ∙ before.others p (λ r c hr hc k. out r c hr hc (in_one r c hr hc k));
      }

module _ (x y : List ℕ) (len : ℕ) (tiles : AreTiles x y len) where
  -- no place is in both tiles
  pub places-apart : (a b r c : ℕ) → a < 8 → b < 8 → r < 8 → c < 8 → slice_index x a + b ≢ slice_index y r + c
  places-apart a b r c ha hb hr hc e = elim (tiles.both_apart a r ha hr) [ inl u ↦ omega arith | inr u ↦ omega arith ]

  -- the places of another item, and of its mirror image, are other places
  pub other_places : (r c v w : ℕ) → r < 8 → c < 8 → v < 8 → w < 8 → (IsItem r c v w → ⊥) → AreApart x y r c v w
  other_places r c v w hr hc hv hw other = (
    (λ e. let at = one_row x v w r c tiles.first_apart hv hw hr hc (sym e) in other at, λ e. places-apart r c w v hr hc hw hv e),
    (λ e. places-apart v w c r hv hw hc hr (sym e), λ e. let at = one_row y w v c r tiles.second_apart hw hv hc hr (sym e) in other (at.1, at.0)),
  )

module _ (x : List ℕ) (len : ℕ) (tile : IsTile x len) where
  -- the places of an item and of its mirror image belong to no other item
  pub one_tile : (r c v w : ℕ) → r < 8 → c < 8 → v < 8 → w < 8 → (IsItem r c v w → ⊥) × (IsItem c r v w → ⊥) → AreApart x x r c v w
  one_tile r c v w hr hc hv hw other =
      let one : (a b d e : ℕ) → a < 8 → b < 8 → d < 8 → e < 8 → slice_index x a + b ≡ slice_index x d + e → (d ≡ a) × (e ≡ b) = λ a b d e ha hb hd he is. one_row x d e a b tile.apart hd he ha hb (sym is) in (
        (λ e. other.0 (one r c v w hr hc hv hw e), λ e. let at = one r c w v hr hc hw hv e in other.1 (at.1, at.0)),
        (λ e. other.1 (one c r v w hc hr hv hw e), λ e. let at = one c r w v hc hr hw hv e in other.0 (at.1, at.0)),
      )

  -- the items of row r before the diagonal are exchanged already, and the one on it stays
  pub TileTurned-row : {A : Type 0} (r : ℕ) (old now : List A) → r < 8 → TileTurned (8 * r) x old now → TileTurned (8 * r + (r + 1)) x old now
  TileTurned-row r old now hr before =
      ItemsExchanged-joined x x _ one_tile _ (IsItem r r) _ old now now (λ a b v w ha hb hv hw h k. (λ e. omega (arith, h, k, e), λ e. omega (arith, h, k, e)))
      (λ a b ha hb h. grind (arith, h)) (λ a b ha hb h. (h.0, omega (arith, h))) (λ a b ha hb k. (omega (arith, k), omega (arith, k))) before
      (record { same_length = refl; first = λ a b ha hb k. rw (k.0, k.1) refl; second = λ a b ha hb k. rw (k.0, k.1) refl; others = λ p out. refl })

  -- one more item is exchanged
  pub TileTurned-more : {A : Type 0} (r c : ℕ) (old now next : List A) → len ≡ length old → r < c → c < 8
      → TileTurned (8 * r + c) x old now → next ≡ swap now (slice_index x r + c) (slice_index x c + r)
      → TileTurned (8 * r + (c + 1)) x old next
  TileTurned-more r c old now next all up hc before step =
      ItemsExchanged-joined x x _ one_tile _ (IsItem r c) _ old now next (λ a b v w ha hb hv hw h k. (λ e. omega (arith, h, k, e), λ e. omega (arith, h, k, e)))
      (λ a b ha hb h. grind (arith, h)) (λ a b ha hb h. (h.0, omega (arith, h))) (λ a b ha hb k. (omega (arith, k), omega (arith, k))) before
      (ItemsExchanged-one x x r c now next (omega arith) hc (omega (arith, before.same_length, tile.inside r (omega arith))) (omega (arith, before.same_length, tile.inside c hc)) step)

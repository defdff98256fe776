-- What rows become when a `&mut` to one of their items ends. Only the private clauses of
-- `views::loans` cite these definitions, but they have to be in `specs` nevertheless.
use Rattle.std.specs.Prelude.{ℕ, Option, List, [], ◌≡◌, slice_index_or, slice_set}
use Rattle.std.specs.Option.{OnSome}
use Rattle.std.specs.Borrow.{Lends, LendsSo, MutBor, Fml, RattleType, Array}
use Rattle.p3_util.specs.Flat.{flat}

-- the rows end up with row r set to the last value behind l
abbrev pub lends_row : (R : RattleType) → MutBor (List R.Denot) → ℕ → MutBor R.Denot → Fml
lends_row R rows r l = Lends (Array R 0) R rows l (slice_set rows.now r)

module _ (T : RattleType) (n : ℕ) where
  -- a row of n items ends up with item c set to the last value behind l
  abbrev pub lends_item_of_row : MutBor (List T.Denot) → ℕ → MutBor T.Denot → Fml
  lends_item_of_row row c l = Lends (Array T n) T row l (slice_set row.now c)

  -- rows of n items end up with item c of row r set to the last value behind l
  abbrev pub lends_place : MutBor (List (List T.Denot)) → ℕ → ℕ → MutBor T.Denot → Fml
  lends_place rows r c l = Lends (Array (Array T n) 0) T rows l (λ w. slice_set rows.now r (slice_set (slice_index_or rows.now r []) c w))

  -- rows of n items end up with item i, counted over all rows, set to the last value behind l, and
  -- unchanged if l is `None`
  abbrev pub lends_item_of_rows : MutBor (List (List T.Denot)) → ℕ → Option (MutBor T.Denot) → Fml
  lends_item_of_rows rows i l = LendsSo (Array (Array T n) 0) T rows l
      (λ last w. OnSome l (flat last ≡ slice_set (flat rows.now) i w)) (λ last. last ≡ rows.now)

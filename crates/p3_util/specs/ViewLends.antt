-- What a holder of rows becomes when a `&mut` to one of their items ends. Source: new.
use Rattle.std.specs.Prelude.{ℕ, Option, List, ◌≡◌, slice_set}
use Rattle.std.specs.Option.{OnSome}
use Rattle.std.specs.Borrow.{LendsSo, MutBor, Fml, RattleType}

module _ (S T : RattleType) (items : S.Denot → List T.Denot) (same_rows : S.Denot → S.Denot → Type 0) (rows : MutBor S.Denot) (i : ℕ) (l : Option (MutBor T.Denot)) where
  -- if l has an item, the same rows end up with item i set to w, and every other item is unchanged
  abbrev pub HasWritten : S.Denot → T.Denot → Type 0
  HasWritten last w = OnSome l (same_rows rows.now last × (items last ≡ slice_set (items rows.now) i w))

  -- the same rows end up with the items that they had
  abbrev pub HasKept : S.Denot → Type 0
  HasKept last = same_rows rows.now last × (items last ≡ items rows.now)

  -- S is the type of `rows`, T that of their items, and `items` gives all items as one list. `same_rows` says that two
  -- values borrow the same rows. l is a `&mut` to item i of the rows, or `None`. When the loan ends, item i has the
  -- value that was last written through l, and every other item is unchanged. If l is `None`, all items are unchanged
  abbrev pub lends_item : Fml
  lends_item = LendsSo S T rows l HasWritten HasKept

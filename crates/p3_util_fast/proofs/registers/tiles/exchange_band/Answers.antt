-- Both parts are read before one of them is written.
use Rattle.std.proofs.Common.{◌≡◌, slice_index, inr, refl, replicate, arith}
use Rattle.std.proofs.lemmas.List.{get_or-replicate}
use Rattle.p3_util_fast.specs.Registers.{items_of_four}
use Rattle.p3_util_fast.proofs.RegistersTiles.{AreDisjoint-rows, RowsExchanged-band}
use Rattle.p3_util_fast.proofs.registers.tiles.exchange_band.Goals as goal

pub store-requires-clause-apart : goal.store-requires-clause-apart
store-requires-clause-apart g c a b h k =
    let row_a : slice_index (replicate 8 c.args.row) a ≡ c.args.row = get_or-replicate 8 a c.args.row 0 (omega arith) in
    let row_b : slice_index (replicate 8 c.args.row) b ≡ c.args.row = get_or-replicate 8 b c.args.row 0 k in
    grind (arith, row_a, row_b, c.in_columns-in_y.ensures a (omega arith), c.in_columns-in_y.ensures b k, c.requires.below, c.requires.tiles.second_apart a b h k)

pub store-requires-2-clause-apart : goal.store-requires-2-clause-apart
store-requires-2-clause-apart g c =
    AreDisjoint-rows 8 _ (inr refl) c.requires.some_side (omega (arith, c.requires.below)) (λ s. c.args.row) c.args.x (replicate 8 c.args.row) _ (λ j h. c.requires.below)
    (λ j h. get_or-replicate 8 j c.args.row 0 h) (rw c.SIDE.ensures at c.in_rows-in_x.ensures) c.requires.tiles.first_apart

pub returns-clause-exchanged : goal.returns-clause-exchanged
returns-clause-exchanged g c =
    RowsExchanged-band _ _ _ c.requires.tiles g.D.Register.SIDE _ (replicate 8 c.args.row) _ _ (items_of_four g.D.Register.items c.load_columns-to_x.result) (items_of_four g.D.Register.items c.load_columns-to_y.result)
    _ _ _ c.requires.some_side c.requires.below (λ j h. get_or-replicate 8 j c.args.row 0 h) (rw c.SIDE.ensures at c.in_rows-in_x.ensures) c.in_columns-in_y.ensures
    c.load_columns-to_y.ensures c.load_columns-to_x.ensures c.store.ensures.stored c.store-2.ensures.stored

pub returns-clause-holder : goal.returns-clause-holder
returns-clause-holder g c = g.met.M.Runs.same_holder_trans _ _ _ _ _ _ c.store.ensures.holder c.store-2.ensures.holder (omega arith)

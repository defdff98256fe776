-- The squares of one sum are read before one of them is written.
use Rattle.std.proofs.Common.{inr, refl}
use Rattle.p3_util_fast.specs.Registers.{items_of_four}
use Rattle.p3_util_fast.proofs.RegistersTiles.{AreDisjoint-rows, AreReached-rows, SquaresTurned-step, opposite, opposite_up, side_most}
use Rattle.p3_util_fast.proofs.registers.tiles.turn_squares.Goals as goal

pub store-requires-clause-reached : goal.store-requires-clause-reached
store-requires-clause-reached g c =
    let is = c.requires.some_side in
    AreReached-rows 8 _ (inr refl) is (side_most _ is) (opposite c.args.sum) c.args.x _ _ (λ j h. opposite_up _ is _ j c.requires.sum c.requires.whole)
    (rw c.SIDE-side.ensures at c.opposites-tops.ensures) (rw c.SIDE-side.ensures at c.in_rows.ensures) (g.M.Loads.may (g.M.Loads.reach c.args.list.now)) c.requires.reached

pub store-requires-clause-apart : goal.store-requires-clause-apart
store-requires-clause-apart g c =
    let is = c.requires.some_side in
    AreDisjoint-rows 8 _ (inr refl) is (side_most _ is) (opposite c.args.sum) c.args.x _ _ (λ j h. opposite_up _ is _ j c.requires.sum c.requires.whole)
    (rw c.SIDE-side.ensures at c.opposites-tops.ensures) (rw c.SIDE-side.ensures at c.in_rows.ensures) c.requires.tile.apart

pub returns-clause-turned : goal.returns-clause-turned
returns-clause-turned g c =
    SquaresTurned-step _ _ c.requires.tile _ _ _ _ _ (items_of_four g.D.Register.items c.load_columns-columns.result) _ _ c.requires.some_side (side_most _ c.requires.some_side) c.requires.sum
    c.requires.whole (rw c.SIDE-side.ensures at c.opposites-tops.ensures) c.in_columns.ensures (rw c.SIDE-side.ensures at c.in_rows.ensures) c.load_columns-columns.ensures c.store.ensures.stored

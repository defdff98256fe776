-- The squares are turned from the least sum to the greatest.
use Rattle.std.proofs.Common.{◌≡◌, ◌*◌, arith}
use Rattle.p3_util_fast.proofs.RegistersTiles.{SquaresTurned-joined, TileTurned-squares}
use Rattle.p3_util_fast.proofs.RegistersSteps.{four_times}
use Rattle.p3_util_fast.proofs.registers.tiles.turn.Goals as goal

pub returns-in-2-clause-turned : goal.returns-in-2-clause-turned
returns-in-2-clause-turned g c =
    let half : g.D.Register.SIDE ≡ 2 = omega (arith, c.SIDE.ensures, c.in-2.is) in
    let join = SquaresTurned-joined _ _ c.requires.tile 2 in
    let same = g.met.M.RunsOfPlaces.same_items in
    rw (same c.args.list.now, same c.turn_squares-in-2-3.new.list) at
    (TileTurned-squares _ 2 _ _
    (join 0 6 8 _ _ _ (omega arith) (omega arith)
    (join 0 4 6 _ _ _ (omega arith) (omega arith)
    (join 0 2 4 _ _ _ (omega arith) (omega arith) (rw half at c.turn_squares.ensures.turned) (rw half at c.turn_squares-in-2.ensures.turned))
    (rw half at c.turn_squares-in-2-2.ensures.turned)) (rw half at c.turn_squares-in-2-3.ensures.turned)))

pub returns-in-4-clause-turned : goal.returns-in-4-clause-turned
returns-in-4-clause-turned g c =
    let half : g.D.Register.SIDE ≡ 4 = omega (arith, c.SIDE.ensures, c.in-4.is) in
    let same = g.met.M.RunsOfPlaces.same_items in
    rw (same c.args.list.now, same c.turn_squares-in-4-2.new.list) at
    (TileTurned-squares _ 4 _ _
    (SquaresTurned-joined _ _ c.requires.tile 4 0 4 8 _ _ _ (omega arith) (omega arith) (rw half at c.turn_squares-in-4.ensures.turned) (rw half at c.turn_squares-in-4-2.ensures.turned)))

pub returns-in-8-clause-turned : goal.returns-in-8-clause-turned
returns-in-8-clause-turned g c =
    let half : g.D.Register.SIDE ≡ 8 = omega (arith, c.SIDE.ensures, c.in-8.is) in
    let same = g.met.M.RunsOfPlaces.same_items in
    rw (same c.args.list.now, same c.turn_squares-in-8.new.list) at (TileTurned-squares _ 8 _ _ (rw half at c.turn_squares-in-8.ensures.turned))

pub returns-in-2-clause-holder : goal.returns-in-2-clause-holder
returns-in-2-clause-holder g c =
    let half : g.D.Register.SIDE ≡ 2 = omega (arith, c.SIDE.ensures, c.in-2.is) in
    g.met.M.RunsOfPlaces.same_tile _ _
    (four_times _ g.M.Runs.same_holder g.met.M.Runs.same_holder_trans (8 * g.D.Register.SIDE) _ _ _ _ _ _ c.turn_squares.ensures.holder c.turn_squares-in-2.ensures.holder c.turn_squares-in-2-2.ensures.holder c.turn_squares-in-2-3.ensures.holder (omega (arith, half)))

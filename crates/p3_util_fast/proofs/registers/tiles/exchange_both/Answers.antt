-- The rows of the tiles are exchanged from the first to the last.
use Rattle.std.proofs.Common.{◌≡◌, ◌*◌, arith}
use Rattle.p3_util_fast.proofs.RegistersTiles.{RowsExchanged-joined, TilesExchanged-rows}
use Rattle.p3_util_fast.proofs.RegistersSteps.{four_times}
use Rattle.p3_util_fast.proofs.registers.tiles.exchange_both.Goals as goal

pub returns-in-2-clause-exchanged : goal.returns-in-2-clause-exchanged
returns-in-2-clause-exchanged g c =
    let half : g.D.Register.SIDE ≡ 2 = omega (arith, c.SIDE.ensures, c.in-2.is) in
    let same = g.met.M.RunsOfPlaces.same_items in
    let join = RowsExchanged-joined _ _ _ c.requires.tiles in
    rw (same c.args.list.now, same c.exchange_band-in-2-3.new.list) at
    (TilesExchanged-rows _ _ _ _
    (join 0 6 8 _ _ _ (omega arith) (omega arith)
    (join 0 4 6 _ _ _ (omega arith) (omega arith)
    (join 0 2 4 _ _ _ (omega arith) (omega arith) (rw half at c.exchange_band.ensures.exchanged) (rw half at c.exchange_band-in-2.ensures.exchanged))
    (rw half at c.exchange_band-in-2-2.ensures.exchanged)) (rw half at c.exchange_band-in-2-3.ensures.exchanged)))

pub returns-in-4-clause-exchanged : goal.returns-in-4-clause-exchanged
returns-in-4-clause-exchanged g c =
    let half : g.D.Register.SIDE ≡ 4 = omega (arith, c.SIDE.ensures, c.in-4.is) in
    let same = g.met.M.RunsOfPlaces.same_items in
    rw (same c.args.list.now, same c.exchange_band-in-4-2.new.list) at
    (TilesExchanged-rows _ _ _ _
    (RowsExchanged-joined _ _ _ c.requires.tiles 0 4 8 _ _ _ (omega arith) (omega arith) (rw half at c.exchange_band-in-4.ensures.exchanged) (rw half at c.exchange_band-in-4-2.ensures.exchanged)))

pub returns-in-8-clause-exchanged : goal.returns-in-8-clause-exchanged
returns-in-8-clause-exchanged g c =
    let half : g.D.Register.SIDE ≡ 8 = omega (arith, c.SIDE.ensures, c.in-8.is) in
    let same = g.met.M.RunsOfPlaces.same_items in
    rw (same c.args.list.now, same c.exchange_band-in-8.new.list) at (TilesExchanged-rows _ _ _ _ (rw half at c.exchange_band-in-8.ensures.exchanged))

pub returns-in-2-clause-holder : goal.returns-in-2-clause-holder
returns-in-2-clause-holder g c =
    let half : g.D.Register.SIDE ≡ 2 = omega (arith, c.SIDE.ensures, c.in-2.is) in
    g.met.M.RunsOfPlaces.same_tiles _ _
    (four_times _ g.M.Runs.same_holder g.met.M.Runs.same_holder_trans (16 * g.D.Register.SIDE) _ _ _ _ _ _ c.exchange_band.ensures.holder c.exchange_band-in-2.ensures.holder c.exchange_band-in-2-2.ensures.holder c.exchange_band-in-2-3.ensures.holder (omega (arith, half)))

-- Each turn of the loop exchanges one more place of the row.
use Rattle.std.proofs.Common.{◌≡◌, ◌+◌, ◌-◌, ◌*◌, arith}
use Rattle.p3_util_fast.proofs.GridLemmas.Parts.{SwapsInGrid-item, grid_room, one_place}
use Rattle.p3_util_fast.proofs.grid.exchange_row.Goals as goal

pub loop-col-preserved : goal.loop-col-preserved
loop-col-preserved g c =
    let one : c.loop-col.col + 1 - c.args.region.col_start ≡ c.loop-col.col - c.args.region.col_start + 1 = omega arith in
    let more : c.args.grid.width * (c.loop-col.col - c.args.region.col_start) + c.args.grid.width ≡ c.args.grid.width * (c.loop-col.col + 1 - c.args.region.col_start) = rw one (omega arith) in
    record {
      exchanged = SwapsInGrid-item c.args.grid _ c.requires.ready c.args.row c.loop-col.col c.args.region _ _ _ c.requires.above (omega arith) (omega arith) c.loop-col.invariant.exchanged
          (rw (c.start-first.ensures, c.start.ensures) at c.exchange_places-m.ensures.exchanged);
      holder = g.met.M.Places.same_holder_trans _ _ _ _ _ _ c.loop-col.invariant.holder c.exchange_places-m.ensures.holder more;
    }

pub returns-clause-exchanged : goal.returns-clause-exchanged
returns-clause-exchanged g c = let end : c.loop-col.col ≡ c.args.region.col_end = omega arith in rw end at c.loop-col.invariant.exchanged

pub exchange_places-m-requires-clause-apart : goal.exchange_places-m-requires-clause-apart
exchange_places-m-requires-clause-apart g c e =
    let same = one_place c.args.grid _ c.requires.ready c.args.row c.loop-col.col c.loop-col.col c.args.row (omega arith) (omega arith) (omega arith) (omega arith) (omega (arith, e, c.start-first.ensures, c.start.ensures)) in omega (arith, same.0)

pub exchange_places-m-requires-clause-first : goal.exchange_places-m-requires-clause-first
exchange_places-m-requires-clause-first g c =
    rw (c.start-first.ensures, c.loop-col.invariant.exchanged.same_length) (grid_room c.args.grid _ c.requires.ready c.args.row c.loop-col.col (omega arith) (omega arith))

pub exchange_places-m-requires-clause-second : goal.exchange_places-m-requires-clause-second
exchange_places-m-requires-clause-second g c =
    rw (c.start.ensures, c.loop-col.invariant.exchanged.same_length) (grid_room c.args.grid _ c.requires.ready c.loop-col.col c.args.row (omega arith) (omega arith))

-- Each turn of the loop exchanges one more row to the right of the diagonal.
use Rattle.std.proofs.Common.{◌≡◌, ◌+◌, ◌-◌, suc, arith}
use Rattle.p3_util_fast.proofs.GridLemmas.Parts.{SwapsInGrid-corner}
use Rattle.p3_util_kernels.proofs.BitsLemmas.Pairs.{square_swaps-next}
use Rattle.p3_util_fast.proofs.grid.exchange_on_diagonal.Goals as goal

pub loop-row-preserved : goal.loop-row-preserved
loop-row-preserved g c =
    let row = c.loop-row.row in
    let end = c.args.start + c.args.size in
    let less : end - row ≡ suc (end - (row + 1)) = omega arith in
    record {
      exchanged = SwapsInGrid-corner c.args.grid _ c.requires.ready c.args.start row end _ _ _ (omega arith) (omega arith) c.loop-row.invariant.exchanged c.exchange_row-m.ensures.exchanged;
      count = c.loop-row.invariant.count + (end - (row + 1));
      left = omega (arith, rw less at c.loop-row.invariant.left, square_swaps-next (end - (row + 1)));
      holder = g.met.M.Places.same_holder_trans _ _ _ _ _ _ c.loop-row.invariant.holder c.exchange_row-m.ensures.holder (omega arith);
    }

pub returns-clause-exchanged : goal.returns-clause-exchanged
returns-clause-exchanged g c =
    let all : c.loop-row.row ≡ c.args.start + c.args.size = omega arith in
    rw all at c.loop-row.invariant.exchanged

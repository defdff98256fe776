-- Each turn of the loop exchanges one more row of the region.
use Rattle.std.proofs.Common.{◌≡◌, ◌+◌, ◌-◌, ◌*◌, arith}
use Rattle.p3_util_kernels.specs.declared.transpose.region.Region.{Region}
use Rattle.p3_util_kernels.specs.Region.{cols_of}
use Rattle.p3_util_fast.proofs.GridLemmas.Parts.{cut_exchanged}
use Rattle.p3_util_kernels.proofs.TransposeLemmas.Region.{IsCut-rows}
use Rattle.p3_util_fast.proofs.grid.exchange_leaf.Goals as goal

pub loop-row-preserved : goal.loop-row-preserved
loop-row-preserved g c =
    let row = c.loop-row.row in
    let done : Region = record c.args.region { row_end = row + 1 } in
    let one : row + 1 - c.args.region.row_start ≡ row - c.args.region.row_start + 1 = omega arith in
    let w = c.args.grid.width in
    let n = cols_of c.args.region in
    let more : w * ((row - c.args.region.row_start) * n) + w * n ≡ w * ((row + 1 - c.args.region.row_start) * n) = rw one (omega arith) in
    record {
      exchanged = cut_exchanged c.args.grid _ c.requires.ready done _ _ _ _ _ (IsCut-rows done row (omega arith) (omega arith)) c.loop-row.invariant.exchanged c.exchange_row-m.ensures.exchanged;
      holder = g.met.M.Places.same_holder_trans _ _ _ _ _ _ c.loop-row.invariant.holder c.exchange_row-m.ensures.holder more;
    }

pub returns-clause-exchanged : goal.returns-clause-exchanged
returns-clause-exchanged g c = let end : c.loop-row.row ≡ c.args.region.row_end = omega arith in rw end at c.loop-row.invariant.exchanged

-- Each turn of the loop exchanges one more column of tiles.
use Rattle.std.proofs.Common.{◌≡◌, ◌+◌, ◌-◌, ◌*◌, arith}
use Rattle.p3_util_kernels.specs.declared.transpose.region.Region.{Region}
use Rattle.p3_util_kernels.specs.Region.{rows_of}
use Rattle.p3_util_fast.proofs.GridLemmas.Parts.{cut_exchanged, grid_fits}
use Rattle.p3_util_kernels.proofs.TransposeLemmas.Region.{IsCut-cols}
use Rattle.p3_util_fast.proofs.grid.exchange_leaf_tiles.Goals as goal

pub loop-tile-preserved : goal.loop-tile-preserved
loop-tile-preserved g c =
    let col = c.loop-tile.tile * 8 in
    let next : (c.loop-tile.tile + 1) * 8 ≡ col + 8 = omega arith in
    let done : Region = record c.args.region { col_end = col + 8 } in
    let wider : col + 8 - c.args.region.col_start ≡ col - c.args.region.col_start + 8 = omega arith in
    let more : rows_of c.args.region * (col - c.args.region.col_start) + rows_of c.args.region * 8 ≡ rows_of c.args.region * (col + 8 - c.args.region.col_start) = rw wider (omega arith) in
    record {
      exchanged = rw next (cut_exchanged c.args.grid _ c.requires.ready done _ _ _ _ _ (IsCut-cols done col (omega arith) (omega arith)) c.loop-tile.invariant.exchanged c.exchange_tile_column-m.ensures.exchanged);
      holder = rw next (g.met.M.Places.same_holder_trans _ _ _ _ _ _ c.loop-tile.invariant.holder c.exchange_tile_column-m.ensures.holder more);
    }

pub returns-clause-exchanged : goal.returns-clause-exchanged
returns-clause-exchanged g c = let end : c.loop-tile.tile * 8 ≡ c.args.region.col_end = omega (arith, c.requires.whole_col_start, c.requires.whole_col_end) in rw end at c.loop-tile.invariant.exchanged

pub exchange_tile_column-m-requires-clause-fits : goal.exchange_tile_column-m-requires-clause-fits
exchange_tile_column-m-requires-clause-fits g c = grid_fits c.args.grid _ c.requires.ready

-- Each turn of the loop exchanges one more tile.
use Rattle.std.proofs.Common.{◌≡◌, ◌+◌, ◌*◌, inr, arith}
use Rattle.p3_util_kernels.specs.declared.transpose.region.Region.{Region}
use Rattle.p3_util_fast.proofs.GridLemmas.Parts.{AreTiles-grid, SwapsInGrid-tile, cut_exchanged}
use Rattle.p3_util_kernels.proofs.TransposeLemmas.Region.{IsCut-rows}
use Rattle.p3_util_fast.proofs.grid.exchange_tile_column.Goals as goal

pub loop-tile-preserved : goal.loop-tile-preserved
loop-tile-preserved g c =
    let row = c.loop-tile.tile * 8 in
    let next : (c.loop-tile.tile + 1) * 8 ≡ row + 8 = omega arith in
    let done : Region = record c.args.region { row_end = row + 8; col_start = c.args.col; col_end = c.args.col + 8 } in
    let tile = SwapsInGrid-tile c.args.grid _ c.requires.ready row c.args.col _ _ _ _ _ c.requires.one (inr (omega arith)) c.requires.within c.tile_pair-in-loop-tile.ensures.rows c.tile_pair-in-loop-tile.ensures.cols (λ r c hr hc h. omega arith) c.exchange_tiles.ensures.exchanged in
    record {
      first = rw next c.start-below.ensures;
      exchanged = rw next (cut_exchanged c.args.grid _ c.requires.ready done _ _ _ _ _ (IsCut-rows done row (omega arith) (omega arith)) c.loop-tile.invariant.exchanged tile);
      holder = g.met.M.Places.same_holder_trans _ _ _ _ _ _ c.loop-tile.invariant.holder c.exchange_tiles.ensures.holder (omega arith);
    }

pub returns-clause-exchanged : goal.returns-clause-exchanged
returns-clause-exchanged g c = let end : c.loop-tile.tile * 8 ≡ c.args.region.row_end = omega (arith, c.requires.whole_start, c.requires.whole_end) in rw end at c.loop-tile.invariant.exchanged

pub exchange_tiles-requires : goal.exchange_tiles-requires
exchange_tiles-requires g c =
    let row = c.loop-tile.tile * 8 in
    rw c.loop-tile.invariant.exchanged.same_length (AreTiles-grid c.args.grid _ c.requires.ready row c.args.col _ _ c.requires.one (omega arith) c.requires.within c.tile_pair-in-loop-tile.ensures.rows c.tile_pair-in-loop-tile.ensures.cols)

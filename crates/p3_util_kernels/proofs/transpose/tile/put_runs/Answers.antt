-- Each turn of the loop adds one more column to the region.
use Rattle.std.proofs.Common.{◌≡◌, ◌+◌, ◌∙◌, arith}
use Rattle.p3_util_kernels.proofs.TransposeLemmas.Region.{IsRegionTransposed-cols}
use Rattle.p3_util_kernels.proofs.TransposeLemmas.Tiles.{cell_inside, region_of_column}
use Rattle.p3_util_kernels.proofs.transpose.tile.put_runs.Goals as goal

pub place_in-to-requires : goal.place_in-to-requires
place_in-to-requires g c =
    let tile = c.args.tile in
    let some = cell_inside (tile.col_start + c.loop-k.k) tile.row_start c.args.matrix.width c.args.matrix.height (omega (arith, c.requires.inside)) (omega (arith, c.requires.inside)) in
    omega (arith, some, c.requires.output_fits, c.loop-k.invariant.transposed.same_length)

pub put_run-requires-clause-room : goal.put_run-requires-clause-room
put_run-requires-clause-room g c =
    let tile = c.args.tile in
    let some = cell_inside (tile.col_start + c.loop-k.k) (tile.row_start + 15) c.args.matrix.width c.args.matrix.height (omega (arith, c.requires.inside)) (omega (arith, c.requires.inside)) in
    omega (arith, some, c.place_in-to.ensures, c.requires.output_fits, c.loop-k.invariant.transposed.same_length)

pub loop-k-preserved : goal.loop-k-preserved
loop-k-preserved g c =
    let tile = c.args.tile in
    let col = tile.col_start + c.loop-k.k in
    let next : tile.col_start + (c.loop-k.k + 1) ≡ col + 1 = omega arith in
    let here = c.loop-k-test.true in
    let to = c.place_in-to.ensures in
    record {
      transposed = rw next (IsRegionTransposed-cols tile c.args.matrix.width c.args.matrix.height _ _ _ _ col (col + 1) (omega arith) (omega arith)
          c.requires.inside.rows_inside c.loop-k.invariant.transposed
          (region_of_column tile c.args.matrix.width c.args.matrix.height col 16 (g.R.Source.items c.args.matrix.source) _ _ c.requires.rows c.put_run.ensures.same_length
          (λ t ht. rw to at c.put_run.ensures.places t ht ∙ c.requires.collected c.loop-k.k t here ht) (rw to at c.put_run.ensures.others)));
      holder = g.met.C.Cells.same_holder_trans _ _ _ _ _ _ c.loop-k.invariant.holder c.put_run.ensures.holder (omega arith);
    }

pub returns-clause-transposed : goal.returns-clause-transposed
returns-clause-transposed g c = let end : c.args.tile.col_start + c.loop-k.k ≡ c.args.tile.col_end = omega arith in rw end at c.loop-k.invariant.transposed

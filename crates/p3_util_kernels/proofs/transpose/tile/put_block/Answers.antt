-- Each turn of the loop adds one more column to the region.
use Rattle.std.proofs.Common.{◌≡◌, ℕ, ◌+◌, ◌*◌, ◌<◌, slice_get, ◌∙◌, arith}
use Rattle.p3_util_kernels.proofs.TransposeLemmas.Region.{IsRegionTransposed-cols}
use Rattle.p3_util_kernels.proofs.TransposeLemmas.Tiles.{region_of_column}
use Rattle.p3_util_kernels.proofs.transpose.tile.put_block.Goals as goal

pub place_in-to-requires : goal.place_in-to-requires
place_in-to-requires g c =
    let block = c.args.block in
    let some = c.requires.room (block.col_start + c.loop-k.k) block.row_start (omega arith) (omega arith) in
    omega (arith, some, c.loop-k.invariant.transposed.same_length)

pub put_run-requires-clause-room : goal.put_run-requires-clause-room
put_run-requires-clause-room g c =
    let block = c.args.block in
    let some = c.requires.room (block.col_start + c.loop-k.k) (block.row_start + 3) (omega arith) (omega arith) in
    omega (arith, some, c.place_in-to.ensures, c.loop-k.invariant.transposed.same_length)

pub loop-k-preserved : goal.loop-k-preserved
loop-k-preserved g c =
    let block = c.args.block in
    let col = block.col_start + c.loop-k.k in
    let next : block.col_start + (c.loop-k.k + 1) ≡ col + 1 = omega arith in
    let here = c.loop-k-test.true in
    let to = c.place_in-to.ensures in
    let read : (t : ℕ) → t < 4 → slice_get c.row_of-column.result t ≡ slice_get (g.R.Source.items c.args.matrix.source) ((block.row_start + t) * c.args.matrix.width + col) =
    λ t ht. rw (c.row_of-column.ensures t, c.butterfly_4x4-turned.ensures c.loop-k.k t here ht) (c.read_block.ensures t c.loop-k.k ht here) in
    record {
      transposed = rw next (IsRegionTransposed-cols block c.args.matrix.width c.args.matrix.height _ _ _ _ col (col + 1) (omega arith) (omega arith)
          c.requires.tall c.loop-k.invariant.transposed
          (region_of_column block c.args.matrix.width c.args.matrix.height col 4 (g.R.Source.items c.args.matrix.source) _ _ c.requires.rows c.put_run.ensures.same_length
          (λ t ht. let zero : 0 + t ≡ t = omega arith in rw zero at (rw to at c.put_run.ensures.places t ht) ∙ read t ht) (rw to at c.put_run.ensures.others)));
      holder = g.met.C.Cells.same_holder_trans _ _ _ _ _ _ c.loop-k.invariant.holder c.put_run.ensures.holder (omega arith);
    }

pub returns-clause-transposed : goal.returns-clause-transposed
returns-clause-transposed g c = let end : c.args.block.col_start + c.loop-k.k ≡ c.args.block.col_end = omega arith in rw end at c.loop-k.invariant.transposed

-- Each turn of the loop adds the rows of one more row of blocks to the region.
use Rattle.std.proofs.Common.{◌≡◌, ◌+◌, ◌*◌, arith}
use Rattle.p3_util_kernels.proofs.TransposeLemmas.Region.{IsRegionTransposed-rows}
use Rattle.p3_util_kernels.proofs.transpose.tile.put_rows_of_blocks.Goals as goal

-- a row of blocks lies in the tile
pub put_row_of_blocks-requires-clause-read : goal.put_row_of_blocks-requires-clause-read
put_row_of_blocks-requires-clause-read g c = rw c.with_rows-blocks.ensures (λ r k hr hk. c.requires.read r k (omega (arith, hr)) (omega (arith, hk)))

pub put_row_of_blocks-requires-clause-room : goal.put_row_of_blocks-requires-clause-room
put_row_of_blocks-requires-clause-room g c = rw c.with_rows-blocks.ensures (λ k r hk hr. omega (arith, c.loop-k.invariant.transposed.same_length, c.requires.room k r (omega (arith, hk)) (omega (arith, hr))))

pub loop-k-preserved : goal.loop-k-preserved
loop-k-preserved g c =
    let tile = c.args.tile in
    let row = tile.row_start + 4 * c.loop-k.k in
    let next : tile.row_start + 4 * (c.loop-k.k + 1) ≡ row + 4 = omega arith in
    record {
      transposed = rw next (IsRegionTransposed-rows tile _ _ _ _ _ _ row (row + 4) (omega arith) (omega arith) (omega arith)
          c.loop-k.invariant.transposed (rw c.with_rows-blocks.ensures at c.put_row_of_blocks.ensures.transposed));
      holder = g.met.C.Cells.same_holder_trans _ _ _ _ _ _ c.loop-k.invariant.holder c.put_row_of_blocks.ensures.holder (omega arith);
    }

pub returns-clause-transposed : goal.returns-clause-transposed
returns-clause-transposed g c = let end : c.args.tile.row_start + 4 * c.loop-k.k ≡ c.args.tile.row_end = omega arith in rw end at c.loop-k.invariant.transposed

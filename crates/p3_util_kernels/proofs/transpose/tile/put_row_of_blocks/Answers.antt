-- Each turn of the loop adds the columns of one more block to the region.
use Rattle.std.proofs.Common.{◌≡◌, ◌+◌, ◌*◌, arith}
use Rattle.p3_util_kernels.proofs.TransposeLemmas.Region.{IsRegionTransposed-cols}
use Rattle.p3_util_kernels.proofs.transpose.tile.put_row_of_blocks.Goals as goal

-- a block lies in its row of blocks
pub put_block-requires-clause-read : goal.put_block-requires-clause-read
put_block-requires-clause-read g c = rw c.with_cols-block.ensures (λ r k hr hk. c.requires.read r k (omega (arith, hr)) (omega (arith, hk)))

pub put_block-requires-clause-room : goal.put_block-requires-clause-room
put_block-requires-clause-room g c = rw c.with_cols-block.ensures (λ k r hk hr. omega (arith, c.loop-k.invariant.transposed.same_length, c.requires.room k r (omega (arith, hk)) (omega (arith, hr))))

pub loop-k-preserved : goal.loop-k-preserved
loop-k-preserved g c =
    let blocks = c.args.blocks in
    let col = blocks.col_start + 4 * c.loop-k.k in
    let next : blocks.col_start + 4 * (c.loop-k.k + 1) ≡ col + 4 = omega arith in
    record {
      transposed = rw next (IsRegionTransposed-cols blocks _ _ _ _ _ _ col (col + 4) (omega arith) (omega arith)
          c.requires.tall c.loop-k.invariant.transposed (rw c.with_cols-block.ensures at c.put_block.ensures.transposed));
      holder = g.met.C.Cells.same_holder_trans _ _ _ _ _ _ c.loop-k.invariant.holder c.put_block.ensures.holder (omega arith);
    }

pub returns-clause-transposed : goal.returns-clause-transposed
returns-clause-transposed g c = let end : c.args.blocks.col_start + 4 * c.loop-k.k ≡ c.args.blocks.col_end = omega arith in rw end at c.loop-k.invariant.transposed

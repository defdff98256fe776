-- The block is the region: its items are in the lists, and once it is put, the region is transposed.
use Rattle.p3_util_fast.proofs.BulkLemmas.Blocks.{BlockFits-region, IsRegionTransposed-block}
use Rattle.p3_util_fast.proofs.ways.put_as_block.Goals as goal

pub put_block-requires : goal.put_block-requires
put_block-requires g c = rw (c.rows.ensures, c.cols.ensures) (BlockFits-region c.args.region c.args.matrix.width c.args.matrix.height _ _ c.requires.ready)

pub returns-clause-transposed : goal.returns-clause-transposed
returns-clause-transposed g c =
    IsRegionTransposed-block c.args.region c.args.matrix.width c.args.matrix.height _ _ _ (rw (c.rows.ensures, c.cols.ensures) at c.put_block.ensures.put)

-- The columns of the block are put from the first to the last.
use Rattle.std.proofs.Common.{◌≡◌, ◌+◌, arith}
use Rattle.p3_util_fast.proofs.RegistersBlocks.{ColumnsPut-joined, IsBlockPut-whole}
use Rattle.p3_util_fast.proofs.registers.blocks.put_by_squares.Goals as goal

pub returns-then-SIDE-block-clause-put : goal.returns-then-SIDE-block-clause-put
returns-then-SIDE-block-clause-put g c =
    let side = g.D.Register.SIDE in
    let first : 0 + side ≡ side = omega arith in
    IsBlockPut-whole c.args.block (side + side) _ _ _ (grind (arith, c.requires.lines, c.requires.square, c.SIDE.ensures, c.if-SIDE-block.true))
    (ColumnsPut-joined c.args.block _ _ c.requires.block 0 side _ _ _ _ _ (omega arith) (omega arith) (rw first at c.put_squares.ensures.put) (rw c.SIDE-then-SIDE-block.ensures at c.put_squares-then-SIDE-block.ensures.put))

pub returns-else-SIDE-block-clause-put : goal.returns-else-SIDE-block-clause-put
returns-else-SIDE-block-clause-put g c =
    IsBlockPut-whole c.args.block (0 + g.D.Register.SIDE) _ _ _ (grind (arith, c.requires.lines, c.requires.square, c.SIDE.ensures, c.if-SIDE-block.false)) c.put_squares.ensures.put

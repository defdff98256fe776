-- The runs that are read are within the source.
use Rattle.std.proofs.Common.{rules, refl, arith}
use Rattle.p3_util_fast.proofs.RegistersBlocks.{run_inside}
use Rattle.p3_util_fast.proofs.registers.blocks.put_block_in_squares.Goals as goal

pub put_by_squares-requires-clause-reads : goal.put_by_squares-requires-clause-reads
put_by_squares-requires-clause-reads g c = λ r col hr hc.
    c.requires.reads _
    (run_inside c.args.block _ g.D.Register.SIDE r col c.requires.fits.inside (grind (arith, c.if-is_square.ensures.side refl, c.SIDE-side.ensures)) hr
    (omega (arith, hc, c.if-is_square.ensures.square refl)))

pub put_by_squares-requires-clause-block : goal.put_by_squares-requires-clause-block
put_by_squares-requires-clause-block g c = rw (c.requires.same, g.met.M.RunsOfCells.same_items c.args.cells.now) c.requires.fits

pub returns-then-is_square-clause-holder : goal.returns-then-is_square-clause-holder
returns-then-is_square-clause-holder g c = search rules

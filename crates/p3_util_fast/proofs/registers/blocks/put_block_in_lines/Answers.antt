-- The runs that are read are within the source.
use Rattle.std.proofs.Common.{inl, inr, refl, arith}
use Rattle.p3_util_fast.proofs.RegistersBlocks.{run_inside}
use Rattle.p3_util_fast.proofs.registers.blocks.put_block_in_lines.Goals as goal

pub is_of_lines-requires-clause-inside : goal.is_of_lines-requires-clause-inside
is_of_lines-requires-clause-inside g c = rw c.len-len.ensures c.requires.fits.inside

pub may_stream_lines-requires-clause-room : goal.may_stream_lines-requires-clause-room
may_stream_lines-requires-clause-room g c = rw g.met.M.RunsOfCells.same_items c.requires.fits.room

pub put_by_lines-requires-clause-block : goal.put_by_lines-requires-clause-block
put_by_lines-requires-clause-block g c = rw (c.requires.same, g.met.M.RunsOfCells.same_items) c.requires.fits

pub put_by_lines-requires-clause-reads : goal.put_by_lines-requires-clause-reads
put_by_lines-requires-clause-reads g c = λ r col hr hc.
    c.requires.reads _
    (elim hc [
      | inl first ↦ omega (arith, first, c.if-is_of_lines.ensures.inside refl r hr, c.SIDE-side.ensures, c.len-len.ensures)
      | inr within ↦ run_inside c.args.block _ g.D.Register.SIDE r col c.requires.fits.inside (grind (arith, c.if-is_of_lines.ensures.side refl, c.SIDE-side.ensures)) hr within
    ])

pub put_by_lines-requires-clause-inside : goal.put_by_lines-requires-clause-inside
put_by_lines-requires-clause-inside g c = rw c.requires.same (λ r h. omega (arith, c.if-is_of_lines.ensures.inside refl r h, c.SIDE-side.ensures, c.len-len.ensures))

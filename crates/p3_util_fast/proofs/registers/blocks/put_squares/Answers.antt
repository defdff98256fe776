-- The rows of the squares are read from the source, and their columns are put.
use Rattle.std.proofs.Common.{arith}
use Rattle.p3_util_fast.specs.Registers.{items_of_four}
use Rattle.p3_util_fast.proofs.RegistersBlocks.{AreDisjoint-block_to, ColumnsPut-step}
use Rattle.p3_util_fast.proofs.registers.blocks.put_squares.Goals as goal

pub starts-requires-clause-fits : goal.starts-requires-clause-fits
starts-requires-clause-fits g c r h = omega (arith, c.requires.source_len_fits, c.requires.block.inside r c.args.col h (omega (arith, c.requires.square)))

pub starts-requires-2-clause-fits : goal.starts-requires-2-clause-fits
starts-requires-2-clause-fits g c r h = omega (arith, c.requires.cells_len_fits, c.requires.block.room c.args.col r (omega arith) (omega (arith, c.requires.square)))

pub store-requires-clause-apart : goal.store-requires-clause-apart
store-requires-clause-apart g c =
    AreDisjoint-block_to _ c.args.block c.args.col _ _ c.requires.some_side c.requires.known c.requires.below c.requires.square c.requires.block _ _
    c.starts.ensures.are c.starts-2.ensures.are _ (rw c.SIDE.ensures at c.in_rows-to.ensures)

pub returns-clause-put : goal.returns-clause-put
returns-clause-put g c =
    ColumnsPut-step _ c.args.block c.args.col _ _ c.requires.some_side c.requires.known c.requires.below c.requires.square c.requires.block _ _
    c.starts.ensures.are c.starts-2.ensures.are _ (rw c.SIDE.ensures at c.in_rows-to.ensures)
    _ (items_of_four g.D.Register.items c.load_columns.result) _ _ _ c.in_columns-from.ensures c.load_columns.ensures c.store.ensures.stored

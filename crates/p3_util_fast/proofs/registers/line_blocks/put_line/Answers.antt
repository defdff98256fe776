-- The runs of both registers follow each other, within the cells of the column.
use Rattle.std.proofs.Common.{◌-◌, rules, arith}
use Rattle.p3_util_fast.proofs.RegistersLines.{IsRunStored-two}
use Rattle.p3_util_fast.proofs.registers.line_blocks.put_line.Goals as goal

pub returns-clause-stored : goal.returns-clause-stored
returns-clause-stored g c =
    rw c.requires.line
    (IsRunStored-two g.D.Register.SIDE _ _ _ _ _ _ (g.met.D.Register.full c.args.a) (rw c.SIDE-side.ensures at c.stream_two.ensures.stored) (rw c.SIDE-side.ensures at c.stream_two-2.ensures.stored))

pub overflow_mul-to : goal.overflow_mul-to
overflow_mul-to g c = omega (arith, c.requires.room 0 c.args.col (omega arith) c.requires.below, c.requires.len_fits)

pub overflow_add-to : goal.overflow_add-to
overflow_add-to g c = omega (arith, c.requires.room 0 c.args.col (omega arith) c.requires.below, c.requires.len_fits)

pub overflow_add-to-2 : goal.overflow_add-to-2
overflow_add-to-2 g c = omega (arith, c.requires.room (c.args.block.rows - 1) c.args.col (omega arith) c.requires.below, c.requires.len_fits)

pub overflow_add-to-3 : goal.overflow_add-to-3
overflow_add-to-3 g c = omega (arith, c.requires.room (c.args.block.rows - 1) c.args.col (omega arith) c.requires.below, c.requires.len_fits)

pub overflow_add-to-4 : goal.overflow_add-to-4
overflow_add-to-4 g c = omega (arith, c.requires.room (c.args.block.rows - 1) c.args.col (omega arith) c.requires.below, c.requires.len_fits)

pub stream_two-requires : goal.stream_two-requires
stream_two-requires g c = record { apart = search rules; first = grind (arith, c.requires.reached 0 (omega arith)); second = grind (arith, c.requires.reached 1 (omega arith)) }

pub stream_two-requires-2 : goal.stream_two-requires-2
stream_two-requires-2 g c = record { apart = search rules; first = grind (arith, c.requires.reached 2 (omega arith)); second = grind (arith, c.requires.reached 3 (omega arith)) }

-- A block with as many columns as rows has `side` items of each row.
use Rattle.std.proofs.Common.{◌-◌, arith}
use Rattle.p3_util_fast.proofs.registers.blocks.is_of_lines.Goals as goal

pub returns-then-block-clause-inside : goal.returns-then-block-clause-inside
returns-then-block-clause-inside c is r hr =
    omega (arith, hr, c.requires.inside r (c.args.side - 1) hr (omega (arith, hr, c.if-block.true, c.if-block-side.false)))

pub overflow_mul-result : goal.overflow_mul-result
overflow_mul-result c = omega (arith, c.requires.inside (c.args.block.rows - 1) 0 (omega arith) (omega arith))

pub overflow_add-result : goal.overflow_add-result
overflow_add-result c = omega (arith, c.requires.inside (c.args.block.rows - 1) 0 (omega arith) (omega arith))

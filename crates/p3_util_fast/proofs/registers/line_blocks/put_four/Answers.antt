-- Two registers have the four items of the column.
use Rattle.std.proofs.Common.{◌≡◌, ◌+◌, ◌*◌, inr, refl, arith}
use Rattle.p3_util_fast.proofs.RegistersLines.{ColumnsPut-line, column_of_two, of_pair}
use Rattle.p3_util_fast.proofs.registers.line_blocks.put_four.Goals as goal

pub load_two-a-requires-clause-first : goal.load_two-a-requires-clause-first
load_two-a-requires-clause-first g c = grind (arith, c.requires.reads 0 c.args.col (omega (arith, c.requires.lines)) (inr (omega (arith, c.requires.side, c.requires.below))))

pub load_two-a-requires-clause-second : goal.load_two-a-requires-clause-second
load_two-a-requires-clause-second g c = grind (arith, c.requires.reads 1 c.args.col (omega (arith, c.requires.lines)) (inr (omega (arith, c.requires.side, c.requires.below))))

pub load_two-b-requires-clause-first : goal.load_two-b-requires-clause-first
load_two-b-requires-clause-first g c = grind (arith, c.requires.reads 2 c.args.col (omega (arith, c.requires.lines)) (inr (omega (arith, c.requires.side, c.requires.below))))

pub load_two-b-requires-clause-second : goal.load_two-b-requires-clause-second
load_two-b-requires-clause-second g c = grind (arith, c.requires.reads 3 c.args.col (omega (arith, c.requires.lines)) (inr (omega (arith, c.requires.side, c.requires.below))))

pub returns-clause-put : goal.returns-clause-put
returns-clause-put g c =
    let width = c.args.block.width in
    let from = c.args.block.from + c.args.col in
    let one = c.requires.side in
    ColumnsPut-line c.args.block c.args.block.rows _ from c.args.col _ _ _ _ refl refl refl c.put_line.ensures.stored
    (λ r h. column_of_two 2 from width _ _ _ (omega (arith, one, g.met.D.Register.full c.load_two-a.result))
    (of_pair from (from + width) width _ _ refl (rw one at c.load_two-a.ensures))
    (λ r h.
    let at : from + 2 * width + r * width ≡ from + (2 + r) * width = omega arith in
    rw at at (of_pair (from + 2 * width) (from + 3 * width) width _ _ (omega arith) (rw one at c.load_two-b.ensures) r h))
    r (omega (arith, c.requires.lines, h)))

pub overflow_add-from : goal.overflow_add-from
overflow_add-from g c = omega (arith, c.requires.source_len_fits, c.requires.block.inside 3 c.args.col (omega arith) c.requires.below)

pub overflow_add-from-2 : goal.overflow_add-from-2
overflow_add-from-2 g c = omega (arith, c.requires.source_len_fits, c.requires.block.inside 3 c.args.col (omega arith) c.requires.below)

pub overflow_add-from-3 : goal.overflow_add-from-3
overflow_add-from-3 g c = omega (arith, c.requires.source_len_fits, c.requires.block.inside 3 c.args.col (omega arith) c.requires.below)

pub overflow_add-from-4 : goal.overflow_add-from-4
overflow_add-from-4 g c = omega (arith, c.requires.source_len_fits, c.requires.block.inside 3 c.args.col (omega arith) c.requires.below)

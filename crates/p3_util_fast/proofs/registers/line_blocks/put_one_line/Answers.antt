-- The first column that is in registers is put.
use Rattle.std.proofs.Common.{◌≡◌, ◌+◌, inl, refl, arith}
use Rattle.p3_util_fast.specs.Registers.{items_of_four}
use Rattle.p3_util_fast.proofs.RegistersLines.{ColumnsPut-of_8, ColumnsPut-of_16}
use Rattle.p3_util_fast.proofs.registers.line_blocks.put_one_line.Goals as goal

pub load_lines-top-requires-clause-reached : goal.load_lines-top-requires-clause-reached
load_lines-top-requires-clause-reached g c r h = grind (arith, c.requires.reads r 0 (grind (arith, c.requires.lines, c.requires.some_side)) (inl refl))

pub load_lines-bottom-requires-clause-reached : goal.load_lines-bottom-requires-clause-reached
load_lines-bottom-requires-clause-reached g c r h =
    let half : g.D.Register.SIDE ≡ 4 = grind (arith, c.requires.some_side, c.SIDE-side.ensures, c.if-side-eq2.false) in
    grind (arith, c.requires.reads (8 + r) 0 (omega (arith, half, c.requires.lines)) (inl refl))

pub returns-then-side-eq2-clause-put : goal.returns-then-side-eq2-clause-put
returns-then-side-eq2-clause-put g c =
    let first : c.args.block.from ≡ c.args.block.from + 0 = omega arith in
    ColumnsPut-of_8 g.D.Register.SIDE 0 0 c.args.block.cols c.args.block _ _ _ _ _ c.requires.lines (g.met.D.Register.full _) (omega (arith, c.requires.one)) c.put_line.ensures.stored
    (rw c.SIDE-side.ensures at c.if-side-eq2.true) (items_of_four g.D.Register.items c.load_lines-top.result) (rw first at c.load_lines-top.ensures) 0 (omega arith) (omega arith) (λ r. refl) (λ r. refl)

pub returns-clause-put : goal.returns-clause-put
returns-clause-put g c =
    let half : g.D.Register.SIDE ≡ 4 = grind (arith, c.requires.some_side, c.SIDE-side.ensures, c.if-side-eq2.false) in
    let first : c.args.block.from ≡ c.args.block.from + 0 = omega arith in
    ColumnsPut-of_16 g.D.Register.SIDE 0 0 c.args.block.cols c.args.block _ _ _ _ _ c.requires.lines (g.met.D.Register.full _) (omega (arith, c.requires.one)) c.put_line-2.ensures.stored
    half (items_of_four g.D.Register.items c.load_lines-top.result) (items_of_four g.D.Register.items c.load_lines-bottom.result) (rw first at c.load_lines-top.ensures) (rw first at c.load_lines-bottom.ensures) 0 (omega arith) (omega arith) (λ r. refl) (λ r. refl)

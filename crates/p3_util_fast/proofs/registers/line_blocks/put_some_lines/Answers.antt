-- The columns that are in registers are put from the first to the last.
use Rattle.std.proofs.Common.{◌≡◌, ◌+◌, inr, refl, arith}
use Rattle.p3_util_fast.specs.Registers.{items_of_four}
use Rattle.p3_util_fast.proofs.RegistersBlocks.{ColumnsPut-joined, run_inside}
use Rattle.p3_util_fast.proofs.RegistersLines.{ColumnsPut-of_8, ColumnsPut-of_16}
use Rattle.p3_util_fast.proofs.RegistersSteps.{four_times}
use Rattle.p3_util_fast.proofs.registers.line_blocks.put_some_lines.Goals as goal

pub load_lines-top-requires-clause-inside : goal.load_lines-top-requires-clause-inside
load_lines-top-requires-clause-inside g c r h =
    omega (arith, run_inside c.args.block _ g.D.Register.SIDE r c.args.col c.requires.block.inside (grind (arith, c.requires.some_side)) (grind (arith, c.requires.lines, c.requires.some_side)) c.requires.below)

pub load_lines-top-requires-clause-reached : goal.load_lines-top-requires-clause-reached
load_lines-top-requires-clause-reached g c r h = grind (arith, c.requires.reads r c.args.col (grind (arith, c.requires.lines, c.requires.some_side)) (inr c.requires.below))

pub overflow_add-from : goal.overflow_add-from
overflow_add-from g c = grind (arith, c.requires.some_side, c.requires.block.inside 0 c.args.col)

pub overflow_mul-block : goal.overflow_mul-block
overflow_mul-block g c =
    let half : g.D.Register.SIDE ≡ 4 = grind (arith, c.requires.some_side, c.SIDE-side.ensures, c.if-side-eq2.false) in
    omega (arith, c.requires.source_len_fits, c.requires.block.inside 8 0 (omega (arith, half, c.requires.lines)) (omega (arith, half, c.requires.below)))

pub overflow_add-from-2 : goal.overflow_add-from-2
overflow_add-from-2 g c =
    let half : g.D.Register.SIDE ≡ 4 = grind (arith, c.requires.some_side, c.SIDE-side.ensures, c.if-side-eq2.false) in
    omega (arith, c.requires.source_len_fits, c.requires.block.inside 8 c.args.col (omega (arith, half, c.requires.lines)) (omega (arith, half, c.requires.below)))

pub load_lines-bottom-requires-clause-inside : goal.load_lines-bottom-requires-clause-inside
load_lines-bottom-requires-clause-inside g c r h =
    let half : g.D.Register.SIDE ≡ 4 = grind (arith, c.requires.some_side, c.SIDE-side.ensures, c.if-side-eq2.false) in
    omega (arith, half, c.requires.block.inside (8 + r) (c.args.col + 3) (omega (arith, half, c.requires.lines)) (omega (arith, half, c.requires.below)))

pub load_lines-bottom-requires-clause-reached : goal.load_lines-bottom-requires-clause-reached
load_lines-bottom-requires-clause-reached g c r h =
    let half : g.D.Register.SIDE ≡ 4 = grind (arith, c.requires.some_side, c.SIDE-side.ensures, c.if-side-eq2.false) in
    grind (arith, c.requires.reads (8 + r) c.args.col (omega (arith, half, c.requires.lines)) (inr c.requires.below))

pub put_line-requires-5-clause-room : goal.put_line-requires-5-clause-room
put_line-requires-5-clause-room g c r d h k =
    omega (arith, c.requires.block.room r d h k, c.put_line-2.ensures.stored.same_length, c.put_line-3.ensures.stored.same_length, c.put_line-4.ensures.stored.same_length)

pub returns-then-side-eq2-clause-put : goal.returns-then-side-eq2-clause-put
returns-then-side-eq2-clause-put g c =
    let half = rw c.SIDE-side.ensures at c.if-side-eq2.true in
    let lines = items_of_four g.D.Register.items c.load_lines-top.result in
    rw half
    (ColumnsPut-joined c.args.block _ _ c.requires.block c.args.col (c.args.col + 1) (c.args.col + 2) _ _ _ _ (omega arith) (omega arith)
    (ColumnsPut-of_8 g.D.Register.SIDE c.args.col (c.args.col) (c.args.col + 1) c.args.block _ _ _ _ _ c.requires.lines (g.met.D.Register.full _) (omega arith) c.put_line.ensures.stored half lines c.load_lines-top.ensures 0 (omega arith) (omega arith) (λ r. refl) (λ r. refl))
    (ColumnsPut-of_8 g.D.Register.SIDE c.args.col (c.args.col + 1) (c.args.col + 2) c.args.block _ _ _ _ _ c.requires.lines (g.met.D.Register.full _) (omega arith) c.put_line-then-side-eq2.ensures.stored half lines c.load_lines-top.ensures 1 (omega arith) (omega arith) (λ r. refl) (λ r. refl)))

pub returns-clause-put : goal.returns-clause-put
returns-clause-put g c =
    let half : g.D.Register.SIDE ≡ 4 = grind (arith, c.requires.some_side, c.SIDE-side.ensures, c.if-side-eq2.false) in
    let top = items_of_four g.D.Register.items c.load_lines-top.result in
    let bottom = items_of_four g.D.Register.items c.load_lines-bottom.result in
    rw half
    (ColumnsPut-joined c.args.block _ _ c.requires.block c.args.col (c.args.col + 3) (c.args.col + 4) _ _ _ _ (omega arith) (omega arith)
    (ColumnsPut-joined c.args.block _ _ c.requires.block c.args.col (c.args.col + 2) (c.args.col + 3) _ _ _ _ (omega arith) (omega arith)
    (ColumnsPut-joined c.args.block _ _ c.requires.block c.args.col (c.args.col + 1) (c.args.col + 2) _ _ _ _ (omega arith) (omega arith)
    (ColumnsPut-of_16 g.D.Register.SIDE c.args.col (c.args.col) (c.args.col + 1) c.args.block _ _ _ _ _ c.requires.lines (g.met.D.Register.full _) (omega arith) c.put_line-2.ensures.stored half top bottom c.load_lines-top.ensures c.load_lines-bottom.ensures 0 (omega arith) (omega arith) (λ r. refl) (λ r. refl))
    (ColumnsPut-of_16 g.D.Register.SIDE c.args.col (c.args.col + 1) (c.args.col + 2) c.args.block _ _ _ _ _ c.requires.lines (g.met.D.Register.full _) (omega arith) c.put_line-3.ensures.stored half top bottom c.load_lines-top.ensures c.load_lines-bottom.ensures 1 (omega arith) (omega arith) (λ r. refl) (λ r. refl)))
    (ColumnsPut-of_16 g.D.Register.SIDE c.args.col (c.args.col + 2) (c.args.col + 3) c.args.block _ _ _ _ _ c.requires.lines (g.met.D.Register.full _) (omega arith) c.put_line-4.ensures.stored half top bottom c.load_lines-top.ensures c.load_lines-bottom.ensures 2 (omega arith) (omega arith) (λ r. refl) (λ r. refl)))
    (ColumnsPut-of_16 g.D.Register.SIDE c.args.col (c.args.col + 3) (c.args.col + 4) c.args.block _ _ _ _ _ c.requires.lines (g.met.D.Register.full _) (omega arith) c.put_line-5.ensures.stored half top bottom c.load_lines-top.ensures c.load_lines-bottom.ensures 3 (omega arith) (omega arith) (λ r. refl) (λ r. refl)))

pub returns-clause-holder : goal.returns-clause-holder
returns-clause-holder g c =
    let half : g.D.Register.SIDE ≡ 4 = grind (arith, c.requires.some_side, c.SIDE-side.ensures, c.if-side-eq2.false) in
    rw half
    (four_times _ g.M.Runs.same_holder g.met.M.Runs.same_holder_trans c.args.block.rows _ _ _ _ _ _ c.put_line-2.ensures.holder c.put_line-3.ensures.holder c.put_line-4.ensures.holder c.put_line-5.ensures.holder (omega arith))

-- Each turn of the loop puts some more columns.
use Rattle.std.proofs.Common.{◌≡◌, ◌+◌, ◌*◌, ◌∙◌, refl, arith}
use Rattle.p3_util_fast.proofs.RegistersBlocks.{ColumnsPut-joined, IsBlockPut-whole}
use Rattle.p3_util_fast.proofs.registers.line_blocks.put_by_lines.Goals as goal
use Rattle.p3_util_fast.proofs.registers.line_blocks.put_by_lines.Goals.{then-side-eq1, else-side-eq1}

pub returns-then-block-eq1-clause-put : goal.returns-then-block-eq1-clause-put
returns-then-block-eq1-clause-put g c = IsBlockPut-whole c.args.block _ _ _ _ refl c.put_one_line.ensures.put

pub loop-part-preserved : goal.loop-part-preserved
loop-part-preserved g c =
    let col = c.loop-part.part * c.SIDE-side.result in
    let next = (c.loop-part.part + 1) * c.SIDE-side.result in
    let before = c.loop-part.invariant in
    let join = ColumnsPut-joined c.args.block _ _ c.requires.block 0 col next in
    elim c.if-side-eq1.branch [
      | then-side-eq1 w ↦
          let start : c.loop-part.part ≡ col = rw w.if-side-eq1.true (omega arith) in
          let end : col + 1 ≡ next = rw w.if-side-eq1.true (omega arith) in
          record {
            put = rw w.cells-is (join _ _ _ _ (omega arith) (omega arith) before.put (rw (start, end) at w.put_four.ensures.put));
            reach = rw w.cells-is (w.put_four.ensures.reach ∙ before.reach);
            holder = rw w.cells-is (g.met.M.Runs.same_holder_trans _ _ _ _ _ _ before.holder w.put_four.ensures.holder (rw w.if-side-eq1.true (omega arith)));
          }
      | else-side-eq1 w ↦
          let end : col + g.D.Register.SIDE ≡ next = omega (arith, c.SIDE-side.ensures) in
          record {
            put = rw w.cells-is (join _ _ _ _ (omega arith) (omega arith) before.put (rw end at w.put_some_lines.ensures.put));
            reach = rw w.cells-is (w.put_some_lines.ensures.reach ∙ before.reach);
            holder = rw w.cells-is (g.met.M.Runs.same_holder_trans _ _ _ _ _ _ before.holder w.put_some_lines.ensures.holder (rw (← end) (omega arith)));
          }
    ]

pub returns-clause-put : goal.returns-clause-put
returns-clause-put g c =
    let whole : c.args.block.cols ≡ c.loop-part.part * c.SIDE-side.result = grind (arith, c.requires.some_side, c.requires.cols, c.requires.lines, c.SIDE-side.ensures, c.else-side-gt1.branch) in
    IsBlockPut-whole c.args.block _ _ _ _ whole c.loop-part.invariant.put

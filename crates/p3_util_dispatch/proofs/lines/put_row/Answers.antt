-- Each turn of a loop puts some more columns one line further.
use Rattle.std.proofs.Common.{◌≡◌, ◌+◌, inl, inr, refl, sym, ◌∙◌, arith}
use Rattle.p3_util_dispatch.specs.Lines.{limit}
use Rattle.p3_util_dispatch.proofs.LinesLemmas.{IsRowPutTo-all, IsRowPutTo-more, IsRowPutTo-none, limit-alike, limit-whole}
use Rattle.p3_util_dispatch.proofs.lines.put_row.Goals as goal
use Rattle.p3_util_dispatch.proofs.lines.put_row.Goals.{then-step-eq0+else-loop-col-test, else-step-eq0}

pub loop-col-init : goal.loop-col-init
loop-col-init g c = IsRowPutTo-none _ _ _ _ _ _ _ _ _ _ c.requires.ready.inside.cols_in_order

pub loop-col-preserved : goal.loop-col-preserved
loop-col-preserved g c =
    let region = c.args.region in
    let lines = c.args.lines in
    let done = c.args.rows_done in
    let order = c.requires.ready.inside.rows_in_order in
    let from = c.limit-from.result in
    let col = c.loop-col.col in
    let end = col + lines.cells in
    let left : from ≡ limit region lines.cells lines.before c.args.step done col =
    c.limit-from.ensures ∙ sym (limit-alike region lines.cells lines.before c.args.step order done region.col_start end col (inl c.if-step-eq0.true) (omega arith) (omega arith)) in
    let right : from + lines.cells ≡ limit region lines.cells lines.before c.args.step (done + lines.cells) col =
    omega (arith, left, limit-whole region lines.cells lines.before c.args.step order done col (c.requires.from col) c.requires.to) in
    IsRowPutTo-more region _ _ _ _ _ _ _ _ _ lines.cells lines.before c.args.step done from (from + lines.cells) col end order c.requires.ready.inside.rows_inside (omega arith) (omega arith)
    (inl c.if-step-eq0.true) left right c.loop-col.invariant (rw (c.with_known_sides.ensures, c.with_cols-line.ensures, c.with_rows.ensures) at c.put_as_block-out.ensures.transposed)
    (λ n all old first. g.met.M.Cells.same_holder_trans _ _ _ _ _ _ first (rw (c.with_known_sides.ensures, c.with_cols-line.ensures, c.with_rows.ensures) at c.put_as_block-out.ensures.holder))

pub loop-col-2-init : goal.loop-col-2-init
loop-col-2-init g c =
    elim c.if-step-eq0.branch [
      | then-step-eq0+else-loop-col-test w ↦ rw (w.out-is, w.col-is) w.loop-col.invariant
      | else-step-eq0 w ↦ rw (w.out-is, w.col-is) (IsRowPutTo-none _ _ _ _ _ _ _ _ _ _ c.requires.ready.inside.cols_in_order)
    ]

pub loop-col-2-preserved : goal.loop-col-2-preserved
loop-col-2-preserved g c =
    let region = c.args.region in
    let lines = c.args.lines in
    let done = c.args.rows_done in
    let order = c.requires.ready.inside.rows_in_order in
    let from = c.limit-from-in-loop-col-2.result in
    let col = c.loop-col-2.col in
    let right : from + lines.cells ≡ limit region lines.cells lines.before c.args.step (done + lines.cells) col =
    omega (arith, c.limit-from-in-loop-col-2.ensures, limit-whole region lines.cells lines.before c.args.step order done col (c.requires.from col) c.requires.to) in
    IsRowPutTo-more region _ _ _ _ _ _ _ _ _ lines.cells lines.before c.args.step done from (from + lines.cells) col (col + 1) order c.requires.ready.inside.rows_inside (omega arith) (omega arith)
    (inr refl) c.limit-from-in-loop-col-2.ensures right c.loop-col-2.invariant
    (rw (c.with_known_sides-in-loop-col-2.ensures, c.with_cols-line-in-loop-col-2.ensures, c.with_rows-in-loop-col-2.ensures) at c.put_as_block-out-in-loop-col-2.ensures.transposed)
    (λ n all old first. g.met.M.Cells.same_holder_trans _ _ _ _ _ _ first (rw (c.with_known_sides-in-loop-col-2.ensures, c.with_cols-line-in-loop-col-2.ensures, c.with_rows-in-loop-col-2.ensures) at c.put_as_block-out-in-loop-col-2.ensures.holder))

pub returns : goal.returns
returns g c = IsRowPutTo-all _ _ _ _ _ _ _ _ _ _ _ _ _ c.loop-col-2.invariant (omega arith)

-- Each turn of the loop puts one more column one line further. Columns that begin at the same cell of a line are put together.
use Rattle.std.proofs.Common.{◌≡◌, ℕ, ◌+◌, ◌<◌, ◌≤◌, inl, inr, refl, arith}
use Rattle.p3_util_dispatch.specs.Lines.{limit}
use Rattle.p3_util_dispatch.proofs.LinesLemmas.{IsPutTo-same, IsRowPutTo-all, IsRowPutTo-more, IsRowPutTo-none, ahead, ahead-still, items_to-same, limit-more}
use Rattle.p3_util_dispatch.proofs.lines.put_edge_row.Goals as goal
use Rattle.p3_util_dispatch.proofs.lines.put_edge_row.Goals.{then-from-to, else-from-to}

pub loop-col-init : goal.loop-col-init
loop-col-init g c = IsRowPutTo-none _ _ _ _ _ _ _ _ _ _ c.requires.ready.inside.cols_in_order

pub loop-col-preserved : goal.loop-col-preserved
loop-col-preserved g c =
    let region = c.args.region in
    let lines = c.args.lines in
    let order = c.requires.ready.inside.rows_in_order in
    let done = c.args.rows_done in
    let from = c.limit-from-in-loop-col.result in
    let to = c.limit-to-in-loop-col.result in
    let col = c.loop-col.col in
    let f : ℕ → ℕ = limit region lines.cells lines.before c.args.step done in
    let next : ℕ → ℕ = limit region lines.cells lines.before c.args.step (done + lines.cells) in
    elim c.if-from-to.branch [
      | then-from-to w ↦
          rw w.out-is
          (IsRowPutTo-more region _ _ _ _ _ _ _ _ _ lines.cells lines.before c.args.step done from to col (col + 1) order c.requires.ready.inside.rows_inside (omega arith) (omega arith)
          (inr refl) c.limit-from-in-loop-col.ensures c.limit-to-in-loop-col.ensures c.loop-col.invariant (rw (w.with_cols-part.ensures, w.with_rows-then-from-to.ensures) at w.put_as_block-out.ensures.transposed)
          (λ n all old first. g.met.M.Cells.same_holder_trans _ _ _ _ _ _ first (rw (w.with_cols-part.ensures, w.with_rows-then-from-to.ensures) at w.put_as_block-out.ensures.holder)))
      | else-from-to w ↦
          let more : f col ≤ next col = limit-more region lines.cells lines.before c.args.step order done (done + lines.cells) col (omega arith) in
          let equal : f col ≡ next col = omega (arith, w.if-from-to.false, c.limit-from-in-loop-col.ensures, c.limit-to-in-loop-col.ensures, more) in
          let same : (x : ℕ) → region.col_start ≤ x → x < region.col_end → ahead (col + 1) f next x ≡ ahead col f next x = λ x lower upper. ahead-still col f next x equal in
          record {
            from = omega arith;
            to = omega arith;
            same_length = rw w.out-is c.loop-col.invariant.same_length;
            put = rw w.out-is (λ old put. IsPutTo-same region _ _ _ _ _ old _ same (c.loop-col.invariant.put old put));
            steps = rw w.out-is (λ old holder. rw (items_to-same region (ahead col f next) (ahead (col + 1) f next) same) (c.loop-col.invariant.steps old holder));
          }
    ]

pub returns-then-step-eq0 : goal.returns-then-step-eq0
returns-then-step-eq0 g c =
    let region = c.args.region in
    IsRowPutTo-all _ _ _ _ _ _ _ _ _ _ _ _ _
    (IsRowPutTo-more region c.args.matrix.width c.args.matrix.height (g.R.Source.items c.args.matrix.source) _ _ (g.M.Cells.items c.put.result) (λ n old. g.M.Cells.same_holder n old c.args.out) _ (λ n old. g.M.Cells.same_holder n old c.put.result)
    c.args.lines.cells c.args.lines.before c.args.step c.args.rows_done c.limit-from.result c.limit-to.result region.col_start region.col_end c.requires.ready.inside.rows_in_order c.requires.ready.inside.rows_inside c.requires.some_cols (omega arith)
    (inl c.if-step-eq0.true) c.limit-from.ensures c.limit-to.ensures (IsRowPutTo-none _ _ _ _ _ _ _ _ _ _ c.requires.ready.inside.cols_in_order) (rw c.with_rows.ensures at c.put.ensures.transposed)
    (λ n all old first. g.met.M.Cells.same_holder_trans _ _ _ _ _ _ first (rw c.with_rows.ensures at c.put.ensures.holder)))
    refl

pub returns : goal.returns
returns g c = IsRowPutTo-all _ _ _ _ _ _ _ _ _ _ _ _ _ c.loop-col.invariant (omega arith)

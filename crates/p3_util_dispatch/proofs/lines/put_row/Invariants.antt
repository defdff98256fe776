use Rattle.std.proofs.Common.{◌-◌}
use Rattle.p3_util_dispatch.proofs.LinesLemmas.{IsRowPutTo}
use Rattle.p3_util_dispatch.proofs.lines.put_row.Given as goal

-- the columns before `col` are put one line further
abbrev pub invariant-loop-col : goal.invariant-loop-col
invariant-loop-col g l =
    IsRowPutTo l.region l.col l.lines.cells l.lines.before l.step l.rows_done l.matrix.width l.matrix.height (g.R.Source.items l.matrix.source)
    (g.M.Cells.items l.fn.out) (g.M.Cells.items l.out) (λ n old. g.M.Cells.same_holder n old l.fn.out) (λ n old. g.M.Cells.same_holder n old l.out)

abbrev pub decreases-loop-col : goal.decreases-loop-col
decreases-loop-col g l = l.region.col_end - l.col

-- the same, in the columns that no block has
abbrev pub invariant-loop-col-2 : goal.invariant-loop-col-2
invariant-loop-col-2 g l =
    IsRowPutTo l.region l.col l.lines.cells l.lines.before l.step l.rows_done l.matrix.width l.matrix.height (g.R.Source.items l.matrix.source)
    (g.M.Cells.items l.fn.out) (g.M.Cells.items l.out) (λ n old. g.M.Cells.same_holder n old l.fn.out) (λ n old. g.M.Cells.same_holder n old l.out)

abbrev pub decreases-loop-col-2 : goal.decreases-loop-col-2
decreases-loop-col-2 g l = l.region.col_end - l.col

-- A region that has all rows and all columns is put by the whole call.
use Rattle.std.proofs.Common.{rules, arith}
use Rattle.p3_util_dispatch.proofs.WholeMatrix.{whole_items, whole_put}
use Rattle.p3_util_dispatch.proofs.calls.transpose_region.Goals as goal

pub returns-then-cols-matrix-clause-transposed : goal.returns-then-cols-matrix-clause-transposed
returns-then-cols-matrix-clause-transposed g c =
    whole_put c.args.region c.args.matrix.width c.args.matrix.height _ _ _ (omega arith) (omega arith) (omega arith) (omega arith)
    c.requires.output_fits c.transpose_whole.ensures.order

pub returns-then-cols-matrix-clause-holder : goal.returns-then-cols-matrix-clause-holder
returns-then-cols-matrix-clause-holder g c =
    rw (whole_items c.args.region c.args.matrix.width c.args.matrix.height (omega arith) (omega arith) (omega arith) (omega arith))
    c.transpose_whole.ensures.holder

pub returns-else-rows-matrix-clause-transposed : goal.returns-else-rows-matrix-clause-transposed
returns-else-rows-matrix-clause-transposed g c = search rules

pub returns-else-rows-matrix-clause-holder : goal.returns-else-rows-matrix-clause-holder
returns-else-rows-matrix-clause-holder g c = search rules

-- The whole matrix has width * height items.
use Rattle.std.proofs.Common.{◌≡◌, ◌-◌, mul_comm, arith}
use Rattle.p3_util_fast.proofs.slice_forms.matrix.transpose_matrix.Goals as goal

pub returns-clause-holder : goal.returns-clause-holder
returns-clause-holder g c =
    let rows : c.args.matrix.height - 0 ≡ c.args.matrix.height = omega arith in
    let cols : c.args.matrix.width - 0 ≡ c.args.matrix.width = omega arith in
    rw (c.whole-whole.ensures, rows, cols, mul_comm c.args.matrix.height c.args.matrix.width) at c.put.ensures.holder

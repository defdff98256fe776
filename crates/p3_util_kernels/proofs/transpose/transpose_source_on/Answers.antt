-- No matrix needs more than 57 levels.
use Rattle.std.proofs.Common.{◌≡◌, ◌-◌, ◌*◌, mul_comm, arith}
use Rattle.p3_util_kernels.specs.Region.{LiesInMatrix, items_of}
use Rattle.p3_util_kernels.proofs.TransposeLemmas.Halves.{region_levels}
use Rattle.p3_util_kernels.proofs.transpose.transpose_source_on.Goals as goal

pub transpose_source_split_on-requires-clause-enough : goal.transpose_source_split_on-requires-clause-enough
transpose_source_split_on-requires-clause-enough g c =
    let lies : LiesInMatrix c.whole-whole.result c.args.width c.args.height = rw (c.whole-whole.ensures, c.new-matrix.ensures.height, c.new-matrix.ensures.width) (grind arith) in
    omega (arith, region_levels c.whole-whole.result c.args.width c.args.height lies (omega arith) (omega arith) (omega (arith, c.requires.input_fits)))

pub returns-else-items-le-REGION_ITEMS-clause-holder : goal.returns-else-items-le-REGION_ITEMS-clause-holder
returns-else-items-le-REGION_ITEMS-clause-holder g c =
    let high : c.args.height - 0 ≡ c.args.height = omega arith in
    let wide : c.args.width - 0 ≡ c.args.width = omega arith in
    let all : items_of c.whole-whole.result ≡ c.args.width * c.args.height = rw (c.whole-whole.ensures, c.new-matrix.ensures.height, c.new-matrix.ensures.width, high, wide) (mul_comm c.args.height c.args.width) in
    rw all at c.transpose_source_split_on.ensures.holder

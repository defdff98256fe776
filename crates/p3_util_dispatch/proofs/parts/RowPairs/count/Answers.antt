-- The number of patches fits in a usize.
use Rattle.std.proofs.Common.{arith}
use Rattle.p3_util_dispatch.proofs.PatchesLemmas.{patches-few}
use Rattle.p3_util_dispatch.proofs.parts.RowPairs.count.Goals as goal

pub overflow_mul-result : goal.overflow_mul-result
overflow_mul-result c =
    let pairs = c.args.self in
    rw (c.pairs.ensures, c.pow2.ensures, pairs.side) (omega (arith, patches-few pairs.rows.digits pairs.cut.part_len (rw pairs.side at pairs.few)))

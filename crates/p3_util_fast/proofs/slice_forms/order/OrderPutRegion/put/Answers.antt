-- 64 levels are enough for the splits of a region.
use Rattle.std.proofs.Common.{arith}
use Rattle.p3_util_kernels.proofs.TransposeLemmas.Halves.{region_levels}
use Rattle.p3_util_fast.proofs.slice_forms.order.OrderPutRegion.put.Goals as goal

pub put_split-out-requires-clause-enough : goal.put_split-out-requires-clause-enough
put_split-out-requires-clause-enough g c =
    omega (arith, region_levels c.args.region c.args.matrix.width c.args.matrix.height c.requires.ready.inside (omega arith) (omega arith) c.requires.ready.len_fits)

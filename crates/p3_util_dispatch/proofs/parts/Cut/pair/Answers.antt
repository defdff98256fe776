-- The pair that is computed from a number has that number.
use Rattle.std.proofs.Common.{arith}
use Rattle.p3_util_dispatch.proofs.CutParts.{pair-number}
use Rattle.p3_util_dispatch.proofs.parts.Cut.pair.Goals as goal

pub returns-clause-number : goal.returns-clause-number
returns-clause-number c =
    pair-number _ c.args.number _ _ _ c.requires.below (omega (arith, c.pairs.ensures)) (rw c.count-count.ensures.count at c.min.ensures)
    (rw c.count-count.ensures.count at c.max.ensures)

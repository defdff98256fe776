-- The table gives the exponent, and a power of three has only one.
use Rattle.std.proofs.Common.{sym, ◌∙◌, arith}
use Rattle.p3_util_kernels.proofs.BitsLemmas.HasLogs.{power_of_three}
use Rattle.p3_util_kernels.proofs.BitsLemmas.Powers.{three-only, three-pos, three-strict}
use Rattle.p3_util_kernels.proofs.bits.log3_strict_usize.Goals as goal

pub ilog2-top-requires : goal.ilog2-top-requires
ilog2-top-requires c = let power = power_of_three _ c.requires in omega (arith, three-pos power.0, power.1)

pub returns-clause-power : goal.returns-clause-power
returns-clause-power c =
    three-strict _ _ _ c.ilog2-top.ensures.power_le c.ilog2-top.ensures.next_power_gt c.exponent_of_three.ensures.found (power_of_three _ c.requires)

pub returns-clause-only : goal.returns-clause-only
returns-clause-only c e is = three-only _ e (sym (returns-clause-power c) ∙ is)

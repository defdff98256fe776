-- The number of digits of n - 1 is the least exponent whose power is at least n.
use Rattle.std.proofs.Common.{pow_pos, arith}
use Rattle.p3_util_kernels.proofs.BitsLemmas.Logarithms.{below_double, clog_only, tight_below}
use Rattle.p3_util_kernels.proofs.BitsLemmas.Powers.{digits_above, digits_least}
use Rattle.p3_util_kernels.proofs.bits.log2_ceil_usize.Goals as goal

pub returns-clause-enough : goal.returns-clause-enough
returns-clause-enough c = omega (arith, digits_above 64 c.saturating_sub.result c.saturating_sub.type_inv)

pub returns-clause-least : goal.returns-clause-least
returns-clause-least c e enough = digits_least 64 _ e c.saturating_sub.type_inv (omega (arith, pow_pos e))

pub returns-clause-counted : goal.returns-clause-counted
returns-clause-counted c = clog_only _ _ (returns-clause-enough c) (returns-clause-least c)

pub returns-clause-near : goal.returns-clause-near
returns-clause-near c = below_double _ _ (returns-clause-least c)

pub returns-clause-tight : goal.returns-clause-tight
returns-clause-tight c = tight_below _ _ (returns-clause-least c)

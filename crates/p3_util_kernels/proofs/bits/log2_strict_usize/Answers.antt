-- The place of the lowest digit 1 of a power of two is its exponent.
use Rattle.std.proofs.Common.{◌^◌, ◌≤◌, ◌∙◌, ap, sym, arith}
use Rattle.p3_util_kernels.proofs.BitsLemmas.Logarithms.{clog_power}
use Rattle.p3_util_kernels.proofs.BitsLemmas.HasLogs.{power_of_two}
use Rattle.p3_util_kernels.proofs.BitsLemmas.Powers.{exponent-lt, lowest-power}
use Rattle.p3_util_kernels.proofs.bits.log2_strict_usize.Goals as goal

pub returns-clause-power : goal.returns-clause-power
returns-clause-power c =
    let power = power_of_two _ c.requires in
    power.1 ∙ ap (λ e. 2 ^ e) (sym (lowest-power c.args.n power.0 power.1 c.ranges.n.fits))

pub returns-clause-counted : goal.returns-clause-counted
returns-clause-counted c =
    let power = power_of_two _ c.requires in
    lowest-power c.args.n power.0 power.1 c.ranges.n.fits ∙ sym (clog_power c.args.n power.0 power.1)

pub returns-clause-bound : goal.returns-clause-bound
returns-clause-bound c =
    let power = power_of_two _ c.requires in
    let digits : power.0 ≤ 63 = exponent-lt power.0 63 (rw power.1 at c.ranges.n.fits) in
    omega (arith, lowest-power c.args.n power.0 power.1 c.ranges.n.fits)

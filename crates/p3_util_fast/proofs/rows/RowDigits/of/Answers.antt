-- A list without items has no digits. Otherwise the number of rows is a power of two, whose
-- exponent is the number of digits.
use Rattle.std.proofs.Common.{sym, arith}
use Rattle.p3_util_kernels.proofs.ReverseLemmas.Lengths.{no_digits}
use Rattle.p3_util_fast.proofs.rows.RowDigits.of.Goals as goal

pub returns-then-len-eq0-clause-digits : goal.returns-then-len-eq0-clause-digits
returns-then-len-eq0-clause-digits c = sym (no_digits c.args.len c.args.width c.if-len-eq0.true)

pub log2_strict_usize-digits-requires : goal.log2_strict_usize-digits-requires
log2_strict_usize-digits-requires c = grind arith

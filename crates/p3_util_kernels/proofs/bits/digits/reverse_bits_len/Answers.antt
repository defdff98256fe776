-- The shifted digits are the reversed low digits, by the laws of digit reversal.
use Rattle.std.proofs.Common.{◌∙◌, arith}
use Rattle.p3_util_kernels.proofs.BitsLemmas.Digits.{rev_word-shr, rev-rev, rev-lt, rev_word-above, rev_word-twice}
use Rattle.p3_util_kernels.proofs.bits.digits.reverse_bits_len.Goals as goal

pub returns-clause-reversed : goal.returns-clause-reversed
returns-clause-reversed c = rev_word-shr _ _ _ _ c.reverse_u64-reversed.ensures (λ none. omega arith) (λ some. omega arith)

pub returns-clause-digits : goal.returns-clause-digits
returns-clause-digits c some = returns-clause-reversed c ∙ rev_word-above _ _ some

pub returns-clause-below : goal.returns-clause-below
returns-clause-below c some = rw (returns-clause-digits c some) (rev-lt c.args.bit_len c.args.x)

pub returns-clause-inverse : goal.returns-clause-inverse
returns-clause-inverse c some = rw (returns-clause-digits c some) (rev-rev c.args.bit_len c.args.x)

pub returns-clause-twice : goal.returns-clause-twice
returns-clause-twice c = rev_word-twice _ _ _ (returns-clause-reversed c)

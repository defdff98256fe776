use Rattle.std.proofs.Common.{ℕ, zero, suc, ◌≡◌, ◌^◌, ◌<◌, ◌∙◌, ap, arith}
use Rattle.p3_util_kernels.specs.Digits.{rev, rev_word}
use Rattle.p3_util_kernels.proofs.BitsLemmas.Digits.{rev-lt, rev-of-zero, rev_word-above, rev_word-zero}
use Rattle.p3_util_kernels.proofs.BitsLemmas.HasLogs.{power_of_two}
use Rattle.p3_util_kernels.proofs.BitsLemmas.Powers.{lowest-power}
use Rattle.p3_util_kernels.proofs.bits.digits.reverse_bits.Goals as goal

-- The reverse of a number of k digits is a number of k digits. This also holds if k is 0, where
-- `rev_word` reverses all 64 digits.
reversed_below : (k n x r : ℕ) → n ≡ 2 ^ k → r ≡ rev_word k x → x < n → r < n
reversed_below zero n x r is e h =
    let none : x ≡ 0 = omega arith in
    let whole : r ≡ 0 = e ∙ rev_word-zero x ∙ ap (rev 64) none ∙ rev-of-zero 64 in
    omega arith
reversed_below (suc k) n x r is e h = rw (is, e, rev_word-above (suc k) x (omega arith)) (rev-lt (suc k) x)

pub returns-clause-reversed : goal.returns-clause-reversed
returns-clause-reversed c k is = c.reverse_bits_len.ensures.reversed ∙ ap (λ e. rev_word e c.args.x) (lowest-power c.args.n k is c.ranges.n.fits)

pub returns-clause-digits : goal.returns-clause-digits
returns-clause-digits c k some is = returns-clause-reversed c k is ∙ rev_word-above k c.args.x some

pub returns-clause-below : goal.returns-clause-below
returns-clause-below c =
    let (k, is) = power_of_two c.args.n c.requires in
    reversed_below k _ _ _ is (returns-clause-reversed c k is)

-- The three passes together reverse the list, and their swaps add up.
use Rattle.std.proofs.Common.{◌≡◌, ◌+◌, ◌-◌, ◌/◌, ◌∙◌, refl, sym, arith}
use Rattle.p3_util_kernels.proofs.ReverseLemmas.LongPath.{IsReversal-composed}
use Rattle.p3_util_kernels.proofs.ReverseLemmas.Reversal.{reversed_place}
use Rattle.p3_util_kernels.proofs.ReverseLemmas.SwapCounts.{long_bound}
use Rattle.p3_util_kernels.proofs.reverse.reverse_index_bits_long.Goals as goal

pub returns-clause-order : goal.returns-clause-order
returns-clause-order g c =
    let digits = c.log2_strict_usize-digits.result in
    let whole : digits / 2 + (digits - digits / 2) ≡ digits = omega arith in
    IsReversal-composed (digits / 2) (digits - digits / 2) (omega arith) (omega arith) _ _ _ _
    (rw whole (sym c.len.ensures ∙ c.log2_strict_usize-digits.ensures.power))
    c.reverse_chunks_on.ensures.order c.transpose_squares_on.ensures.transposed c.reverse_chunks_on-2.ensures.order

pub returns-clause-at : goal.returns-clause-at
returns-clause-at g c =
    let digits = c.log2_strict_usize-digits.result in
    let whole : digits / 2 + (digits - digits / 2) ≡ digits = omega arith in
    let order = IsReversal-composed (digits / 2) (digits - digits / 2) (omega arith) (omega arith) _ _ _ _
    (rw whole (sym c.len.ensures ∙ c.log2_strict_usize-digits.ensures.power))
    c.reverse_chunks_on.ensures.order c.transpose_squares_on.ensures.transposed c.reverse_chunks_on-2.ensures.order in
    λ k i. reversed_place k i _ _ order

pub returns-clause-count : goal.returns-clause-count
returns-clause-count g c =
    rw (← c.len.ensures, ← c.log2_strict_usize-digits.ensures.counted)
    (omega (arith, c.reverse_chunks_on.ensures.count, c.transpose_squares_on.ensures.count, c.reverse_chunks_on-2.ensures.count))

pub returns-clause-bound : goal.returns-clause-bound
returns-clause-bound g c = long_bound _ c.requires.fits c.requires.not_short

pub returns-clause-holder : goal.returns-clause-holder
returns-clause-holder g c =
    let trans = g.met.S.Places.same_holder_trans in
    rw (← c.len.ensures, ← c.log2_strict_usize-digits.ensures.counted)
    (trans _ _ _ _ _ _ (trans _ _ _ _ _ _ c.reverse_chunks_on.ensures.holder c.transpose_squares_on.ensures.holder refl) c.reverse_chunks_on-2.ensures.holder (omega arith))

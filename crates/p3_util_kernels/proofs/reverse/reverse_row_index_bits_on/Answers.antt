-- A list that is not empty has rows, whose number is a power of two.
use Rattle.std.proofs.Common.{◌≡◌, ℕ, inl, refl, sym, ◌∙◌, arith}
use Rattle.p3_util_kernels.specs.SwapCounts.{row_swaps}
use Rattle.p3_util_kernels.proofs.ReverseLemmas.Lengths.{IsDigitsOfRows-from, no_digits}
use Rattle.p3_util_kernels.proofs.ReverseLemmas.SwapCounts.{rows_bound}
use Rattle.p3_util_kernels.proofs.reverse.reverse_row_index_bits_on.Goals as goal

-- an empty list takes no swaps
none : (n row_width : ℕ) → n ≡ 0 → row_swaps n row_width ≡ 0
none n row_width e = rw (no_digits n row_width e) (omega arith)

pub returns-then-len-eq0-clause-count : goal.returns-then-len-eq0-clause-count
returns-then-len-eq0-clause-count g c =
    rw (none _ c.args.row_width (sym c.len-len.ensures ∙ c.if-len-eq0.true)) (omega (arith, c.args.m.now.count_fits))

pub returns-then-len-eq0-clause-bound : goal.returns-then-len-eq0-clause-bound
returns-then-len-eq0-clause-bound g c = rows_bound _ _ c.requires

pub returns-then-len-eq0-clause-holder : goal.returns-then-len-eq0-clause-holder
returns-then-len-eq0-clause-holder g c =
    rw (none _ c.args.row_width (sym c.len-len.ensures ∙ c.if-len-eq0.true)) (g.met.S.Places.same_holder_refl _)

pub log2_strict_usize-requires : goal.log2_strict_usize-requires
log2_strict_usize-requires g c =
    let rows = IsDigitsOfRows-from _ _ _ (λ e. c.if-len-eq0.false (c.len-len.ensures ∙ e)) c.requires refl in
    rw c.len-len.ensures (inl (_, rows.rows))

pub swap_rows-requires-clause-rows : goal.swap_rows-requires-clause-rows
swap_rows-requires-clause-rows g c =
    (IsDigitsOfRows-from _ _ c.log2_strict_usize.result (λ e. c.if-len-eq0.false (c.len-len.ensures ∙ e)) c.requires (rw c.len-len.ensures at c.log2_strict_usize.ensures.counted)).whole

pub returns-clause-at : goal.returns-clause-at
returns-clause-at g c = c.swap_rows.ensures.order.places

pub returns-clause-count : goal.returns-clause-count
returns-clause-count g c = rw (← c.len-len.ensures, ← c.log2_strict_usize.ensures.counted) c.swap_rows.ensures.count

pub returns-clause-bound : goal.returns-clause-bound
returns-clause-bound g c = rows_bound _ _ c.requires

pub returns-clause-holder : goal.returns-clause-holder
returns-clause-holder g c = rw (← c.len-len.ensures, ← c.log2_strict_usize.ensures.counted) c.swap_rows.ensures.holder

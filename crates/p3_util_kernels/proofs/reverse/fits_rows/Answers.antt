-- The number of rows decides, by the lemmas on lengths of rows.
use Rattle.std.proofs.Common.{eqb-true}
use Rattle.p3_util_kernels.proofs.ReverseLemmas.Lengths.{FitsRows-one, FitsRows-quotient, FitsRows-whole}
use Rattle.p3_util_kernels.proofs.reverse.fits_rows.Goals as goal

pub returns-then-len-row_width-eq0-clause-rows : goal.returns-then-len-row_width-eq0-clause-rows
returns-then-len-row_width-eq0-clause-rows c =
    rw c.is_power_of_two.ensures (FitsRows-quotient _ _ c.if-len-eq0.false c.if-row_width-eq0.false c.if-len-row_width-eq0.true)

pub returns-then-len-row_width-eq0-clause-items : goal.returns-then-len-row_width-eq0-clause-items
returns-then-len-row_width-eq0-clause-items c one =
    let rows = FitsRows-quotient _ _ c.if-len-eq0.false c.if-row_width-eq0.false c.if-len-row_width-eq0.true in
    let items = FitsRows-one _ _ one in
    rw c.is_power_of_two.ensures (λ yes. items.0 (rows.0 yes), λ fits. rows.1 (items.1 fits))

pub returns-else-len-row_width-eq0-clause-rows : goal.returns-else-len-row_width-eq0-clause-rows
returns-else-len-row_width-eq0-clause-rows c = (
  λ yes. absurd (c.if-len-row_width-eq0.false (eqb-true _ _ yes)),
  λ fits. absurd (c.if-len-row_width-eq0.false (FitsRows-whole _ _ c.if-row_width-eq0.false fits)),
)

-- A list that has items has rows.
use Rattle.std.proofs.Common.{arith}
use Rattle.p3_util_kernels.proofs.ReverseLemmas.Lengths.{IsDigitsOfRows-from}
use Rattle.p3_util_dispatch.proofs.parts.RowPairs.new.Goals as goal

pub returns-clause-rows : goal.returns-clause-rows
returns-clause-rows c some =
    let rows = IsDigitsOfRows-from c.args.len c.args.row_width c.of-rows.result.digits (λ e. omega (arith, e, some)) c.requires c.of-rows.ensures.digits in
    (rows.wide, rows.whole)

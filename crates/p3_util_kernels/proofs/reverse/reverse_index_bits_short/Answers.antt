-- Single items are rows of one item.
use Rattle.std.proofs.Common.{◌≡◌, ℕ, ◌/◌, arith, rules}
use Rattle.p3_util_kernels.specs.Logarithms.{clog}
use Rattle.p3_util_kernels.specs.SwapCounts.{row_swaps, short_swaps}
use Rattle.p3_util_kernels.proofs.ReverseLemmas.Lengths.{rows_of_one}
use Rattle.p3_util_kernels.proofs.ReverseLemmas.Reversal.{reversed_place}
use Rattle.p3_util_kernels.proofs.ReverseLemmas.SwapCounts.{short_bound}
use Rattle.p3_util_kernels.proofs.reverse.reverse_index_bits_short.Goals as goal

-- as many swaps as rows of one item take
as_rows : (n : ℕ) → row_swaps n 1 ≡ short_swaps (clog n)
as_rows n = let items : n / 1 ≡ n = omega arith in rw items (omega arith)

pub reverse_row_index_bits_on-requires : goal.reverse_row_index_bits_on-requires
reverse_row_index_bits_on-requires g c = rows_of_one _ c.requires

pub returns-clause-at : goal.returns-clause-at
returns-clause-at g c = search (rules, reversed_place)

pub returns-clause-count : goal.returns-clause-count
returns-clause-count g c = rw (← as_rows _) c.reverse_row_index_bits_on.ensures.count

pub returns-clause-bound : goal.returns-clause-bound
returns-clause-bound g c = short_bound _ c.requires

pub returns-clause-holder : goal.returns-clause-holder
returns-clause-holder g c = rw (← as_rows _) c.reverse_row_index_bits_on.ensures.holder

-- Reversing twice gives the list back.
use Rattle.std.proofs.Common.{rules}
use Rattle.p3_util_kernels.proofs.ReverseLemmas.Reversal.{row_reversed_back}
use Rattle.p3_util_fast.proofs.slice_forms.reverse_slice_row_index_bits.Goals as goal

pub returns-clause-inverse : goal.returns-clause-inverse
returns-clause-inverse g c = let inverse = row_reversed_back _ _ _ c.reverse_items.ensures.order in search (rules, inverse)

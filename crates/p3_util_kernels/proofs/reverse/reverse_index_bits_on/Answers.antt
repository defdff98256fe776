-- The facts of any reversal, for this one.
use Rattle.std.proofs.Common.{arith}
use Rattle.std.proofs.lemmas.Grind.{common_steps}
use Rattle.p3_util_kernels.proofs.ReverseLemmas.Reversal.{reversed_place}
use Rattle.p3_util_kernels.proofs.ReverseLemmas.SwapCounts.{reversal_bound}
use Rattle.p3_util_kernels.proofs.reverse.reverse_index_bits_on.Goals as goal

pub returns-clause-at : goal.returns-clause-at
returns-clause-at g c = λ k i. reversed_place k i _ _ (grind (arith, common_steps))

pub returns-clause-bound : goal.returns-clause-bound
returns-clause-bound g c = reversal_bound _ c.requires

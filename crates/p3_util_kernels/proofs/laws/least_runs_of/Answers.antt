-- The laws on the least numbers of steps are the lemmas of `LawsLemmas.Least`.
use Rattle.p3_util_kernels.proofs.LawsLemmas.Least.{swaps-change, puts-change, palindromes, least-reversal, least-square, least-puts, reversal-differs, square-differs}
use Rattle.p3_util_kernels.proofs.laws.least_runs_of.Goals as goal

pub returns : goal.returns
returns g c = record {
  swaps_change = swaps-change;
  puts_change = puts-change;
  palindromes = palindromes;
  reversal = least-reversal;
  square = least-square;
  puts = least-puts;
  reversal_differs = reversal-differs;
  square_differs = square-differs;
}

-- The two parts are a cut of the region.
use Rattle.std.proofs.Common.{arith}
use Rattle.p3_util_kernels.proofs.TransposeLemmas.Region.{IsCut-cols}
use Rattle.p3_util_kernels.proofs.transpose.region.Region.cut_cols.Goals as goal

pub returns-clause-cut : goal.returns-clause-cut
returns-clause-cut c = grind (arith, IsCut-cols)

-- Each place of the region is in exactly one of the two parts. So the second split leaves what the
-- first one put, and both together put as many items as the region has.
use Rattle.std.proofs.Common.{rules}
use Rattle.p3_util_kernels.proofs.TransposeLemmas.Region.{IsRegionTransposed-cut}
use Rattle.p3_util_kernels.proofs.transpose.split.+transpose_source_split_on.Goals as goal

pub returns-clause-transposed : goal.returns-clause-transposed
returns-clause-transposed g t c =
    IsRegionTransposed-cut c.args.width c.args.height _ c.args.region _ _ _ _ _ c.requires.inside.rows_inside (search rules) c.transpose_source_split_on-nested.ensures.transposed c.transpose_source_split_on-nested_after.ensures.transposed

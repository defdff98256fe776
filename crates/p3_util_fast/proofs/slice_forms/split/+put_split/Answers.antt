-- The recursion of the split. Its measure is the number of levels that remain.
use Rattle.std.proofs.Common.{rules, arith}
use Rattle.p3_util_kernels.specs.Region.{cols_of, rows_of}
use Rattle.p3_util_kernels.proofs.TransposeLemmas.Halves.{region_levels}
use Rattle.p3_util_kernels.proofs.TransposeLemmas.Levels.{nest_le}
use Rattle.p3_util_kernels.proofs.TransposeLemmas.Region.{IsRegionTransposed-cut}
use Rattle.p3_util_fast.proofs.slice_forms.split.+put_split.Goals as goal

-- Each place of the region is in exactly one of its halves. So the second half leaves what the
-- first one put, and both together put as many items as the region has.
pub returns-clause-transposed : goal.returns-clause-transposed
returns-clause-transposed g t c =
    IsRegionTransposed-cut c.args.matrix.width c.args.matrix.height _ c.args.region c.cut_in_half.result.0 c.cut_in_half.result.1 _ _ _ c.requires.ready.inside.rows_inside c.cut_in_half.ensures.cut
    c.put_split-out.ensures.transposed c.put_split-out-2.ensures.transposed

-- One split, and then the splits of the half that nests deeper, give the depth of the region. It is
-- at most 57 if the places of the matrix fit in a usize.
pub returns-clause-bound : goal.returns-clause-bound
returns-clause-bound g t c =
    omega (
      arith,
      c.cut_in_half.ensures.nested,
      nest_le (rows_of c.args.region) (cols_of c.args.region),
      region_levels c.args.region c.args.matrix.width c.args.matrix.height c.requires.ready.inside (omega arith) (omega arith) (omega arith),
    )

pub returns-clause-nested : goal.returns-clause-nested
returns-clause-nested g t c = search rules

-- The cells of the region are put, and the others stay.
use Rattle.std.proofs.Common.{rules}
use Rattle.p3_util_kernels.proofs.TransposeLemmas.Region.{region_stay}
use Rattle.p3_util_kernels.proofs.transpose.region.transpose_region_on.Goals as goal

pub returns-clause-put : goal.returns-clause-put
returns-clause-put g c x y top bottom left right =
    let put = c.put_region.ensures.transposed.places x y (record { row_from = top; row_to = bottom; col_from = left; col_to = right }) in search (rules, put)

pub returns-clause-stay : goal.returns-clause-stay
returns-clause-stay g c =
    let put = rw (c.new.ensures.height, c.new.ensures.width) at c.put_region.ensures.transposed in
    region_stay _ _ _ _ _ _ put c.requires.inside.rows_inside

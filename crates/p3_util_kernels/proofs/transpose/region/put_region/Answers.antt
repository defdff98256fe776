-- The region is cut into its whole tiles, the right edge, the bottom edge and the corner.
use Rattle.std.proofs.Common.{arith}
use Rattle.p3_util_kernels.proofs.TransposeLemmas.Region.{IsRegionTransposed-cut}
use Rattle.p3_util_kernels.proofs.transpose.region.put_region.Goals as goal

pub returns-clause-transposed : goal.returns-clause-transposed
returns-clause-transposed g c =
    IsRegionTransposed-cut c.args.matrix.width c.args.matrix.height _ c.args.region c.cut_rows.result.0 c.cut_rows.result.1 _ _ _ c.requires.inside.rows_inside c.cut_rows.ensures.cut
    (IsRegionTransposed-cut c.args.matrix.width c.args.matrix.height _ c.cut_rows.result.0 c.cut_cols.result.0 c.cut_cols.result.1 _ _ _ (omega (arith, c.requires.inside, c.cut_rows.ensures.cut.first_inside)) c.cut_cols.ensures.cut c.put_tiles.ensures.transposed c.put_plain.ensures.transposed)
    (IsRegionTransposed-cut c.args.matrix.width c.args.matrix.height _ c.cut_rows.result.1 c.cut_cols-2.result.0 c.cut_cols-2.result.1 _ _ _ (omega (arith, c.requires.inside, c.cut_rows.ensures.cut.second_inside)) c.cut_cols-2.ensures.cut c.put_plain-2.ensures.transposed c.put_plain-3.ensures.transposed)

pub returns-clause-count : goal.returns-clause-count
returns-clause-count g c =
    omega (
      arith,
      c.cut_rows.ensures.cut.items,
      c.cut_cols.ensures.cut.items,
      c.cut_cols-2.ensures.cut.items,
      c.put_tiles.ensures.count,
      c.put_plain.ensures.count,
      c.put_plain-2.ensures.count,
      c.put_plain-3.ensures.count,
    )

pub returns-clause-holder : goal.returns-clause-holder
returns-clause-holder g c =
    let trans = g.met.C.Cells.same_holder_trans in
    trans _ _ _ _ _ _
    (trans _ _ _ _ _ _ c.put_tiles.ensures.holder c.put_plain.ensures.holder c.cut_cols.ensures.cut.items)
    (trans _ _ _ _ _ _ c.put_plain-2.ensures.holder c.put_plain-3.ensures.holder c.cut_cols-2.ensures.cut.items)
    c.cut_rows.ensures.cut.items

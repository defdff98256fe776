-- Each turn of the loop adds one more column to the region.
use Rattle.std.proofs.Common.{◌≡◌, ◌+◌, ◌-◌, ◌*◌, arith}
use Rattle.p3_util_kernels.proofs.TransposeLemmas.Region.{IsRegionTransposed-cols}
use Rattle.p3_util_kernels.proofs.TransposeLemmas.Tiles.{cols_in_two}
use Rattle.p3_util_kernels.proofs.transpose.region.put_columns.Goals as goal

pub loop-x-preserved : goal.loop-x-preserved
loop-x-preserved g c =
    let x = c.loop-x.x in
    let one : x + 1 - x ≡ 1 = omega arith in
    let rows = c.args.region.row_end - c.args.region.row_start in
    let two = cols_in_two c.args.region.col_start x (x + 1) (c.args.region.row_end - c.args.region.row_start) (omega arith) (omega arith) in
    let more : rows * (x - c.args.region.col_start) + rows ≡ rows * (x + 1 - c.args.region.col_start) = omega (arith, rw one at two) in
    let put = rw c.with_cols.ensures at c.put_column.ensures in
    record {
      transposed = IsRegionTransposed-cols c.args.region _ _ _ _ _ _ x (x + 1) (omega arith) (omega arith) c.requires.inside.rows_inside c.loop-x.invariant.transposed put.transposed;
      count = omega (arith, more, c.loop-x.invariant.count, put.count);
      holder = g.met.C.Cells.same_holder_trans _ _ _ _ _ _ c.loop-x.invariant.holder put.holder more;
    }

pub returns-clause-transposed : goal.returns-clause-transposed
returns-clause-transposed g c = let end : c.loop-x.x ≡ c.args.region.col_end = omega (arith, c.requires.inside.cols_in_order) in rw end at c.loop-x.invariant.transposed

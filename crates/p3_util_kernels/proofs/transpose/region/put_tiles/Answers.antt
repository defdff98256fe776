-- Each turn of the loop adds one more row of tiles to the region.
use Rattle.std.proofs.Common.{◌-◌, ◌≡◌, ◌+◌, ◌*◌, arith}
use Rattle.p3_util_kernels.proofs.TransposeLemmas.Region.{IsRegionTransposed-rows}
use Rattle.p3_util_kernels.proofs.TransposeLemmas.Tiles.{rows_in_two}
use Rattle.p3_util_kernels.proofs.transpose.region.put_tiles.Goals as goal

pub loop-k-preserved : goal.loop-k-preserved
loop-k-preserved g c =
    let tiles = c.args.tiles in
    let row = tiles.row_start + 16 * c.loop-k.k in
    let next : tiles.row_start + 16 * (c.loop-k.k + 1) ≡ row + 16 = omega arith in
    let more = rows_in_two tiles.row_start row (row + 16) (tiles.col_end - tiles.col_start) (omega arith) (omega arith) in
    let put = rw c.with_rows-row.ensures at c.put_row_of_tiles.ensures in
    record {
      transposed = rw next (IsRegionTransposed-rows tiles _ _ _ _ _ _ row (row + 16) (omega arith) (omega arith) (omega (arith, c.requires.inside.rows_inside))
          c.loop-k.invariant.transposed put.transposed);
      count = rw next (omega (arith, c.loop-k.invariant.count, put.count, more));
      holder = rw next (g.met.C.Cells.same_holder_trans _ _ _ _ _ _ c.loop-k.invariant.holder put.holder more);
    }

pub returns : goal.returns
returns g c =
    let end : c.args.tiles.row_start + 16 * c.loop-k.k ≡ c.args.tiles.row_end = omega (arith, c.requires) in
    let all = rw end at c.loop-k.invariant in
    record { transposed = all.transposed; count = all.count; holder = all.holder }

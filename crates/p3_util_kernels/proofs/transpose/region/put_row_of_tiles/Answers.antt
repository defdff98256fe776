-- Each turn of the loop adds one more tile to the region.
use Rattle.std.proofs.Common.{◌-◌, ◌≡◌, ◌+◌, ◌*◌, arith}
use Rattle.p3_util_kernels.proofs.TransposeLemmas.Region.{IsRegionTransposed-cols}
use Rattle.p3_util_kernels.proofs.TransposeLemmas.Tiles.{cols_in_two}
use Rattle.p3_util_kernels.proofs.transpose.region.put_row_of_tiles.Goals as goal

pub loop-k-preserved : goal.loop-k-preserved
loop-k-preserved g c =
    let tiles = c.args.tiles in
    let col = tiles.col_start + 16 * c.loop-k.k in
    let next : tiles.col_start + 16 * (c.loop-k.k + 1) ≡ col + 16 = omega arith in
    let more = cols_in_two tiles.col_start col (col + 16) (tiles.row_end - tiles.row_start) (omega arith) (omega arith) in
    let put = rw c.with_cols-tile.ensures at c.put_tile.ensures in
    record {
      transposed = rw next (IsRegionTransposed-cols tiles _ _ _ _ _ _ col (col + 16) (omega arith) (omega arith) c.requires.inside.rows_inside
          c.loop-k.invariant.transposed put.transposed);
      count = rw next (omega (arith, c.loop-k.invariant.count, put.count, more));
      holder = rw next (g.met.C.Cells.same_holder_trans _ _ _ _ _ _ c.loop-k.invariant.holder put.holder more);
    }

pub returns : goal.returns
returns g c =
    let end : c.args.tiles.col_start + 16 * c.loop-k.k ≡ c.args.tiles.col_end = omega (arith, c.requires) in
    let all = rw end at c.loop-k.invariant in
    record { transposed = all.transposed; count = all.count; holder = all.holder }

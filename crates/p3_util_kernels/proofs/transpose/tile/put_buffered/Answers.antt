-- The tile lies in the matrix.
use Rattle.std.proofs.Common.{◌+◌, arith}
use Rattle.p3_util_kernels.proofs.TransposeLemmas.Tiles.{item_inside}
use Rattle.p3_util_kernels.proofs.transpose.tile.put_buffered.Goals as goal

pub read_tile-buffer-requires : goal.read_tile-buffer-requires
read_tile-buffer-requires g c =
    let tile = c.args.tile in (
      omega (arith, c.requires.small),
      (
        λ r k hr hk. omega (arith, c.requires.input_fits, item_inside (tile.col_start + k) (tile.row_start + r) c.args.matrix.width c.args.matrix.height (omega (arith, hk, c.requires.inside, c.requires.cols)) (omega (arith, hr, c.requires.inside, c.requires.rows))),
        c.requires.small,
      ),
    )

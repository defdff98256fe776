-- The upper left quadrant, the two across the diagonal and the lower right one make the square.
use Rattle.std.proofs.Common.{◌-◌, refl, arith}
use Rattle.p3_util_kernels.proofs.BitsLemmas.Pairs.{square_swaps-parts}
use Rattle.p3_util_kernels.proofs.TransposeLemmas.Diagonal.{SwapsAcross-quadrants}
use Rattle.p3_util_kernels.proofs.transpose.square.+transpose_square.Goals as goal

pub returns-else-len-le-SMALL_SIDE-clause-swapped : goal.returns-else-len-le-SMALL_SIDE-clause-swapped
returns-else-len-le-SMALL_SIDE-clause-swapped g t c =
    SwapsAcross-quadrants c.args.square.base c.args.square.stride c.args.lines.start c.halves.result.0.end c.args.lines.end _ _ _ _ (omega arith) (omega arith)
    (rw c.halves.ensures.start at c.transpose_square.ensures.swapped)
    (rw (c.halves.ensures.start, c.halves.ensures.middle, c.halves.ensures.end) at c.swap_block.ensures.swapped)
    (rw (c.halves.ensures.middle, c.halves.ensures.end) at c.transpose_square-else-len-le-SMALL_SIDE.ensures.swapped)

pub returns-else-len-le-SMALL_SIDE-clause-count : goal.returns-else-len-le-SMALL_SIDE-clause-count
returns-else-len-le-SMALL_SIDE-clause-count g t c =
    let first = c.halves.result.0.end - c.halves.result.0.start in
    let second = c.halves.result.1.end - c.halves.result.1.start in
    omega (arith, square_swaps-parts first second (c.args.lines.end - c.args.lines.start) (omega arith))

pub returns-else-len-le-SMALL_SIDE-clause-holder : goal.returns-else-len-le-SMALL_SIDE-clause-holder
returns-else-len-le-SMALL_SIDE-clause-holder g t c =
    let trans = g.met.S.Places.same_holder_trans in
    trans _ _ _ _ _ _ (trans _ _ _ _ _ _ c.transpose_square.ensures.holder c.swap_block.ensures.holder refl) c.transpose_square-else-len-le-SMALL_SIDE.ensures.holder
    (square_swaps-parts _ _ _ (omega arith))

-- The swaps of the two halves add up to those of the block.
use Rattle.std.proofs.Common.{◌-◌, arith}
use Rattle.p3_util_kernels.proofs.BitsLemmas.Pairs.{mul-parts_left, mul-parts_right}
use Rattle.p3_util_kernels.proofs.TransposeLemmas.Diagonal.{SwapsAcross-rows, SwapsAcross-cols}
use Rattle.p3_util_kernels.proofs.transpose.square.+swap_block.Goals as goal

pub returns-then-len-clause-swapped : goal.returns-then-len-clause-swapped
returns-then-len-clause-swapped g t c =
    SwapsAcross-rows c.args.square.base c.args.square.stride c.args.rows.start c.halves.result.0.end c.args.rows.end c.args.cols.start c.args.cols.end _ _ _ (omega arith) (omega arith)
    (rw c.halves.ensures.start at c.swap_block.ensures.swapped)
    (rw (c.halves.ensures.middle, c.halves.ensures.end) at c.swap_block-then-len.ensures.swapped)

pub returns-then-len-clause-count : goal.returns-then-len-clause-count
returns-then-len-clause-count g t c =
    let upper = c.halves.result.0.end - c.halves.result.0.start in
    let lower = c.halves.result.1.end - c.halves.result.1.start in
    omega (arith, mul-parts_left upper lower (c.args.rows.end - c.args.rows.start) (c.args.cols.end - c.args.cols.start) (omega arith))

pub returns-then-len-clause-holder : goal.returns-then-len-clause-holder
returns-then-len-clause-holder g t c =
    g.met.S.Places.same_holder_trans _ _ _ _ _ _ c.swap_block.ensures.holder c.swap_block-then-len.ensures.holder (mul-parts_left _ _ _ _ (omega arith))

pub returns-else-len-clause-swapped : goal.returns-else-len-clause-swapped
returns-else-len-clause-swapped g t c =
    SwapsAcross-cols c.args.square.base c.args.square.stride c.args.rows.start c.args.rows.end c.args.cols.start c.halves-else-len.result.0.end c.args.cols.end _ _ _ (omega arith) (omega arith)
    (rw c.halves-else-len.ensures.start at c.swap_block-else-len.ensures.swapped)
    (rw (c.halves-else-len.ensures.middle, c.halves-else-len.ensures.end) at c.swap_block-else-len-2.ensures.swapped)

pub returns-else-len-clause-count : goal.returns-else-len-clause-count
returns-else-len-clause-count g t c =
    let left = c.halves-else-len.result.0.end - c.halves-else-len.result.0.start in
    let right = c.halves-else-len.result.1.end - c.halves-else-len.result.1.start in
    omega (arith, mul-parts_right left right (c.args.cols.end - c.args.cols.start) (c.args.rows.end - c.args.rows.start) (omega arith))

pub returns-else-len-clause-holder : goal.returns-else-len-clause-holder
returns-else-len-clause-holder g t c =
    g.met.S.Places.same_holder_trans _ _ _ _ _ _ c.swap_block-else-len.ensures.holder c.swap_block-else-len-2.ensures.holder (mul-parts_right _ _ _ _ (omega arith))

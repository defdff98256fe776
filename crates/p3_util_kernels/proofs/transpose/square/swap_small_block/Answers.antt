-- Each turn of the loop swaps one more column of the block with its mirror image.
use Rattle.std.proofs.Common.{◌≡◌, ◌+◌, ◌-◌, ◌*◌, arith}
use Rattle.p3_util_kernels.proofs.TransposeLemmas.Diagonal.{SwapsAcross-cols, SwapsAcross-none}
use Rattle.p3_util_kernels.proofs.transpose.square.swap_small_block.Goals as goal

pub loop-line-init : goal.loop-line-init
loop-line-init g c =
    let none : (c.args.rows.end - c.args.rows.start) * (c.args.cols.start - c.args.cols.start) ≡ 0 = let no : c.args.cols.start - c.args.cols.start ≡ 0 = omega arith in rw no (omega arith) in
    record {
      swapped = SwapsAcross-none c.args.square.base c.args.square.stride c.args.rows.start c.args.rows.end c.args.cols.start c.args.cols.start _ (λ a b k. omega arith);
      count = rw none (omega (arith, c.requires.count_fits));
      holder = rw none (g.met.S.Places.same_holder_refl _);
    }

pub loop-line-preserved : goal.loop-line-preserved
loop-line-preserved g c =
    let more : c.loop-line.line + 1 - c.args.cols.start ≡ c.loop-line.line - c.args.cols.start + 1 = omega arith in
    record {
      swapped = SwapsAcross-cols c.args.square.base c.args.square.stride c.args.rows.start c.args.rows.end c.args.cols.start c.loop-line.line (c.loop-line.line + 1) _ _ _ (omega arith) (omega arith) c.loop-line.invariant.swapped c.swap_line.ensures.swapped;
      count = rw more (omega (arith, c.swap_line.ensures.count, c.loop-line.invariant.count));
      holder = rw more (g.met.S.Places.same_holder_trans _ _ _ _ _ _ c.loop-line.invariant.holder c.swap_line.ensures.holder (omega arith));
    }

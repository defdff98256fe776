-- Each turn of the loop swaps one more line of the square with its mirror image.
use Rattle.std.proofs.Common.{◌≡◌, ◌+◌, ◌-◌, suc, refl, arith}
use Rattle.p3_util_kernels.proofs.TransposeLemmas.Diagonal.{SwapsAcross-line, SwapsAcross-none}
use Rattle.p3_util_kernels.proofs.BitsLemmas.Pairs.{square_swaps-next}
use Rattle.p3_util_kernels.proofs.transpose.square.transpose_small.Goals as goal

pub loop-line-init : goal.loop-line-init
loop-line-init g c =
    let none : c.args.lines.start - c.args.lines.start ≡ 0 = omega arith in
    record {
      swapped = SwapsAcross-none c.args.square.base c.args.square.stride c.args.lines.start c.args.lines.start c.args.lines.start c.args.lines.start _ (λ a b k. omega arith);
      count = rw none (omega (arith, c.requires.count_fits));
      holder = rw none (g.met.S.Places.same_holder_refl _);
    }

pub loop-line-preserved : goal.loop-line-preserved
loop-line-preserved g c =
    let more : c.loop-line.line + 1 - c.args.lines.start ≡ suc (c.loop-line.line - c.args.lines.start) = omega arith in
    record {
      swapped = SwapsAcross-line c.args.square.base c.args.square.stride c.args.lines.start c.loop-line.line _ _ _ (omega arith) c.loop-line.invariant.swapped c.swap_line.ensures.swapped;
      count = rw (more, square_swaps-next (c.loop-line.line - c.args.lines.start)) (omega (arith, c.swap_line.ensures.count, c.loop-line.invariant.count));
      holder = rw (more, square_swaps-next (c.loop-line.line - c.args.lines.start)) (g.met.S.Places.same_holder_trans _ _ _ _ _ _ c.loop-line.invariant.holder c.swap_line.ensures.holder refl);
    }

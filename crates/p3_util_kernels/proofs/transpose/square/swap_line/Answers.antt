-- Each turn of the loop swaps one more item of the line with its mirror image.
use Rattle.std.proofs.Common.{◌≡◌, ◌+◌, ◌-◌, ◌*◌, ◌<◌, ◌≤◌, length, mul-le-mul_right, arith}
use Rattle.p3_util_kernels.specs.Diagonal.{SwapsAcross}
use Rattle.p3_util_kernels.proofs.TransposeLemmas.Diagonal.{SwapsAcross-none, SwapsAcross-rows, SwapsAcross-swap}
use Rattle.p3_util_kernels.proofs.transpose.square.swap_line.Goals as goal

pub loop-i-init : goal.loop-i-init
loop-i-init g c =
    let none : c.args.rows.start - c.args.rows.start ≡ 0 = omega arith in
    record {
      swapped = SwapsAcross-none c.args.square.base c.args.square.stride c.args.rows.start c.args.rows.start c.args.line (c.args.line + 1) (g.S.Places.items c.args.m.now.holder) (λ a b k. omega arith);
      count = omega (arith, c.requires.count_fits);
      holder = rw none (g.met.S.Places.same_holder_refl _);
    }

pub loop-i-preserved : goal.loop-i-preserved
loop-i-preserved g c =
    let same = c.loop-i.invariant.swapped.same_length in
    let rows : c.loop-i.i * c.args.square.stride ≤ c.args.line * c.args.square.stride = mul-le-mul_right c.args.square.stride (omega arith) in
    let upper : c.args.square.base + c.loop-i.i * c.args.square.stride + c.args.line < length (g.S.Places.items c.loop-i.m.holder) = omega arith in
    let lower : c.args.square.base + c.args.line * c.args.square.stride + c.loop-i.i < length (g.S.Places.items c.loop-i.m.holder) = omega arith in
    let step : SwapsAcross c.args.square.base c.args.square.stride c.loop-i.i (c.loop-i.i + 1) c.args.line (c.args.line + 1)
    (g.S.Places.items c.loop-i.m.holder) (g.S.Places.items c.swap.new.self.holder) =
    rw (c.swap.ensures.exchanged, c.place-in-loop-i.ensures, c.place.ensures) (SwapsAcross-swap c.args.square.base c.args.square.stride c.loop-i.i c.args.line (g.S.Places.items c.loop-i.m.holder) (omega arith) (omega arith) upper lower) in
    record {
      swapped = SwapsAcross-rows c.args.square.base c.args.square.stride c.args.rows.start c.loop-i.i (c.loop-i.i + 1) c.args.line (c.args.line + 1) _ _ _ (omega arith) (omega arith) c.loop-i.invariant.swapped step;
      count = omega (arith, c.swap.ensures.count, c.loop-i.invariant.count);
      holder = g.met.S.Places.same_holder_trans _ _ _ _ _ _ c.loop-i.invariant.holder c.swap.ensures.holder (omega arith);
    }

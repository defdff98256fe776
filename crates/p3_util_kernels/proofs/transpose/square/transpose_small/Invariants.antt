use Rattle.std.proofs.Common.{◌≡◌, ◌-◌}
use Rattle.p3_util_kernels.specs.Diagonal.{SwapsAcross}
use Rattle.p3_util_kernels.specs.Steps.{counted}
use Rattle.p3_util_kernels.specs.SwapCounts.{square_swaps}
use Rattle.p3_util_kernels.proofs.transpose.square.transpose_small.Given as goal

-- the square of the lines before `line` is transposed
abbrev pub invariant-loop-line : goal.invariant-loop-line
invariant-loop-line g l = record {
  swapped : SwapsAcross l.square.base l.square.stride l.lines.start l.line l.lines.start l.line (g.S.Places.items l.fn.m.holder) (g.S.Places.items l.m.holder);
  count : l.m.count ≡ counted l.fn.m.count (square_swaps (l.line - l.lines.start));
  holder : g.S.Places.same_holder (square_swaps (l.line - l.lines.start)) l.fn.m.holder l.m.holder;
}

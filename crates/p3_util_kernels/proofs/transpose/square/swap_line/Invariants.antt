use Rattle.std.proofs.Common.{◌≡◌, ◌+◌, ◌-◌}
use Rattle.p3_util_kernels.specs.Diagonal.{SwapsAcross}
use Rattle.p3_util_kernels.specs.Steps.{counted}
use Rattle.p3_util_kernels.proofs.transpose.square.swap_line.Given as goal

-- the items before i are swapped
abbrev pub invariant-loop-i : goal.invariant-loop-i
invariant-loop-i g l = record {
  swapped : SwapsAcross l.square.base l.square.stride l.fn.rows.start l.i l.line (l.line + 1) (g.S.Places.items l.fn.m.holder) (g.S.Places.items l.m.holder);
  count : l.m.count ≡ counted l.fn.m.count (l.i - l.fn.rows.start);
  holder : g.S.Places.same_holder (l.i - l.fn.rows.start) l.fn.m.holder l.m.holder;
}

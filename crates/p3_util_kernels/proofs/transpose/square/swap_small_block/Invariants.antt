use Rattle.std.proofs.Common.{◌≡◌, ◌-◌, ◌*◌}
use Rattle.p3_util_kernels.specs.Diagonal.{SwapsAcross}
use Rattle.p3_util_kernels.specs.Steps.{counted}
use Rattle.p3_util_kernels.proofs.transpose.square.swap_small_block.Given as goal

-- the columns before `line` are swapped
abbrev pub invariant-loop-line : goal.invariant-loop-line
invariant-loop-line g l = record {
  swapped : SwapsAcross l.square.base l.square.stride l.rows.start l.rows.end l.fn.cols.start l.line (g.S.Places.items l.fn.m.holder) (g.S.Places.items l.m.holder);
  count : l.m.count ≡ counted l.fn.m.count ((l.rows.end - l.rows.start) * (l.line - l.fn.cols.start));
  holder : g.S.Places.same_holder ((l.rows.end - l.rows.start) * (l.line - l.fn.cols.start)) l.fn.m.holder l.m.holder;
}

use Rattle.std.proofs.Common.{◌≡◌, ◌*◌}
use Rattle.p3_util_kernels.specs.Least.{count_below}
use Rattle.p3_util_kernels.specs.Steps.{counted}
use Rattle.p3_util_kernels.proofs.ReverseLemmas.Below.{goes_up}
use Rattle.p3_util_kernels.proofs.ReverseLemmas.Halfway.{RowsHalfway}
use Rattle.p3_util_kernels.proofs.reverse.rows.swap_rows.Given as goal

-- the rows before this one, and their reverses, are exchanged
abbrev pub invariant-loop-r : goal.invariant-loop-r
invariant-loop-r g l = record {
  halfway : RowsHalfway l.width l.digits l.r (g.S.Places.items l.initial.m.holder) (g.S.Places.items l.m.holder);
  count : l.m.count ≡ counted l.initial.m.count (l.width * count_below l.r (goes_up l.digits));
  holder : g.S.Places.same_holder (l.width * count_below l.r (goes_up l.digits)) l.initial.m.holder l.m.holder;
}

use Rattle.std.proofs.Common.{◌-◌, ◌*◌, ◌^◌}
use Rattle.p3_util_kernels.specs.SwapCounts.{square_swaps}
use Rattle.p3_util_fast.proofs.GridLemmas.Crossing.{AreCrossed}
use Rattle.p3_util_fast.proofs.rows.exchange_pairs.Given as goal

-- the pairs of the grids before this one are exchanged
abbrev pub invariant-loop-middle : goal.invariant-loop-middle
invariant-loop-middle g l = record {
  crossed : AreCrossed l.half (l.rows.digits - l.half) l.rows.width l.middle (g.M.Places.items l.initial.m) (g.M.Places.items l.m);
  holder : g.M.Places.same_holder (l.middle * (l.rows.width * square_swaps (2 ^ l.half))) l.initial.m l.m;
}

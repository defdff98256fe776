use Rattle.p3_util_kernels.specs.Exchanged.{RunsExchanged}
use Rattle.p3_util_kernels.specs.Steps.{counted}
use Rattle.std.proofs.Common.{◌≡◌}
use Rattle.p3_util_kernels.proofs.reverse.rows.swap_runs.Given as goal

-- the items before this one are exchanged
abbrev pub invariant-loop-t : goal.invariant-loop-t
invariant-loop-t g l = record {
  exchanged : RunsExchanged l.i l.j l.t (g.S.Places.items l.initial.m.holder) (g.S.Places.items l.m.holder);
  count : l.m.count ≡ counted l.initial.m.count l.t;
  holder : g.S.Places.same_holder l.t l.initial.m.holder l.m.holder;
}

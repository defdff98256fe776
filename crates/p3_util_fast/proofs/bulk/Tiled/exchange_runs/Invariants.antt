use Rattle.p3_util_kernels.specs.Exchanged.{RunsExchanged}
use Rattle.p3_util_fast.proofs.bulk.Tiled.exchange_runs.Given as goal

-- the first t items of the runs are exchanged
abbrev pub invariant-loop-t : goal.invariant-loop-t
invariant-loop-t g l = record {
  exchanged : RunsExchanged l.i l.j l.t (g.Self.Places.items l.fn.self) (g.Self.Places.items l.self);
  holder : g.Self.Places.same_holder l.t l.fn.self l.self;
}

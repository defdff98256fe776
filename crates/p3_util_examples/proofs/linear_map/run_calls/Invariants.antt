use Rattle.std.proofs.Common.{◌≡◌, ◌++◌, [], drop}
use Rattle.p3_util_examples.specs.MapCalls.{pairs_after, answers_of}
use Rattle.p3_util_examples.proofs.linear_map.run_calls.Given as goal

-- the remaining calls, made on the map as it is now, lead where all calls lead
abbrev pub invariant-loop-call : goal.invariant-loop-call
invariant-loop-call g l = record {
  pairs : pairs_after g.K.PartialEq.eq l.map (drop l.call-index l.calls) ≡ pairs_after g.K.PartialEq.eq [] l.calls;
  answers : l.answers.items ++ answers_of g.K.PartialEq.eq l.map (drop l.call-index l.calls) ≡ answers_of g.K.PartialEq.eq [] l.calls;
}

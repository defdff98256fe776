-- The run of the source that the loop made, when the map is complete and when memory was refused.
use Rattle.std.proofs.Common.{◌≡◌, [], None, rules}
use Rattle.std.proofs.iter.runs.Consumers.{total_runs}
use Rattle.p3_util.specs.LinearMap.{value_at, put_all}
use Rattle.p3_util.proofs.linear_map.LinearMap.try_from_iter.Goals as goal

pub returns-clause-runs : goal.returns-clause-runs
returns-clause-runs g c =
    let from = c.into_iter-k-iterator.result in
    let taken = total_runs g.I.IntoIter.Iterator.next_gives from (Unit {0}) (λ xs. c.loop-k.map ≡ put_all g.K.PartialEq.eq [] xs) (c.loop-k.yielded, (λ _. (c.next.new.self, (c.loop-k.k-iterator, c.loop-k.yielded_by, c.in-None.ensures.steps))), c.loop-k.invariant) tt in
    (from, c.into_iter-k-iterator.ensures.into_iter_gives, taken)

pub returns-then-is_err-clause-refuses_new : goal.returns-then-is_err-clause-refuses_new
returns-then-is_err-clause-refuses_new g c =
    let new : value_at g.K.PartialEq.eq c.loop-k.map c.in-Some.k ≡ None = search rules in
    (c.into_iter-k-iterator.result, c.loop-k.yielded, (c.in-Some.k, c.in-Some.v), c.next.new.self, c.into_iter-k-iterator.ensures.into_iter_gives, (c.loop-k.k-iterator, c.loop-k.yielded_by, c.in-Some.ensures.steps), rw c.loop-k.invariant at new)

-- An empty list of pairs has distinct keys.
use Rattle.p3_util.proofs.MapLemmas.{distinct_none}
use Rattle.p3_util.proofs.linear_map.LinearMap.new.Goals as goal

pub invariant_of-result : goal.invariant_of-result
invariant_of-result g c = rw c.new.ensures.items (distinct_none g.row.V.Denot g.K.PartialEq.eq)

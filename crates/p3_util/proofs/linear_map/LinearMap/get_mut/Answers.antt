-- The loan at the place that `position` found: it writes the value of the key, and the keys stay distinct.
use Rattle.std.proofs.Common.{refl}
use Rattle.p3_util.proofs.MapLemmas.{lookup_nowhere, lookup_at_place, set_at_place, distinct_set_at_place, same_loan}
use Rattle.p3_util.proofs.linear_map.LinearMap.get_mut.Goals as goal

pub returns-in_err-place : goal.returns-in_err-place
returns-in_err-place g c =
    rw (c.from_residual.ensures, ← c.self.view_is) (refl, record { writes_back = tt; value = lookup_nowhere g.K.PartialEq.eq _ _ c.in_err-place.ensures })

pub invariant_of-self-lent : goal.invariant_of-self-lent
invariant_of-self-lent g c w =
    distinct_set_at_place g.K.PartialEq.eq _ _ _ _ c.in_ok-place.ensures c.index_mut.ensures.value _ c.self.invariant

pub returns : goal.returns
returns g c =
    let es = c.self.inside.pairs.items in
    let i = c.in_ok-place.place in
    let pair = c.index_mut.result.now in
    let found = c.in_ok-place.ensures in
    let at = c.index_mut.ensures.value in
    rw (← c.self.view_is) (same_loan (set_at_place g.K.PartialEq.eq es c.args.k.now i pair found at), record { writes_back = tt; value = lookup_at_place g.K.PartialEq.eq es c.args.k.now i pair found at })

use Rattle.std.proofs.Common.{◌≡◌, ◌∙◌, sym, refl, ap, get_or, None}
use Rattle.std.specs.Map.{keys_of}
use Rattle.p3_util.specs.LinearMap.{value_at}
use Rattle.p3_util.proofs.MapLemmas.{lookup_nowhere, lookup_at_place, put_at_place, keys_set_at_place, distinct_set_at_place, put_new, distinct_new}
use Rattle.p3_util.proofs.linear_map.LinearMap.insert.Goals as goal

pub returns-in-Some-clause-old : goal.returns-in-Some-clause-old
returns-in-Some-clause-old g c =
    let at = c.index_mut.ensures.value ∙ ap (λ es. get_or es c.in-Some.place c.index_mut.result.now) c.self.view_is in
    rw c.replace.ensures.value (lookup_at_place g.K.PartialEq.eq c.args.self.now c.args.k c.in-Some.place c.index_mut.result.now c.in-Some.ensures at)

pub returns-in-Some-clause-put : goal.returns-in-Some-clause-put
returns-in-Some-clause-put g c =
    let at = c.index_mut.ensures.value ∙ ap (λ es. get_or es c.in-Some.place c.index_mut.result.now) c.self.view_is in
    rw (c.replace.ensures.after, c.self.view_is) (put_at_place g.K.PartialEq.eq _ _ _ _ c.in-Some.ensures at _)

pub returns-in-Some-clause-known_keys : goal.returns-in-Some-clause-known_keys
returns-in-Some-clause-known_keys g c h =
    let found = rw (← c.self.view_is) at c.in-Some.ensures in
    rw (← c.self.view_is) (keys_set_at_place g.K.PartialEq.eq _ _ _ _ found c.index_mut.ensures.value _)

-- This stands after the clauses `put` and `known_keys`, so that the checker names those first if the pairs are wrong.
pub invariant_of-self : goal.invariant_of-self
invariant_of-self g c =
    let found = rw (← c.self.view_is) at c.in-Some.ensures in
    distinct_set_at_place g.K.PartialEq.eq _ _ _ _ found c.index_mut.ensures.value _ c.self.invariant

pub returns-in-Some-clause-distinct : goal.returns-in-Some-clause-distinct
returns-in-Some-clause-distinct g c = invariant_of-self g c

pub returns-in_default-reserve : goal.returns-in_default-reserve
returns-in_default-reserve g c =
    let absent : None ≡ value_at g.K.PartialEq.eq c.args.self.now c.args.k = lookup_nowhere g.K.PartialEq.eq _ _ c.in_default.ensures in
    let same : c.reserve.new.self.items ≡ c.args.self.now = rw c.reserve.ensures.items c.self.view_is in
    record { old = tt; put = tt; given = refl; unchanged = same; refuses_new = sym absent; known = rw (← absent) (λ h. h); known_keys = λ _. ap keys_of same; distinct = rw c.reserve.ensures.items c.self.invariant }

pub invariant_of-self-2 : goal.invariant_of-self-2
invariant_of-self-2 g c =
    let absent = lookup_nowhere g.K.PartialEq.eq _ _ c.in_default.ensures in
    rw (c.push_reserved.ensures.items, c.reserve.ensures.items, c.self.view_is) (distinct_new g.K.PartialEq.eq _ _ absent _ g.met.K.Eq.laws (rw c.self.view_is at c.self.invariant))

pub returns : goal.returns
returns g c =
    let absent : None ≡ value_at g.K.PartialEq.eq c.args.self.now c.args.k = lookup_nowhere g.K.PartialEq.eq _ _ c.in_default.ensures in
    let new = put_new g.K.PartialEq.eq c.args.self.now c.args.k absent c.args.v in
    record { old = absent; put = rw (c.push_reserved.ensures.items, c.reserve.ensures.items, c.self.view_is) (sym new); given = tt; unchanged = tt; refuses_new = tt; known = λ h. refl; known_keys = rw (← absent) (λ h. cc); distinct = invariant_of-self-2 g c }

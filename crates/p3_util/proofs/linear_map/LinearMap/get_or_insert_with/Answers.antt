-- The loan of a value that was there and of one that was pushed: each writes the value of the key,
-- and the keys stay distinct.
use Rattle.std.proofs.Common.{◌≡◌, ◌∙◌, None, sym, refl}
use Rattle.p3_util.specs.LinearMap.{value_at}
use Rattle.p3_util.proofs.MapLemmas.{lookup_nowhere, lookup_at_place, put_at_place, put_new, distinct_set_at_place, distinct_new, same_loan, write_pushed, pair_pushed}
use Rattle.p3_util.proofs.linear_map.LinearMap.get_or_insert_with.Goals as goal

pub invariant_of-self-lent : goal.invariant_of-self-lent
invariant_of-self-lent g c w =
    distinct_set_at_place g.K.PartialEq.eq _ _ _ _ c.in-Some.ensures c.index_mut.ensures.value _ c.self.invariant

pub returns-in-Some : goal.returns-in-Some
returns-in-Some g c =
    let found = c.in-Some.ensures in
    let at = c.index_mut.ensures.value in
    rw (← c.self.view_is) (same_loan (put_at_place g.K.PartialEq.eq _ _ _ _ found at), record { writes_back = tt; value = rw (← lookup_at_place g.K.PartialEq.eq _ _ _ _ found at) refl; given = tt; refuses_new = tt; known = λ h. refl })

pub returns-in_default-reserve : goal.returns-in_default-reserve
returns-in_default-reserve g c =
    let absent : value_at g.K.PartialEq.eq c.args.self.now c.args.k ≡ None = rw (← c.self.view_is) (sym (lookup_nowhere g.K.PartialEq.eq _ _ c.in_default.ensures)) in
    (rw (c.reserve.ensures.items, c.self.view_is) refl, record { writes_back = tt; value = tt; given = refl; refuses_new = absent; known = rw absent (λ h. h) })

pub f-requires : goal.f-requires
f-requires g c =
    let absent : value_at g.K.PartialEq.eq c.args.self.now c.args.k ≡ None = rw (← c.self.view_is) (sym (lookup_nowhere g.K.PartialEq.eq _ _ c.in_default.ensures)) in
    c.requires absent

pub invariant_of-self-lent-2 : goal.invariant_of-self-lent-2
invariant_of-self-lent-2 g c w =
    let es = c.self.inside.pairs.items in
    let absent = lookup_nowhere g.K.PartialEq.eq es c.args.k c.in_default.ensures in
    rw (write_pushed es c.reserve.new.self.items c.push_reserved.new.self.items c.args.k c.f.result c.len-last.result c.index_mut-2.result.now c.reserve.ensures.items c.push_reserved.ensures.items c.len-last.ensures.len c.index_mut-2.ensures.value w)
    (distinct_new g.K.PartialEq.eq es c.args.k absent w g.met.K.Eq.laws c.self.invariant)

pub returns : goal.returns
returns g c =
    let es = c.self.inside.pairs.items in
    let kept = c.reserve.new.self.items in
    let added = c.push_reserved.new.self.items in
    let pair = c.index_mut-2.result.now in
    let absent = lookup_nowhere g.K.PartialEq.eq es c.args.k c.in_default.ensures in
    let new = pair_pushed es kept added c.args.k c.f.result c.len-last.result pair c.reserve.ensures.items c.push_reserved.ensures.items c.len-last.ensures.len c.index_mut-2.ensures.value in
    rw (← c.self.view_is) (
      same_loan (λ w. write_pushed es kept added c.args.k c.f.result c.len-last.result pair c.reserve.ensures.items c.push_reserved.ensures.items c.len-last.ensures.len c.index_mut-2.ensures.value w ∙ sym (put_new g.K.PartialEq.eq es c.args.k absent w)),
      record { writes_back = tt; value = rw (← absent, new) c.f.ensures; given = tt; refuses_new = tt; known = λ h. refl },
    )

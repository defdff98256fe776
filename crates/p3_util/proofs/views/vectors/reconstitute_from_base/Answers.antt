use Rattle.std.proofs.Common.{◌≡◌, ℕ, ◌+◌, ◌*◌, ◌/◌, ◌%◌, ◌<◌, ◌≤◌, List, [], ◌∷◌, ◌++◌, append-nil, ap, length, rules, sym, vec_len, ◌∙◌, mul-le-mul_right, div-add-mod', arith}
use Rattle.std.proofs.lemmas.Grind.{common_steps}
use Rattle.std.specs.Vec.Iter.{into_iter_items}
use Rattle.p3_util.specs.Flat.{flat}
use Rattle.p3_util.specs.Pieces.{pieces}
use Rattle.p3_util.proofs.views.vectors.reconstitute_from_base.Goals as goal

pub loop-preserved : goal.loop-preserved
loop-preserved g c = record { moved = grind (arith, common_steps); left = grind (arith, common_steps); made = search rules; room = search rules }

-- a further row has its items
enough : (total left counter n : ℕ) → left + counter * n ≡ total → counter < total / n → n ≤ left
enough total left counter n len more =
    let times : (counter + 1) * n ≤ total / n * n = mul-le-mul_right n (omega arith) in omega (arith, div-add-mod' total n, times)

-- no item is left after that many rows
none_left : {A : Type 0} (all items left : List A) (total counter n : ℕ) → all ≡ items ++ left → length left + counter * n ≡ total → total / n ≤ counter → total % n ≡ 0 → items ≡ all
none_left all items [] total counter n is len over divides = sym (is ∙ append-nil items)
none_left all items (x ∷ xs) total counter n is len over divides =
    let times : total / n * n ≤ counter * n = mul-le-mul_right n over in absurd (omega (arith, div-add-mod' total n, times))

pub returns-clause-items : goal.returns-clause-items
returns-clause-items g c =
    none_left c.args.vec.items (flat c.loop.rows.items) (into_iter_items c.loop.items) (vec_len c.args.vec) c.loop.counter g.row.N c.loop.invariant.moved c.loop.invariant.left (rw c.len-count.ensures at c.loop-test.false) c.requires.divides

pub returns-clause-rows : goal.returns-clause-rows
returns-clause-rows g c = sym c.deref.ensures.value ∙ sym (c.each_in_its_row.ensures.rows c.requires.width) ∙ ap (λ l. pieces g.row.N (flat l)) c.deref.ensures.value ∙ ap (pieces g.row.N) (returns-clause-items g c)

pub next_row-requires : goal.next_row-requires
next_row-requires g c = (search rules, enough _ _ _ _ c.loop.invariant.left (rw c.len-count.ensures at c.loop-test.true))

pub push_reserved-requires : goal.push_reserved-requires
push_reserved-requires g c = omega arith

pub returns-clause-count : goal.returns-clause-count
returns-clause-count g c = omega (arith, c.loop.invariant.made, rw c.len-count.ensures at c.loop-test.false, rw c.len-count.ensures at c.loop.auto.counter-end)

pub returns-clause-len : goal.returns-clause-len
returns-clause-len g c = ap (λ k. k * g.row.N) (returns-clause-count g c) ∙ omega (arith, div-add-mod' (vec_len c.args.vec) g.row.N)

pub returns-clause-places : goal.returns-clause-places
returns-clause-places g c = rw (← returns-clause-items g c, ← c.deref.ensures.value) c.each_in_its_row.ensures.places

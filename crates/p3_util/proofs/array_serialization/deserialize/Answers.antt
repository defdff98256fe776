-- What the loop has read when it returns, by the lemmas on the items of a JSON list, and that a
-- value has only one answer.
use Rattle.std.proofs.Common.{map, take, ◌∙◌, length-set, arith}
use Rattle.std.proofs.lemmas.List.{length-map}
use Rattle.serde_json.specs.View.{view}
use Rattle.p3_util.proofs.JsonLists.{slice_get-view, AreReadAs-more, AreReadAs-first, AreReadAs-whole, IsArrayAnswer-at_list, only_answer}
use Rattle.p3_util.proofs.array_serialization.deserialize.Goals as goal

pub returns-in-Err-clause-answer : goal.returns-in-Err-clause-answer
returns-in-Err-clause-answer g c =
    let items = c.in-Some.list.now.items in
    let here = slice_get-view items c.loop-index.index c.index.result.now (omega (arith, c.in-Some.list.now.ok.0)) c.index.ensures in
    IsArrayAnswer-at_list g.T.ArrayElement.reading g.T.ArrayElement.wants_memory g.row.N (view c.args.v.now) items _ c.in-Some.ensures
    (omega arith, (take c.loop-index.index c.loop-index.items, c.loop-index.invariant.1), (view c.index.result.now, here, c.in-Err.ensures))

pub loop-index-preserved : goal.loop-index-preserved
loop-index-preserved g c =
    let list = c.in-Some.list.now in
    let here = slice_get-view list.items c.loop-index.index c.index.result.now (omega (arith, list.ok.0)) c.index.ensures in (
      length-set c.loop-index.items c.loop-index.index c.in-Ok.item ∙ c.loop-index.invariant.0,
      AreReadAs-more g.T.ArrayElement.reading (map view list.items) c.loop-index.items c.loop-index.index (view c.index.result.now) c.in-Ok.item here (omega arith) c.loop-index.invariant.1 c.in-Ok.ensures,
    )

pub returns-then-len-clause-answer : goal.returns-then-len-clause-answer
returns-then-len-clause-answer g c =
    let list = c.in-Some.list.now in
    IsArrayAnswer-at_list g.T.ArrayElement.reading g.T.ArrayElement.wants_memory g.row.N (view c.args.v.now) list.items _ c.in-Some.ensures (
      (take c.loop-index.index c.loop-index.items, AreReadAs-first g.T.ArrayElement.reading (map view list.items) _ c.loop-index.index g.row.N (omega (arith, list.ok.0, length-map list.items view)) c.loop-index.invariant.1),
      omega (arith, list.ok.0, length-map list.items view),
      omega arith,
    )

pub returns-clause-answer : goal.returns-clause-answer
returns-clause-answer g c =
    let list = c.in-Some.list.now in
    IsArrayAnswer-at_list g.T.ArrayElement.reading g.T.ArrayElement.wants_memory g.row.N (view c.args.v.now) list.items _ c.in-Some.ensures (
      AreReadAs-whole g.T.ArrayElement.reading (map view list.items) c.loop-index.items c.loop-index.index (omega (arith, list.ok.0, length-map list.items view)) (omega (arith, list.ok.0)) c.loop-index.invariant.1,
      omega (arith, list.ok.0, length-map list.items view),
    )

pub returns-in-Err-clause-only : goal.returns-in-Err-clause-only
returns-in-Err-clause-only g c = only_answer g.T.ArrayElement.reading g.T.ArrayElement.wants_memory g.row.N (view c.args.v.now) _ (returns-in-Err-clause-answer g c)

pub returns-then-len-clause-only : goal.returns-then-len-clause-only
returns-then-len-clause-only g c = only_answer g.T.ArrayElement.reading g.T.ArrayElement.wants_memory g.row.N (view c.args.v.now) _ (returns-then-len-clause-answer g c)

pub returns-clause-only : goal.returns-clause-only
returns-clause-only g c = only_answer g.T.ArrayElement.reading g.T.ArrayElement.wants_memory g.row.N (view c.args.v.now) _ (returns-clause-answer g c)

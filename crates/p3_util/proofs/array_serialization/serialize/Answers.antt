-- What was written reads back, by the lemma on an array whose items are all read.
use Rattle.std.proofs.Common.{length, map, take, ap, ◌∙◌, arith}
use Rattle.std.proofs.lemmas.List.{length-map, take_all}
use Rattle.serde_json.specs.View.{view}
use Rattle.p3_util.proofs.JsonLists.{IsSameOrMemory-from_array}
use Rattle.p3_util.proofs.array_serialization.serialize.Goals as goal

pub returns-clause-reads_back : goal.returns-clause-reads_back
returns-clause-reads_back g c r answer =
    let list = c.loop-item.list in
    let items = c.args.items.now in
    let whole = take_all c.loop-item.item-index items (omega arith) in
    let written = ap length c.loop-item.invariant.0 ∙ length-map (take c.loop-item.item-index items) g.T.ArrayElement.written ∙ ap length whole in
    IsSameOrMemory-from_array g.T.ArrayElement.reading g.T.ArrayElement.wants_memory g.row.N (view c.from.result) (map view list.items) items r c.from.ensures
    (rw whole at c.loop-item.invariant.1) (written ∙ c.type_inv.items) answer

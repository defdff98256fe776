use Rattle.std.proofs.Common.{◌≡◌, map, take}
use Rattle.serde_json.specs.View.{view}
use Rattle.p3_util.specs.JsonArray.{AreReadAs}
use Rattle.p3_util.proofs.array_serialization.serialize.Given as goal

-- the elements so far are written, and reading what was written gives them back
abbrev pub invariant-loop-item : goal.invariant-loop-item
invariant-loop-item g l = (map view l.list.items ≡ map g.T.ArrayElement.written (take l.item-index l.items)) × AreReadAs g.T.ArrayElement.reading (map view l.list.items) (take l.item-index l.items)

use Rattle.std.proofs.Common.{◌≡◌, length, map, take}
use Rattle.serde_json.specs.View.{view}
use Rattle.p3_util.specs.JsonArray.{AreReadAs}
use Rattle.p3_util.proofs.array_serialization.deserialize.Given as goal

-- the items so far are read, and their elements are at their places
abbrev pub invariant-loop-index : goal.invariant-loop-index
invariant-loop-index g l = (length l.items ≡ g.row.N) × AreReadAs g.T.ArrayElement.reading (take l.index (map view l.list.items)) (take l.index l.items)

use Rattle.std.proofs.Common.{◌≡◌, ◌++◌, length, take}
use Rattle.std.specs.Vec.Iter.{into_iter_items}
use Rattle.p3_util.proofs.views.vectors.next_row.Given as goal

-- the items that were taken are at the front of the row
abbrev pub invariant-loop-i : goal.invariant-loop-i
invariant-loop-i g l = (length l.row ≡ g.row.N) × (into_iter_items l.fn.items ≡ take l.i l.row ++ into_iter_items l.items)

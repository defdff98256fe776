-- If each row has N items, the list of all items has each item at its place, and is cut into the rows.
use Rattle.std.proofs.Common.{arith}
use Rattle.p3_util.proofs.FlatLemmas.{IsFlat-width, pieces-width}
use Rattle.p3_util.proofs.views.places.each_in_its_row.Goals as goal

pub returns-clause-places : goal.returns-clause-places
returns-clause-places g c = IsFlat-width _ _ (λ k lt. c.loop-r.invariant k (omega arith))

pub returns-clause-rows : goal.returns-clause-rows
returns-clause-rows g c some = pieces-width _ _ (λ k lt. c.loop-r.invariant k (omega arith)) some

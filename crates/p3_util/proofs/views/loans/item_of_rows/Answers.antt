-- The item that is lent is item i of all rows, and a write to it is one to that item.
use Rattle.std.proofs.Common.{refl, sym}
use Rattle.p3_util.proofs.FlatLemmas.{get-at, put-at}
use Rattle.p3_util.proofs.views.loans.item_of_rows.Goals as goal

pub returns-then-i-countable : goal.returns-then-i-countable
returns-then-i-countable g c =
    let place = c.place_of-r.ensures in
    let item = c.item_at.ensures in
    let read = get-at _ _ _ _ _ _ place.row place.place item.len place.before place.item item.item (rw c.countable.ensures.items at c.if-i-countable.true) in
    ((cc, (λ w. put-at _ _ _ _ _ _ w place.row place.place item.len place.before place.item refl), cc), record { writes_back = tt; item = sym read })

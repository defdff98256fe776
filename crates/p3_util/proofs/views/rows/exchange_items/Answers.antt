-- The exchange is one in the list of all items, within one row or between two.
use Rattle.std.proofs.Common.{arith}
use Rattle.p3_util.proofs.FlatLemmas.{swap-at, later-first}
use Rattle.p3_util.proofs.views.rows.exchange_items.Goals as goal

pub returns-then-s-r : goal.returns-then-s-r
returns-then-s-r g c =
    let r = c.place_of-r.ensures in
    let s = c.place_of-s.ensures in
    later-first _ _ _ _ _ _ _ _ _ r.before s.before r.item s.item c.exchange_in_two_rows-then-s-r.ensures

pub returns-else-s-r : goal.returns-else-s-r
returns-else-s-r g c =
    let place = c.place_of-r.ensures in
    let place' = c.place_of-s.ensures in
    swap-at _ _ _ _ _ _ _ _ _ (omega arith) place.row place.place place'.place c.width_of.ensures.row place.before place.item place'.item c.swap.ensures.after

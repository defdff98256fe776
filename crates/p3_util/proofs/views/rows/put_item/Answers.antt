-- The write to a row is one to the list of all items.
use Rattle.std.proofs.Common.{refl}
use Rattle.p3_util.proofs.FlatLemmas.{put-at}
use Rattle.p3_util.proofs.views.rows.put_item.Goals as goal

pub returns : goal.returns
returns g c =
    let place = c.place_of-r.ensures in
    put-at _ _ _ _ _ _ _ place.row place.place c.width_of.ensures.row place.before place.item refl

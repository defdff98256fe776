-- The look-up at the place that `position` found, and the one that found no place.
use Rattle.std.proofs.Common.{◌∙◌, ap, get_or}
use Rattle.p3_util.proofs.MapLemmas.{lookup_nowhere, lookup_at_place}
use Rattle.p3_util.proofs.linear_map.LinearMap.get.Goals as goal

pub returns-in_err-place : goal.returns-in_err-place
returns-in_err-place g c =
    rw c.from_residual.ensures (lookup_nowhere g.K.PartialEq.eq c.args.self.now c.args.k.now c.in_err-place.ensures)

pub returns : goal.returns
returns g c =
    let at = c.index.ensures ∙ ap (λ es. get_or es c.in_ok-place.place c.index.result.now) c.self.view_is in
    lookup_at_place g.K.PartialEq.eq c.args.self.now c.args.k.now c.in_ok-place.place c.index.result.now c.in_ok-place.ensures at

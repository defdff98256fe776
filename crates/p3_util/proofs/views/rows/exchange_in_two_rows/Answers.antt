-- The exchange between two rows is one in the list of all items.
use Rattle.std.proofs.Common.{◌<◌, [], ap, arith, get_or, length, set, ◌∙◌}
use Rattle.std.proofs.lemmas.List.{get_or_default}
use Rattle.p3_util.proofs.FlatLemmas.{flat-exchange}
use Rattle.p3_util.proofs.views.rows.exchange_in_two_rows.Goals as goal

pub returns : goal.returns
returns g c =
    let cut = c.split_at_mut-front.ensures in
    let x = get_or c.split_at_mut-front.result.0.now c.args.r [] in
    let y = get_or c.split_at_mut-front.result.1.now 0 [] in
    let within : c.args.c < length x = omega (arith, c.width_of.ensures.row, c.requires.first) in
    let within' : c.args.d < length y = omega (arith, c.width_of-2.ensures.row, c.requires.second) in
    flat-exchange _ _ _ c.args.r c.args.c c.args.s c.args.d _ _ cut.front cut.back c.requires.rows c.requires.last_row within within'
    (λ any. ap (set x c.args.c) (c.swap.ensures.x_after ∙ get_or_default y c.args.d _ any within'))
    (λ any. ap (set y c.args.d) (c.swap.ensures.y_after ∙ get_or_default x c.args.c _ any within))

-- Each turn of the loop joins one more pair of rows.
use Rattle.p3_util_examples.proofs.TransformLemmas.Rows.{HalvesJoined-more}
use Rattle.p3_util_examples.proofs.transform.stage.join_halves.Goals as goal

pub loop-i-preserved : goal.loop-i-preserved
loop-i-preserved c =
    let twiddles = c.args.twiddles.now in
    HalvesJoined-more c.args.width c.args.first c.args.half c.loop-i.i twiddles.stride twiddles.powers.now c.args.values.now c.loop-i.values c.join_rows.new.values
    c.loop-i.invariant c.loop-i-test.true c.join_rows.ensures.below c.join_rows.ensures.joined c.join_rows.ensures.others

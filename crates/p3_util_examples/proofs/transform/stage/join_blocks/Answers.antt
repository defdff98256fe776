-- Each turn of the loop joins one more block.
use Rattle.p3_util_examples.proofs.TransformLemmas.Rows.{BlocksJoined-more}
use Rattle.p3_util_examples.proofs.transform.stage.join_blocks.Goals as goal

pub loop-b-preserved : goal.loop-b-preserved
loop-b-preserved c =
    let twiddles = c.args.twiddles.now in
    BlocksJoined-more c.args.width c.args.half c.loop-b.b twiddles.stride twiddles.powers.now c.args.values.now c.loop-b.values c.join_halves.new.values
    c.loop-b.invariant c.join_halves.ensures.below c.join_halves.ensures.joined c.join_halves.ensures.others

-- Each turn of the loop joins one more column of the two rows.
use Rattle.std.proofs.Common.{◌+◌, ◌*◌, ◌<◌, rules, arith}
use Rattle.std.proofs.lemmas.Nat.{same_from_place}
use Rattle.p3_util_examples.proofs.TransformLemmas.Rows.{JoinedBelow-more}
use Rattle.p3_util_examples.proofs.transform.stage.join_rows.Goals as goal

pub loop-c-preserved : goal.loop-c-preserved
loop-c-preserved c =
    JoinedBelow-more c.args.width c.args.low c.args.high c.args.twiddle c.loop-c.c c.args.values.now c.loop-c.values c.add.result c.sub.result
    c.loop-c.invariant c.loop-c-test.true c.requires.apart c.requires.inside (search rules) (search rules)

pub returns-clause-others : goal.returns-clause-others
returns-clause-others c r not_low not_high j h =
    let width = c.args.width in
    c.loop-c.invariant.others (r * width + j) (λ k less.
    let in_row : k < width = omega arith in
    (λ e. not_low (same_from_place r j c.args.low k width h in_row e).0, λ e. not_high (same_from_place r j c.args.high k width h in_row e).0))

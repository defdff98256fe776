-- Each turn of the loop writes one more piece of the text.
use Rattle.std.proofs.Common.{arith}
use Rattle.std.proofs.lemmas.Bool.Decides.{nat_tests}
use Rattle.p3_util_run.proofs.Pieces.{part_more}
use Rattle.p3_util_run.proofs.program.write_all.Goals as goal

pub loop-rest-preserved : goal.loop-rest-preserved
loop-rest-preserved g c =
    (part_more _ _ _ _ c.args.text.now c.in-Ok.n c.loop-rest.invariant.0 c.in-Ok.ensures.bytes, grind (arith, nat_tests))

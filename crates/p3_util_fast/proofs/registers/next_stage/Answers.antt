-- Each new register interleaves the first or the second halves of two old ones.
use Rattle.std.proofs.Common.{arith}
use Rattle.std.proofs.lemmas.Grind.{common_steps}
use Rattle.p3_util_fast.proofs.registers.next_stage.Goals as goal

pub returns : goal.returns
returns g c = grind (arith, common_steps)

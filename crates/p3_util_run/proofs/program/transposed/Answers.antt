use Rattle.std.proofs.Common.{arith, rules}
use Rattle.std.proofs.lemmas.Grind.{common_steps}
use Rattle.p3_util_run.proofs.program.transposed.Goals as goal

pub returns-then-is_err-clause-misfit : goal.returns-then-is_err-clause-misfit
returns-then-is_err-clause-misfit c = search rules

pub returns-clause-ok : goal.returns-clause-ok
returns-clause-ok c = grind (arith, common_steps)

use Rattle.std.proofs.Common.{rules}
use Rattle.p3_util_run.proofs.program.answer.Goals as goal

pub returns-in-Ok-clause-ok : goal.returns-in-Ok-clause-ok
returns-in-Ok-clause-ok c = search rules

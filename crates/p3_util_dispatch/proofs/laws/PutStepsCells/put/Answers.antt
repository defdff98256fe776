-- One write makes one step of the holder.
use Rattle.p3_util_kernels.proofs.LawsLemmas.Steps.{one_put}
use Rattle.p3_util_dispatch.proofs.laws.PutStepsCells.put.Goals as goal

pub returns-clause-holder : goal.returns-clause-holder
returns-clause-holder g c = one_put _ _ c.args.i c.args.v c.put.ensures.written

-- One exchange makes one step of the holder.
use Rattle.p3_util_kernels.proofs.LawsLemmas.Steps.{one_swap}
use Rattle.p3_util_dispatch.proofs.laws.ExchangeStepsPlaces.exchange.Goals as goal

pub returns-clause-holder : goal.returns-clause-holder
returns-clause-holder g c = one_swap _ _ c.args.i c.args.j c.exchange.ensures.exchanged

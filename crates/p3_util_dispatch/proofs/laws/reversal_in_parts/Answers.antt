-- The law for a reversal.
use Rattle.p3_util_dispatch.proofs.PartsLaw.{parts-apart, swaps-reverse, swaps-stay}
use Rattle.p3_util_kernels.proofs.PlacesLemmas.WrittenPlaces.{AreOnceAmong-weaker}
use Rattle.p3_util_dispatch.proofs.laws.reversal_in_parts.Goals as goal

pub returns-clause-stay : goal.returns-clause-stay
returns-clause-stay g c len number steps less of alone = AreOnceAmong-weaker _ _ _ (λ p at. at.0) (swaps-stay c.args.plan len number steps less of alone)

pub returns-clause-apart : goal.returns-clause-apart
returns-clause-apart g c = parts-apart c.args.plan

pub returns-clause-whole : goal.returns-clause-whole
returns-clause-whole g c = swaps-reverse c.args.plan

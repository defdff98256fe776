-- The law for a transpose.
use Rattle.p3_util_dispatch.proofs.PartsLaw.{puts-count, puts-stay, puts-transpose, regions-apart}
use Rattle.p3_util_kernels.proofs.PlacesLemmas.WrittenPlaces.{AreOnceAmong-weaker}
use Rattle.p3_util_dispatch.proofs.laws.transpose_in_parts.Goals as goal

pub returns-clause-stay : goal.returns-clause-stay
returns-clause-stay g c number blank steps less fits strange alone =
    AreOnceAmong-weaker _ _ _ (λ p at. at.0) (puts-stay c.args.plan blank fits strange number steps less alone)

pub returns-clause-apart : goal.returns-clause-apart
returns-clause-apart g c = regions-apart c.args.plan

pub returns-clause-whole : goal.returns-clause-whole
returns-clause-whole g c input old item blank lists all input_fits old_fits item_is fits strange alone is = (
  puts-transpose c.args.plan blank fits strange lists all alone is input old item input_fits old_fits item_is,
  puts-count c.args.plan blank fits strange lists all alone is,
)

use Rattle.p3_util.proofs.Callers.{reversed_by_places}
use Rattle.p3_util_examples.proofs.lemmas.reversed_if_placed.Goals as goal

pub returns : goal.returns
returns g c = reversed_by_places c.requires.0 _ _ c.requires.1 c.requires.2 c.requires.3

use Rattle.std.proofs.Common.{rules}
use Rattle.p3_util_kernels.proofs.places.slices.SlicePlacesPlaces.exchange.Goals as goal

pub returns-clause-exchanged : goal.returns-clause-exchanged
returns-clause-exchanged g c = search rules

use Rattle.std.proofs.Common.{rules}
use Rattle.p3_util.proofs.views.base_slice_mut.Flattened.get_mut.Goals as goal

pub returns : goal.returns
returns g c = search rules

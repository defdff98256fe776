-- A run of the iterator gives the items in order.
use Rattle.std.specs.Map.Iter.{deref}
use Rattle.p3_util.proofs.MapLemmas.{run_in_order}
use Rattle.p3_util.proofs.views.base_iter.BaseIter.new.Goals as goal

pub returns-clause-runs : goal.returns-clause-runs
returns-clause-runs g c = run_in_order deref

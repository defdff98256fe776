use Rattle.std.proofs.Common.{rules}
use Rattle.p3_util.proofs.ZipEqRuns.{asked-runs, pairs-runs, pairs-length}
use Rattle.p3_util.proofs.zip_eq.zip_eq.Goals as goal

-- This stands before `returns-clause-length`, which needs the same test of the lengths, so that the
-- checker names this clause first if the test is missing.
pub returns-clause-lengths : goal.returns-clause-lengths
returns-clause-lengths g c = search rules

pub returns-clause-runs : goal.returns-clause-runs
returns-clause-runs g c = pairs-runs g.A.IntoIter.Iterator.next_gives g.B.IntoIter.Iterator.next_gives _

pub returns-clause-asked : goal.returns-clause-asked
returns-clause-asked g c = asked-runs g.A.IntoIter.Iterator.next_gives g.B.IntoIter.Iterator.next_gives _

pub returns-clause-length : goal.returns-clause-length
returns-clause-length g c = pairs-length g.A.IntoIter.Iterator.next_gives g.B.IntoIter.Iterator.next_gives g.A.IntoIter.Iterator.remaining g.B.IntoIter.Iterator.remaining _ (search rules)

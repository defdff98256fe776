-- What a run of the iterator gives, by the lemma on padded runs.
use Rattle.std.proofs.Common.{refl}
use Rattle.p3_util.proofs.PaddedRuns.{padded-runs}
use Rattle.p3_util.proofs.chunks.iter_array_chunks_padded.Goals as goal

pub returns-clause-runs : goal.returns-clause-runs
returns-clause-runs g c = padded-runs g.I.IntoIter.Iterator.next_gives _ refl

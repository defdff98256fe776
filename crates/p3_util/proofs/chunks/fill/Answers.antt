-- The loop that fills the buffer: by the lemmas on `Fills`.
use Rattle.p3_util.proofs.FilledChunk.{Fills-push}
use Rattle.p3_util.proofs.chunks.fill.Goals as goal

pub loop-len-preserved : goal.loop-len-preserved
loop-len-preserved g c = Fills-push c.loop-len.invariant c.loop-len-test.true c.in-Some.ensures.steps c.in-Some.ensures.goes

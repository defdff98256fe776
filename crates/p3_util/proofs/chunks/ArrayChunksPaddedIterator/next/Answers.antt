-- The loop that fills a chunk, and the progress of a call that returned a chunk: by the lemmas on `Fills`.
use Rattle.std.proofs.Common.{◌<◌, refl, arith}
use Rattle.std.proofs.lemmas.Grind.{common_steps}
use Rattle.p3_util.proofs.FilledChunk.{Fills-push, Fills-full, Fills-short, Fills-full_progress, Fills-last_progress}
use Rattle.p3_util.proofs.chunks.ArrayChunksPaddedIterator.next.Goals.{else-loop-len-test, then-loop-len-test+in_default}
use Rattle.p3_util.proofs.chunks.ArrayChunksPaddedIterator.next.Goals as goal

pub loop-len-preserved : goal.loop-len-preserved
loop-len-preserved g c = (Fills-push c.loop-len.invariant.0 c.loop-len-test.true c.in-Some.ensures.steps c.in-Some.ensures.goes, c.loop-len.invariant.1, c.loop-len.invariant.2)

pub returns-else-len-eq0-clause-steps : goal.returns-else-len-eq0-clause-steps
returns-else-len-eq0-clause-steps g c =
    let some : 0 < c.loop-len.len = omega (arith, c.if-len-eq0.false) in
    let h = c.loop-len.invariant in
    elim c.loop-len-test.branch [
      | else-loop-len-test w ↦ rw (w.self-is, h.2) (h.1, (c.if-self.false, Fills-full _ h.0 some w.loop-len-test.false))
      | then-loop-len-test+in_default w ↦ rw w.self-is (h.1, (c.if-self.false, Fills-short _ h.0 some w.loop-len-test.true w.in_default.ensures.steps))
    ]

pub returns-else-len-eq0-clause-goes : goal.returns-else-len-eq0-clause-goes
returns-else-len-eq0-clause-goes g c =
    let some : 0 < c.loop-len.len = omega (arith, c.if-len-eq0.false) in
    let h = c.loop-len.invariant in
    let more : 0 < g.row.N = omega (arith, some, h.0.within) in
    elim c.loop-len-test.branch [
      | else-loop-len-test w ↦ rw w.self-is (Fills-full_progress g.I.Iterator.can_next g.I.Iterator.remaining _ h.0 c.if-self.false h.2 more w.loop-len-test.false)
      | then-loop-len-test+in_default w ↦ rw w.self-is (Fills-last_progress g.I.Iterator.can_next g.I.Iterator.remaining _ h.0 c.if-self.false refl more some)
    ]

pub loop-len-init : goal.loop-len-init
loop-len-init g c = grind (arith, common_steps)

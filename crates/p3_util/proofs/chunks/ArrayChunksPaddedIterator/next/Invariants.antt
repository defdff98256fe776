use Rattle.std.proofs.Common.{◌≡◌, ◌-◌, false, replicate}
use Rattle.p3_util.proofs.FilledChunk.{Fills}
use Rattle.p3_util.proofs.chunks.ArrayChunksPaddedIterator.next.Given as goal

-- the items that came so far are at the front of the chunk, and the iterator is not done
abbrev pub invariant-loop-len : goal.invariant-loop-len
invariant-loop-len g l =
    Fills g.I.Iterator.can_next g.I.Iterator.next_gives g.I.Iterator.remaining g.row.N (replicate g.row.N l.fn.self.default) l.fn.self.iter l.chunk l.len l.self.iter
    × (l.self.default ≡ l.fn.self.default) × (l.self.done ≡ false)

abbrev pub decreases-loop-len : goal.decreases-loop-len
decreases-loop-len g l = g.row.N - l.len

use Rattle.std.proofs.Common.{◌-◌}
use Rattle.p3_util.proofs.FilledChunk.{Fills}
use Rattle.p3_util.proofs.chunks.fill.Given as goal

-- the items that came so far are at the front of the buffer
abbrev pub invariant-loop-len : goal.invariant-loop-len
invariant-loop-len g l = Fills g.I.Iterator.can_next g.I.Iterator.next_gives g.I.Iterator.remaining g.row.N l.fn.buf l.fn.iter l.buf l.len l.iter

abbrev pub decreases-loop-len : goal.decreases-loop-len
decreases-loop-len g l = g.row.N - l.len

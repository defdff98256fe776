use denote.Param.Always.{always_mut}
use Rattle.std.specs.Fn.{CalledAt}
use Rattle.std.specs.Iterator.{IsFinite, size}
use Rattle.p3_util.proofs.WholePieces.{Cuts}
use Rattle.p3_util.proofs.chunks.apply_to_chunks.Given as goal

-- the items so far are whole pieces, which the function took
abbrev pub invariant-loop-buf : goal.invariant-loop-buf
invariant-loop-buf g l =
    Cuts g.I.IntoIterator.into_iter_gives g.I.IntoIter.Iterator.next_gives (λ f piece h. CalledAt g.H.FnMut f piece tt h) g.row.BUFLEN l.fn.input l.fn.func l.iter l.func
    × always_mut g.H.FnMut l.func
    × g.I.IntoIter.Iterator.can_next l.iter
    × IsFinite (g.I.IntoIter.Iterator.remaining l.iter)

abbrev pub decreases-loop-buf : goal.decreases-loop-buf
decreases-loop-buf g l = size (g.I.IntoIter.Iterator.remaining l.iter)

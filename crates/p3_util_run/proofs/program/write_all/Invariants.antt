use Rattle.std.proofs.Common.{◌≡◌, length}
use Rattle.p3_util_run.proofs.Pieces.{IsPartOf}
use Rattle.p3_util_run.proofs.program.write_all.Given as goal

-- what was written so far and the rest are the text
abbrev pub invariant-loop-rest : goal.invariant-loop-rest
invariant-loop-rest g l =
    IsPartOf (g.W.Write.contents l.fn.writer.inner) (g.W.Write.contents l.writer.inner) l.rest l.fn.text
    × (l.writer.failures ≡ l.fn.writer.failures)

abbrev pub decreases-loop-rest : goal.decreases-loop-rest
decreases-loop-rest g l = length l.rest

use Rattle.std.proofs.Common.{◌≡◌, ◌-◌, ◌^◌, vec_len}
use Rattle.std.specs.Io.KnownBytes.{Consumes}
use Rattle.p3_util_run.specs.declared.watched.InputEnd.TheVariants.{Ahead}
use Rattle.p3_util_run.proofs.program.read_all.Given as goal

-- the input so far is what was taken from the reader
abbrev pub invariant-reads : goal.invariant-reads
invariant-reads g l =
    Consumes (g.R.Read.remaining l.fn.reader.inner) (g.R.Read.remaining l.reader.inner) l.input.items
    × (l.reader.failures ≡ l.fn.reader.failures)
    × (l.fn.reader.input_end ≡ Ahead → l.reader.input_end ≡ Ahead)

abbrev pub decreases-reads : goal.decreases-reads
decreases-reads g l = 2 ^ 63 - vec_len l.input

use Rattle.std.proofs.Common.{◌≡◌, length}
use denote.Text.{Utf8}
use denote.Shadow.{shadow}
use Rattle.p3_util_kernels.specs.Names.{last_part}
use Rattle.p3_util_kernels.proofs.bits.names.last_part.Given as goal

-- the rest of the text has the same last part
abbrev pub invariant-loop-after : goal.invariant-loop-after
invariant-loop-after l = shadow (Utf8 l.part) × (last_part l.part ≡ last_part l.text)

abbrev pub decreases-loop-after : goal.decreases-loop-after
decreases-loop-after l = length l.part

use Rattle.std.proofs.Common.{◌≡◌, ◌+◌, ◌≤◌, ◌++◌, length, string_bytes, string_len, string_capacity}
use denote.Text.{Utf8}
use denote.Shadow.{shadow}
use Rattle.p3_util_kernels.specs.Names.{short_name}
use Rattle.p3_util_kernels.proofs.bits.names.pretty_name.Given as goal

-- what was joined so far, with the short name of the rest, is the short name of all
abbrev pub invariant-loop-end : goal.invariant-loop-end
invariant-loop-end l = record {
  text : shadow (Utf8 l.rest);
  joined : string_bytes l.short ++ short_name l.rest ≡ short_name l.name;
  room : string_len l.short + length l.rest ≤ string_capacity l.short;
}

abbrev pub decreases-loop-end : goal.decreases-loop-end
decreases-loop-end l = length l.rest

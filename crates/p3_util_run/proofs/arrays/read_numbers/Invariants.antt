use Rattle.std.proofs.Common.{◌≡◌, map, take}
use Rattle.serde_json.specs.View.{view}
use Rattle.p3_util_run.specs.Arrays.{number_of}
use Rattle.p3_util_run.proofs.arrays.read_numbers.Given as goal

-- the items so far are the numbers that were read
abbrev pub invariant-loop-item : goal.invariant-loop-item
invariant-loop-item l = map view (take l.item-index l.items) ≡ map number_of l.numbers.items

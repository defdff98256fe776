use Rattle.std.proofs.Common.{◌≡◌, map, take}
use Rattle.serde_json.specs.View.{view}
use Rattle.p3_util_run.specs.Arrays.{number_of}
use Rattle.p3_util_run.proofs.arrays.array_text.Given as goal

-- the numbers so far are items of the array
abbrev pub invariant-loop-number : goal.invariant-loop-number
invariant-loop-number l = map view l.items.items ≡ map number_of (take l.number-index l.fn.numbers.items)

use Rattle.std.proofs.Common.{◌≡◌, length}
use Rattle.p3_util_fast.specs.BlockPut.{AreRows}
use Rattle.p3_util_fast.proofs.bulk.slices.rows_of.Given as goal

-- the rows before r are there
abbrev pub invariant-loop-r : goal.invariant-loop-r
invariant-loop-r g l = record { len : length l.rows ≡ 16; are : AreRows l.block l.r l.items l.rows }

use Rattle.std.proofs.Common.{◌*◌}
use Rattle.p3_util_fast.specs.BlockPut.{IsBlockPut}
use Rattle.p3_util_fast.proofs.bulk.slices.put_rows.Given as goal

-- the columns before `col` are put
abbrev pub invariant-loop-col : goal.invariant-loop-col
invariant-loop-col g l = IsBlockPut (l.block.rows * l.col) l.block l.items l.fn.values l.values

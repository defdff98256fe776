use Rattle.std.proofs.Common.{◌+◌, ◌*◌}
use Rattle.p3_util_fast.specs.BlockPut.{IsBlockPut}
use Rattle.p3_util_fast.proofs.bulk.Blocked.put_block_singly.Given as goal

-- the columns before c of the block are put, and of column c the items before row r
abbrev pub invariant-loop-c : goal.invariant-loop-c
invariant-loop-c g l = record {
  put : IsBlockPut (l.fn.block.rows * l.c) l.fn.block (g.R.Source.items l.source) (g.Self.Cells.items l.fn.self) (g.Self.Cells.items l.self);
  holder : g.Self.Cells.same_holder (l.fn.block.rows * l.c) l.fn.self l.self;
}

abbrev pub invariant-loop-r : goal.invariant-loop-r
invariant-loop-r g l = record {
  put : IsBlockPut (l.fn.block.rows * l.c + l.r) l.fn.block (g.R.Source.items l.source) (g.Self.Cells.items l.fn.self) (g.Self.Cells.items l.self);
  holder : g.Self.Cells.same_holder (l.fn.block.rows * l.c + l.r) l.fn.self l.self;
}

use Rattle.std.proofs.Common.{◌≡◌, ◌*◌}
use Rattle.p3_util_fast.specs.Registers.{ColumnsPut}
use Rattle.p3_util_fast.proofs.registers.line_blocks.put_by_lines.Given as goal

-- the columns of the first parts are put
abbrev pub invariant-loop-part : goal.invariant-loop-part
invariant-loop-part g l = record {
  put : ColumnsPut 0 (l.part * l.side) l.block (g.S.Loads.items l.source) (g.M.Loads.items l.fn.cells) (g.M.Loads.items l.cells);
  reach : g.M.Loads.reach l.cells ≡ g.M.Loads.reach l.fn.cells;
  holder : g.M.Runs.same_holder (l.block.rows * (l.part * l.side)) l.fn.cells l.cells;
}

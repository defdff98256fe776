use Rattle.std.proofs.Common.{arith}
use Rattle.p3_util_fast.proofs.grid.Grid.tile_pair.Goals as goal

pub returns-clause-rows : goal.returns-clause-rows
returns-clause-rows c = c.tile_rows.ensures c.args.x c.args.y c.requires.whole_x c.requires.x_below (omega arith)

pub returns-clause-cols : goal.returns-clause-cols
returns-clause-cols c = c.tile_rows-2.ensures c.args.y c.args.x c.requires.whole_y c.requires.y_below (omega arith)

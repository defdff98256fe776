use Rattle.std.proofs.Common.{◌+◌, ◌-◌}
use Rattle.p3_util_kernels.proofs.transpose.square.+swap_block.Given as goal

abbrev pub decreases-swap_block : goal.decreases-swap_block
decreases-swap_block g l = l.rows.end - l.rows.start + (l.cols.end - l.cols.start)

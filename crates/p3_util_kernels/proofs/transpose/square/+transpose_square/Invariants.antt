use Rattle.std.proofs.Common.{◌-◌}
use Rattle.p3_util_kernels.proofs.transpose.square.+transpose_square.Given as goal

abbrev pub decreases-transpose_square : goal.decreases-transpose_square
decreases-transpose_square g l = l.lines.end - l.lines.start

use Rattle.std.proofs.Common.{◌-◌}
use Rattle.p3_util_kernels.specs.Logarithms.{clog}
use Rattle.p3_util_fast.proofs.grid.+exchange_quadrants.Given as goal

-- how often the side can be halved until it is at most 8, which is 2 ^ 3. This is how deep the calls nest at most
abbrev pub decreases-exchange_quadrants : goal.decreases-exchange_quadrants
decreases-exchange_quadrants g l = clog l.size - 3

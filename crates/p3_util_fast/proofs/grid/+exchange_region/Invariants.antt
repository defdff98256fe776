use Rattle.std.proofs.Common.{◌+◌, ◌-◌}
use Rattle.p3_util_kernels.specs.Logarithms.{clog}
use Rattle.p3_util_kernels.specs.Region.{cols_of, rows_of}
use Rattle.p3_util_fast.proofs.grid.+exchange_region.Given as goal

-- how often the sides can be halved until both are at most 64, which is 2 ^ 6. This is how deep the calls nest at most
abbrev pub decreases-exchange_region : goal.decreases-exchange_region
decreases-exchange_region g l = (clog (rows_of l.region) - 6) + (clog (cols_of l.region) - 6)

-- The entry of the table is the exponent, by the lemmas on the tables.
use Rattle.p3_util_kernels.proofs.BitsLemmas.Tables.{exponent_found, exponent_bound}
use Rattle.p3_util_kernels.proofs.bits.exponent_of_three.Goals as goal

pub returns-clause-found : goal.returns-clause-found
returns-clause-found c e low high = exponent_found c.args.top e c.requires low high

pub returns-clause-bound : goal.returns-clause-bound
returns-clause-bound c = exponent_bound c.args.top c.requires

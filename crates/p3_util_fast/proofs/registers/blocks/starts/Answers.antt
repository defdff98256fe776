-- Each row is one of eight.
use Rattle.std.proofs.Common.{◌%◌, arith}
use Rattle.p3_util_fast.proofs.RegistersSteps.{below_eight}
use Rattle.p3_util_fast.proofs.registers.blocks.starts.Goals as goal

pub returns-clause-are : goal.returns-clause-are
returns-clause-are c =
    below_eight _ c.start.ensures c.start-2.ensures c.start-3.ensures c.start-4.ensures c.start-5.ensures c.start-6.ensures c.start-7.ensures c.start-8.ensures

pub returns-clause-fit : goal.returns-clause-fit
returns-clause-fit c k h = rw (returns-clause-are c k h) (c.requires.fits (k % c.args.count) (grind (arith, c.requires.known)))

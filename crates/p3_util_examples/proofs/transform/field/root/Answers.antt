-- The roots of the table are below the prime, and root k is one as `IsRoot` says.
use Rattle.std.proofs.Common.{arith}
use Rattle.p3_util_examples.proofs.TransformLemmas.Roots.{IsRoot-table, root-lt}
use Rattle.p3_util_examples.proofs.transform.field.root.Goals as goal

pub returns-clause-reduced : goal.returns-clause-reduced
returns-clause-reduced c = root-lt c.args.levels (omega arith)

pub returns-clause-order : goal.returns-clause-order
returns-clause-order c = IsRoot-table c.args.levels c.requires

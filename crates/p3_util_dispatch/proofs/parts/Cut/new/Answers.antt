-- How many parts there are and where they begin, by the lemmas on cutting a length.
use Rattle.std.proofs.Common.{arith}
use Rattle.p3_util_dispatch.proofs.CutParts.{parts-few, parts-least, start-aligned}
use Rattle.p3_util_dispatch.proofs.parts.Cut.new.Goals as goal

pub returns-clause-units : goal.returns-clause-units
returns-clause-units c =
    start-aligned c.args.len c.args.unit c.max-2.result c.saturating_mul.result (omega arith) (omega arith) (omega arith) c.saturating_mul.ensures

pub returns-clause-few : goal.returns-clause-few
returns-clause-few c =
    let few = parts-few c.args.len c.args.unit c.max-2.result c.saturating_mul.result (omega arith) (omega arith) (omega arith) c.saturating_mul.ensures
    c.max.result (omega arith) (rw (c.div_ceil-units.ensures, c.div_ceil.ensures) at c.max-2.ensures) in
    omega arith

pub returns-clause-least : goal.returns-clause-least
returns-clause-least c units some few =
    parts-least c.args.len c.args.unit c.max-2.result c.saturating_mul.result (omega arith) (omega arith) (omega arith) c.saturating_mul.ensures c.max.result
    (omega arith) (rw (c.div_ceil-units.ensures, c.div_ceil.ensures) at c.max-2.ensures) units some (omega (arith, few))

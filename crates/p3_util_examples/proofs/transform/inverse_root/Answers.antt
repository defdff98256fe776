-- The inverse of a root is a root.
use Rattle.std.proofs.Common.{◌≡◌, ◌-◌, ◌%◌, ◌^◌, get_or, rules}
use Rattle.p3_util_examples.specs.declared.transform.field.TheConstants.{PRIME, ROOTS}
use Rattle.p3_util_examples.proofs.TransformLemmas.Inverse.{IsRoot-inverse}
use Rattle.p3_util_examples.proofs.TransformLemmas.Roots.{IsRoot-table}
use Rattle.p3_util_examples.proofs.transform.inverse_root.Goals as goal

pub returns-clause-root : goal.returns-clause-root
returns-clause-root c =
    let k = c.args.levels in
    let power : c.pow.result ≡ get_or ROOTS k 0 ^ (2 ^ k - 1) % PRIME = search rules in
    IsRoot-inverse k (get_or ROOTS k 0) c.pow.result (IsRoot-table k c.requires) power

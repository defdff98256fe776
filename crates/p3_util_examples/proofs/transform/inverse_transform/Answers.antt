-- A transform with the inverse of the root, and then each number scaled, is the inverse transform.
use Rattle.std.proofs.Common.{◌≡◌, length, get_or, rules}
use Rattle.p3_util_examples.specs.declared.transform.field.TheConstants.{ROOTS}
use Rattle.p3_util_examples.proofs.TransformLemmas.Inverse.{IsInverseTransformed-scaled}
use Rattle.p3_util_examples.proofs.transform.inverse_transform.Goals as goal

pub returns-clause-transformed : goal.returns-clause-transformed
returns-clause-transformed c =
    let k = c.args.levels in
    let mid = c.transform_by.new.values in
    let new = c.scale.new.values in
    let same : length new ≡ length mid = search rules in
    IsInverseTransformed-scaled k (get_or ROOTS k 0) c.inverse_root.result c.pow.result c.args.width c.args.values.now mid new
    c.inverse_root.ensures.power c.pow.ensures c.requires.len c.in_ok-transform_by.ensures.transformed same c.scale.ensures.scaled

-- Transforming and transforming back gives the matrix.
use Rattle.std.proofs.Common.{◌≡◌, ◌*◌, ◌^◌, length, get_or, ap, ◌∙◌}
use Rattle.p3_util_examples.specs.Transform.{IsInverseTransformed, IsTransformed}
use Rattle.p3_util_examples.specs.declared.transform.field.TheConstants.{ROOTS}
use Rattle.p3_util_examples.proofs.TransformLemmas.Law.{AreBelowPrime-each, IsInverseTransformed-same_list, Matrix-same}
use Rattle.p3_util_examples.proofs.TransformLemmas.Roots.{IsRoot-table, root-order}
use Rattle.p3_util_examples.proofs.transform.transform_and_back.Goals as goal

pub returns : goal.returns
returns c =
    let old = c.args.matrix.now in
    let mid = c.transform_columns.new.matrix in
    let new = c.inverse_transform_columns.new.matrix in
    let there = c.in_ok-transform_columns.ensures in
    let inverse = c.in_ok-inverse_transform_columns.ensures in
    let levels = c.requires.levels in
    let k = levels.0 in
    let root = get_or ROOTS k 0 in
    let transformed : IsTransformed root old.width (2 ^ k) old.items mid.items = rw levels.2 at (there.transformed k levels.2) in
    let back : IsInverseTransformed k root old.width mid.items new.items = rw there.width at (inverse.transformed k (there.height ∙ levels.2)) in
    let whole : length old.items ≡ old.width * 2 ^ k = c.height.ensures.whole ∙ ap (λ n. old.width * n) levels.2 in
    Matrix-same new old
    (IsInverseTransformed-same_list k root old.width old.items mid.items new.items (IsRoot-table k levels.1) (root-order k levels.1) (AreBelowPrime-each old.items c.requires.below) whole
    transformed back)
    (inverse.width ∙ there.width) (inverse.height ∙ there.height)

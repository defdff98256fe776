-- The list that is written back holds the inverse transform.
use Rattle.std.proofs.Common.{◌≡◌, length, sym, ap, ◌∙◌, rules}
use Rattle.p3_util_examples.proofs.TransformLemmas.Inverse.{IsInverseTransformed-same}
use Rattle.p3_util_kernels.proofs.BitsLemmas.Powers.{exponent-same}
use Rattle.p3_util_examples.proofs.TransformLemmas.Stages.{written_back}
use Rattle.p3_util_examples.proofs.transform.inverse_transform_columns.Goals as goal

pub returns-clause-transformed : goal.returns-clause-transformed
returns-clause-transformed c k e =
    let levels = c.levels_of-levels in
    let r = levels.result in
    let m = c.matrix.inside in
    let same : r ≡ k = exponent-same r k (sym levels.ensures.power ∙ e) in
    let new = c.inverse_transform.new.values in
    let new_length : length new ≡ m.values.len = search rules in
    let old_length : length m.values.items ≡ m.values.len = search rules in
    IsInverseTransformed-same r k m.width c.args.matrix.now.width c.deref_mut.result.now c.args.matrix.now.items new _
    same (ap (λ m. m.width) c.matrix.view_is) (c.deref_mut.ensures.value ∙ ap (λ m. m.items) c.matrix.view_is)
    (written_back m.values.len new m.values.items new_length old_length) c.in_ok-inverse_transform.ensures.transformed

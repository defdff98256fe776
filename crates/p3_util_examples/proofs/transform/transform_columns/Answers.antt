-- The list that is written back holds the transform.
use Rattle.std.proofs.Common.{◌≡◌, ◌^◌, length, get_or, sym, ap, ◌∙◌, rules}
use Rattle.p3_util_examples.specs.declared.transform.field.TheConstants.{ROOTS}
use Rattle.p3_util_kernels.proofs.BitsLemmas.Powers.{exponent-same}
use Rattle.p3_util_examples.proofs.TransformLemmas.Stages.{IsTransformed-same, written_back}
use Rattle.p3_util_examples.proofs.transform.transform_columns.Goals as goal

pub returns-clause-transformed : goal.returns-clause-transformed
returns-clause-transformed c k e =
    let levels = c.levels_of-levels in
    let r = levels.result in
    let m = c.matrix.inside in
    let same : r ≡ k = exponent-same r k (sym levels.ensures.power ∙ e) in
    let new = c.transform_by.new.values in
    let new_length : length new ≡ m.values.len = search rules in
    let old_length : length m.values.items ≡ m.values.len = search rules in
    IsTransformed-same c.root.result (get_or ROOTS k 0) m.width c.args.matrix.now.width (2 ^ r) c.args.matrix.now.height c.deref_mut.result.now c.args.matrix.now.items new _
    (c.root.ensures.value ∙ ap (λ n. get_or ROOTS n 0) same) (ap (λ m. m.width) c.matrix.view_is) (sym levels.ensures.power)
    (c.deref_mut.ensures.value ∙ ap (λ m. m.items) c.matrix.view_is) (written_back m.values.len new m.values.items new_length old_length)
    c.in_ok-transform_by.ensures.transformed

-- The height has only one logarithm, the one for which the precondition has the bound.
use Rattle.std.proofs.Common.{◌≡◌, sym, ap, ◌∙◌, arith}
use Rattle.p3_util_kernels.proofs.BitsLemmas.Powers.{exponent-same}
use Rattle.p3_util_examples.proofs.transform.levels_of.Goals as goal

pub returns-clause-bound : goal.returns-clause-bound
returns-clause-bound c =
    let levels = c.log2_strict_usize in
    let known = c.requires.levels in
    let height = ap (λ m. m.height) c.matrix.view_is in
    let same : levels.result ≡ known.0 = exponent-same levels.result known.0 (sym levels.ensures.power ∙ height ∙ known.2) in
    omega arith

-- The height is a power of two exactly if it is the power with its logarithm as exponent.
use Rattle.std.proofs.Common.{◌≡◌, ◌≤◌, ◌*◌, ◌%◌, ◌^◌, ◌∙◌, eqb-true, sym, ap, eq-eqb, arith}
use Rattle.std.proofs.lemmas.Nat.{one_shl}
use Rattle.p3_util_kernels.proofs.BitsLemmas.Powers.{exponent-le}
use Rattle.p3_util_examples.proofs.transform.has_root.Goals as goal

pub returns-then-levels-le-MOST_STAGES : goal.returns-then-levels-le-MOST_STAGES
returns-then-levels-le-MOST_STAGES c =
    let levels = c.log2_ceil_usize-levels in
    let few : levels.result ≤ 27 = c.if-levels-le-MOST_STAGES.true in
    let power : 1 * 2 ^ levels.result % 2 ^ 64 ≡ 2 ^ levels.result = one_shl levels.result 64 (omega arith) in (
      λ h. (levels.result, few, eqb-true _ _ h ∙ power),
      λ (k, least, e).
          let le : levels.result ≤ k = levels.ensures.least k (omega arith) in
          let ge : k ≤ levels.result = exponent-le k levels.result (omega (arith, levels.ensures.enough)) in
          let same : k ≡ levels.result = omega arith in
          let all : c.args.height ≡ 1 * 2 ^ levels.result % 2 ^ 64 = e ∙ ap (λ n. 2 ^ n) same ∙ sym power in
          eq-eqb _ _ all,
    )

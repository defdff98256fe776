-- The number 0 is not a power of three.
use Rattle.std.proofs.Common.{ℕ, subst, sym, ◌↔◌, IsTrue, ◌==◌, arith}
use mathlib.Core.Bool.{not}
use Rattle.p3_util_kernels.specs.Powers.{IsPowerOfThree}
use Rattle.p3_util_kernels.proofs.BitsLemmas.Powers.{three-pos}
use Rattle.p3_util_kernels.proofs.bits.is_power_of_three.Goals as goal

pub returns-else-n-ne0 : goal.returns-else-n-ne0
returns-else-n-ne0 c =
    let P : ℕ → Type 0 = λ n. IsTrue (not (n == 0)) ↔ IsPowerOfThree n in
    subst P (sym c.if-n-ne0.false) (λ t. cc, λ p. absurd (omega (arith, three-pos p.0, p.1)))

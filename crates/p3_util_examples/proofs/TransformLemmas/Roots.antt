-- The roots of the table, and their powers.
use Rattle.std.proofs.Common.{◌≡◌, ℕ, zero, suc, ◌+◌, ◌*◌, ◌%◌, ◌^◌, ◌<◌, ◌≤◌, get_or, inl, inr, sym, ap, ◌∙◌, arith}
use Rattle.std.proofs.Math.Nat.{mod-add-mod, pow-suc, pow-zero}
use Rattle.std.proofs.lemmas.Nat.{mod_below, pow-mod}
use Rattle.std.proofs.lemmas.Bool.{cases_lt}
use Rattle.p3_util_examples.specs.Stages.{IsRoot}
use Rattle.p3_util_examples.specs.declared.transform.field.TheConstants.{PRIME, ROOTS}
use Rattle.p3_util_examples.proofs.TransformLemmas.Numbers.{root-square}
use Rattle.p3_util_examples.proofs.TransformLemmas.Remainders.{pow-mul}

-- squaring root k + j j times gives root k
roots-down : (j k : ℕ) → k + j ≤ 27 → get_or ROOTS (k + j) 0 ^ 2 ^ j % PRIME ≡ get_or ROOTS k 0 % PRIME
roots-down zero k h =
    let place : k + 0 ≡ k = omega arith in
    let root = get_or ROOTS k 0 in
    let one : root ^ 1 ≡ root = pow-suc root 0 ∙ rw (pow-zero root) (omega arith) in
    rw place (ap (λ n. n % PRIME) one)
roots-down (suc j) k h =
    let next = get_or ROOTS (k + j + 1) 0 in
    let place : k + suc j ≡ k + j + 1 = omega arith in
    let order : 2 ^ suc j ≡ 2 * 2 ^ j = pow-suc 2 j ∙ omega arith in
    let square : next ^ (2 * 2 ^ j) ≡ (next ^ 2) ^ 2 ^ j = pow-mul next 2 (2 ^ j) in
    let table : get_or ROOTS (k + j) 0 ≡ next ^ 2 % PRIME = root-square (k + j) (omega arith) in
    rw (place, order, square)
    (sym (pow-mod (next ^ 2) (2 ^ j) PRIME) ∙ ap (λ n. n ^ 2 ^ j % PRIME) (sym table) ∙ roots-down j k (omega arith))

pub IsRoot-table : (k : ℕ) → k ≤ 27 → IsRoot k (get_or ROOTS k 0)
IsRoot-table k h j e =
    let place : k ≡ 1 + j = omega arith in
    let half : get_or ROOTS k 0 ^ 2 ^ j % PRIME ≡ get_or ROOTS 1 0 % PRIME =
    ap (λ n. get_or ROOTS n 0 ^ 2 ^ j % PRIME) place ∙ roots-down j 1 (omega arith) in
    sym (mod-add-mod (get_or ROOTS k 0 ^ 2 ^ j) PRIME 1) ∙ ap (λ n. (n + 1) % PRIME) half

-- each root is below the prime
pub root-lt : (k : ℕ) → k < 28 → get_or ROOTS k 0 < PRIME
root-lt k h = elim (cases_lt k 27) [
  | inl below ↦ rw (root-square k below) (mod_below (get_or ROOTS (k + 1) 0 ^ 2) PRIME (omega arith))
  | inr last ↦ let is : k ≡ 27 = omega arith in rw is (omega arith)
]

-- the order of each root divides 2 ^ k
pub root-order : (k : ℕ) → k ≤ 27 → get_or ROOTS k 0 ^ 2 ^ k % PRIME ≡ 1 % PRIME
root-order k h =
    let place : 0 + k ≡ k = omega arith in
    rw place at (roots-down k 0 (omega arith))

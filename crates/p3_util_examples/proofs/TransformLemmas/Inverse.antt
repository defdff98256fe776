-- The inverse transform is a transform with the inverse of the root, after which each number is scaled.
use Rattle.std.proofs.Common.{◌≡◌, ℕ, ◌+◌, ◌-◌, ◌*◌, ◌%◌, ◌^◌, ◌<◌, List, length, get_or, refl, sym, ap, ◌∙◌, arith}
use Rattle.std.proofs.Math.Nat.{mod-add-mod, mod-mod}
use Rattle.std.proofs.lemmas.Nat.{mul-add-lt, pow_pos, pow-add, pow-mod}
use Rattle.p3_util.specs.Sums.{sum_below}
use Rattle.p3_util_examples.specs.Stages.{IsRoot}
use Rattle.p3_util_examples.specs.Transform.{IsInverseTransformed, IsTransformed}
use Rattle.p3_util_examples.specs.declared.transform.field.TheConstants.{HALF, PRIME, ROOTS}
use Rattle.p3_util_examples.proofs.TransformLemmas.Remainders.{minus_one-odd, mod-mul, pow-mul}
use Rattle.p3_util_examples.proofs.TransformLemmas.Sums.{sum_below-mod}

-- the inverse of a root is a root
pub IsRoot-inverse : (k root inverse : ℕ) → IsRoot k root → inverse ≡ root ^ (2 ^ k - 1) % PRIME → IsRoot k inverse
IsRoot-inverse k root inverse is_root e h half =
    let z = root ^ 2 ^ h in
    let some : 0 < 2 ^ h = pow_pos h in
    let n = 2 ^ h - 1 in
    let order : 2 ^ k ≡ 2 ^ h * 2 = ap (λ m. 2 ^ m) half ∙ pow-add 2 h 1 in
    let exponent : (2 ^ k - 1) * 2 ^ h ≡ 2 ^ h * (n + n + 1) = rw order (grind arith) in
    let power : (root ^ (2 ^ k - 1)) ^ 2 ^ h ≡ z ^ (n + n + 1) =
    sym (pow-mul root (2 ^ k - 1) (2 ^ h)) ∙ ap (λ m. root ^ m) exponent ∙ pow-mul root (2 ^ h) (n + n + 1) in
    let same : inverse ^ 2 ^ h % PRIME ≡ z % PRIME =
    ap (λ m. m ^ 2 ^ h % PRIME) e ∙ pow-mod (root ^ (2 ^ k - 1)) (2 ^ h) PRIME ∙ ap (λ m. m % PRIME) power ∙ minus_one-odd PRIME z n (is_root h half) in
    sym (mod-add-mod (inverse ^ 2 ^ h) PRIME 1) ∙ ap (λ m. (m + 1) % PRIME) same ∙ mod-add-mod z PRIME 1 ∙ is_root h half

-- a transform with the inverse of the root, and then each number scaled
pub IsInverseTransformed-scaled : (k root inverse factor width : ℕ) (old mid new : List ℕ) → inverse ≡ root ^ (2 ^ k - 1) % PRIME → factor ≡ HALF ^ k % PRIME
    → length old ≡ width * 2 ^ k → IsTransformed inverse width (2 ^ k) old mid → length new ≡ length mid
    → ((i : ℕ) → i < length mid → get_or new i 0 ≡ get_or mid i 0 * factor % PRIME) → IsInverseTransformed k root width old new
IsInverseTransformed-scaled k root inverse factor width old mid new is_inverse is_factor len transformed same scaled = record {
  same_length = same ∙ transformed.same_length;
  places = λ r c hr hc.
      let all : length mid ≡ width * 2 ^ k = transformed.same_length ∙ len in
      let inside : r * width + c < length mid = rw all (mul-add-lt r width c (2 ^ k) hr hc) in
      let terms = sum_below (2 ^ k) (λ j. get_or old (j * width + c) 0 * inverse ^ (r * j)) in
      let wanted = sum_below (2 ^ k) (λ j. get_or old (j * width + c) 0 * (root ^ (2 ^ k - 1)) ^ (r * j)) in
      let item : get_or mid (r * width + c) 0 % PRIME ≡ wanted % PRIME =
      ap (λ n. n % PRIME) (transformed.places r c hr hc) ∙ mod-mod terms PRIME
      ∙ sum_below-mod PRIME (2 ^ k) _ _ (λ j h.
      let x = get_or old (j * width + c) 0 in
      let power : inverse ^ (r * j) % PRIME ≡ (root ^ (2 ^ k - 1)) ^ (r * j) % PRIME =
      ap (λ n. n ^ (r * j) % PRIME) is_inverse ∙ pow-mod (root ^ (2 ^ k - 1)) (r * j) PRIME in
      mod-mul PRIME x x (inverse ^ (r * j)) ((root ^ (2 ^ k - 1)) ^ (r * j)) refl power) in
      let by : factor % PRIME ≡ HALF ^ k % PRIME = ap (λ n. n % PRIME) is_factor ∙ mod-mod (HALF ^ k) PRIME in
      scaled (r * width + c) inside ∙ mod-mul PRIME (get_or mid (r * width + c) 0) wanted factor (HALF ^ k) item by;
}

-- the same for equal matrices under other names
pub IsInverseTransformed-same : (k k' width width' : ℕ) (old old' new new' : List ℕ) → k ≡ k' → width ≡ width' → old ≡ old' → new ≡ new'
    → IsInverseTransformed k (get_or ROOTS k 0) width old new → IsInverseTransformed k' (get_or ROOTS k' 0) width' old' new'
IsInverseTransformed-same k k' width width' old old' new new' a b c d t = rw (sym a, sym b, sym c, sym d) t

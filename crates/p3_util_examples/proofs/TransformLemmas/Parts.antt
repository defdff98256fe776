-- The transform of a part is joined from the transforms of its even and its odd items.
use Rattle.std.proofs.Common.{◌≡◌, ℕ, suc, ◌+◌, ◌-◌, ◌*◌, ◌%◌, ◌^◌, ◌<◌, refl, sym, ap, ◌∙◌, arith}
use Rattle.std.proofs.Math.Nat.{mod-mod, mul_comm, pow-suc, pow-zero}
use Rattle.std.proofs.lemmas.Nat.{pow-add, mul-pow}
use Rattle.p3_util.specs.Digits.{rev}
use Rattle.p3_util.specs.Sums.{sum_below}
use Rattle.p3_util_examples.specs.Stages.{part}
use Rattle.p3_util_examples.proofs.TransformLemmas.Remainders.{minus_one-square, minus_one-times, mod-add, mod-mul, one-power, pow-mul}
use Rattle.p3_util_examples.proofs.TransformLemmas.Sums.{rev-double, sum_below-halves, sum_below-mod}
use Rattle.p3_util_kernels.proofs.BitsLemmas.Digits.{rev-zero}
use Rattle.p3_util_kernels.proofs.BitsLemmas.Sums.{sum_below-same, sum_below-scale}

rev-even : (m b : ℕ) → rev (suc m) (2 * b) ≡ rev m b
rev-even m b =
    let none : 2 * b + 0 ≡ 2 * b = omega arith in
    sym (ap (rev (suc m)) none) ∙ rev-double m b 0 (omega arith) ∙ omega arith

rev-odd : (m b : ℕ) → rev (suc m) (2 * b + 1) ≡ 2 ^ m + rev m b
rev-odd m b = rev-double m b 1 (omega arith) ∙ omega arith

-- how two parts are joined, in integers
pub part-join : (x : ℕ → ℕ) (w m s b i : ℕ)
    → part x w m (suc s) b i ≡ part x w (suc m) s (2 * b) i + w ^ (2 ^ m * i) * part x w (suc m) s (2 * b + 1) i
part-join x w m s b i =
    let p : 2 ^ suc s ≡ 2 * 2 ^ s = pow-suc 2 s ∙ omega arith in
    let q : 2 ^ suc m ≡ 2 * 2 ^ m = pow-suc 2 m ∙ omega arith in
    let f : ℕ → ℕ = λ j. x (rev m b + j * 2 ^ m) * w ^ (2 ^ m * i * j) in
    let even : (j : ℕ) → j < 2 ^ s → f (2 * j) ≡ x (rev (suc m) (2 * b) + j * 2 ^ suc m) * w ^ (2 ^ suc m * i * j) = λ j h.
    let place : rev m b + 2 * j * 2 ^ m ≡ rev (suc m) (2 * b) + j * 2 ^ suc m = rw (rev-even m b, q) (grind arith) in
    let power : 2 ^ m * i * (2 * j) ≡ 2 ^ suc m * i * j = rw q (grind arith) in
    rw (place, power) refl in
    let odd : (j : ℕ) → j < 2 ^ s → f (2 * j + 1) ≡ w ^ (2 ^ m * i) * (x (rev (suc m) (2 * b + 1) + j * 2 ^ suc m) * w ^ (2 ^ suc m * i * j)) = λ j h.
    let place : rev m b + (2 * j + 1) * 2 ^ m ≡ rev (suc m) (2 * b + 1) + j * 2 ^ suc m = rw (rev-odd m b, q) (grind arith) in
    let power : 2 ^ m * i * (2 * j + 1) ≡ 2 ^ m * i + 2 ^ suc m * i * j = rw q (grind arith) in
    rw (place, power, pow-add w (2 ^ m * i) (2 ^ suc m * i * j)) (grind arith) in
    rw p (sum_below-halves (2 ^ s) f
    ∙ ap (λ n. n + sum_below (2 ^ s) (λ j. f (2 * j + 1))) (sum_below-same (2 ^ s) _ _ even)
    ∙ ap (λ n. part x w (suc m) s (2 * b) i + n) (sum_below-same (2 ^ s) _ _ odd ∙ sum_below-scale (w ^ (2 ^ m * i)) (2 ^ s) _))

-- a part repeats after its last place
part-again : (p : ℕ) (x : ℕ → ℕ) (w m s b i : ℕ) → (w ^ (2 ^ (m + s)) + 1) % p ≡ 0 → part x w (suc m) s b (2 ^ s + i) % p ≡ part x w (suc m) s b i % p
part-again p x w m s b i minus_one =
    let z = w ^ (2 ^ (m + s)) in
    let q : 2 ^ suc m ≡ 2 * 2 ^ m = pow-suc 2 m ∙ omega arith in
    let both : 2 ^ (m + s) ≡ 2 ^ m * 2 ^ s = pow-add 2 m s in
    sum_below-mod p (2 ^ s) _ _ (λ j h.
    let more : 2 ^ suc m * (2 ^ s + i) * j ≡ 2 ^ suc m * i * j + (2 ^ (m + s) * j + 2 ^ (m + s) * j) = rw (q, both) (grind arith) in
    let once : w ^ (2 ^ (m + s) * j) ≡ z ^ j = pow-mul w (2 ^ (m + s)) j in
    let twice : w ^ (2 ^ (m + s) * j + 2 ^ (m + s) * j) ≡ (z * z) ^ j = pow-add w (2 ^ (m + s) * j) (2 ^ (m + s) * j) ∙ rw once (sym (mul-pow z z j)) in
    let split : w ^ (2 ^ suc m * (2 ^ s + i) * j) ≡ w ^ (2 ^ suc m * i * j) * (z * z) ^ j =
    ap (λ n. w ^ n) more ∙ pow-add w (2 ^ suc m * i * j) _ ∙ ap (λ n. w ^ (2 ^ suc m * i * j) * n) twice in
    let one : (z * z) ^ j % p ≡ 1 % p = one-power p (z * z) j (minus_one-square p z minus_one) in
    let item = x (rev (suc m) b + j * 2 ^ suc m) in
    let reduced : w ^ (2 ^ suc m * (2 ^ s + i) * j) % p ≡ w ^ (2 ^ suc m * i * j) % p =
    ap (λ n. n % p) split ∙ mod-mul p (w ^ (2 ^ suc m * i * j)) (w ^ (2 ^ suc m * i * j)) ((z * z) ^ j) 1 refl one ∙ ap (λ n. n % p) (omega arith) in
    mod-mul p item item (w ^ (2 ^ suc m * (2 ^ s + i) * j)) (w ^ (2 ^ suc m * i * j)) refl reduced)

-- the first half of a joined part, with reduced numbers
pub part-sum : (p : ℕ) (x : ℕ → ℕ) (w m s b i even odd t : ℕ) → even ≡ part x w (suc m) s (2 * b) i % p → odd ≡ part x w (suc m) s (2 * b + 1) i % p
    → t ≡ w ^ (2 ^ m * i) % p → (even + odd * t) % p ≡ part x w m (suc s) b i % p
part-sum p x w m s b i even odd t is_even is_odd is_t =
    let a = part x w (suc m) s (2 * b) i in
    let c = part x w (suc m) s (2 * b + 1) i in
    let u = w ^ (2 ^ m * i) in
    let even' : even % p ≡ a % p = ap (λ n. n % p) is_even ∙ mod-mod a p in
    let odd' : odd % p ≡ c % p = ap (λ n. n % p) is_odd ∙ mod-mod c p in
    let t' : t % p ≡ u % p = ap (λ n. n % p) is_t ∙ mod-mod u p in
    mod-add p even a (odd * t) (c * u) even' (mod-mul p odd c t u odd' t')
    ∙ ap (λ n. (a + n) % p) (mul_comm c u) ∙ ap (λ n. n % p) (sym (part-join x w m s b i))

-- the second half of a joined part
pub part-difference : (p : ℕ) (x : ℕ → ℕ) (w m s b i even odd t : ℕ) → 0 < p → (w ^ (2 ^ (m + s)) + 1) % p ≡ 0
    → even ≡ part x w (suc m) s (2 * b) i % p → odd ≡ part x w (suc m) s (2 * b + 1) i % p → t ≡ w ^ (2 ^ m * i) % p
    → (even + p - odd * t % p) % p ≡ part x w m (suc s) b (2 ^ s + i) % p
part-difference p x w m s b i even odd t positive minus_one is_even is_odd is_t =
    let z = w ^ (2 ^ (m + s)) in
    let a = part x w (suc m) s (2 * b) i in
    let c = part x w (suc m) s (2 * b + 1) i in
    let a2 = part x w (suc m) s (2 * b) (2 ^ s + i) in
    let c2 = part x w (suc m) s (2 * b + 1) (2 ^ s + i) in
    let u = w ^ (2 ^ m * i) in
    let u2 = w ^ (2 ^ m * (2 ^ s + i)) in
    let even' : even % p ≡ a2 % p = ap (λ n. n % p) is_even ∙ mod-mod a p ∙ sym (part-again p x w m s (2 * b) i minus_one) in
    let odd' : odd % p ≡ c2 % p = ap (λ n. n % p) is_odd ∙ mod-mod c p ∙ sym (part-again p x w m s (2 * b + 1) i minus_one) in
    let t' : t % p ≡ u % p = ap (λ n. n % p) is_t ∙ mod-mod u p in
    let exponent : 2 ^ m * (2 ^ s + i) ≡ 2 ^ m * i + 2 ^ (m + s) = rw (pow-add 2 m s) (grind arith) in
    let power : u2 ≡ u * z = ap (λ n. w ^ n) exponent ∙ pow-add w (2 ^ m * i) (2 ^ (m + s)) in
    let product : (odd * t * z) % p ≡ (u2 * c2) % p =
    mod-mul p (odd * t) (c2 * u) z z (mod-mul p odd c2 t u odd' t') refl ∙ ap (λ n. n % p) (rw power (grind arith)) in
    minus_one-times p z even (odd * t) positive minus_one
    ∙ mod-add p even a2 (odd * t * z) (u2 * c2) even' product
    ∙ ap (λ n. n % p) (sym (part-join x w m s b (2 ^ s + i)))

-- one part with all items is the transform, and a part with one item is that item
pub part-all : (x : ℕ → ℕ) (w k i : ℕ) → part x w 0 k 0 i ≡ sum_below (2 ^ k) (λ j. x j * w ^ (i * j))
part-all x w k i = sum_below-same (2 ^ k) _ _ (λ j h.
    let place : rev 0 0 + j * 2 ^ 0 ≡ j = rw (rev-zero 0) (omega arith) in
    let power : 2 ^ 0 * i * j ≡ i * j = grind arith in
    rw (place, power) refl)

pub part-one : (x : ℕ → ℕ) (w k b i : ℕ) → part x w k 0 b i ≡ x (rev k b)
unfolding sum_below
part-one x w k b i =
    let place : rev k b + 0 * 2 ^ k ≡ rev k b = omega arith in
    let power : 2 ^ k * i * 0 ≡ 0 = omega arith in
    let nothing : w ^ 0 ≡ 1 = pow-zero w in
    rw (place, power, nothing) (omega arith)

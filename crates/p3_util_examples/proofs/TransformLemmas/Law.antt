-- Transforming a matrix and then transforming it back gives the matrix.
use Rattle.std.proofs.Common.{◌≡◌, ◌≢◌, ℕ, zero, suc, ◌+◌, ◌-◌, ◌*◌, ◌/◌, ◌%◌, ◌^◌, ◌<◌, List, length, get_or, EachIndex, inl, inr, refl, sym, ap, ◌∙◌, arith}
use Rattle.std.proofs.Math.Nat.{mod-eq_of_lt, mod-mod, mul-mod_left, mul_assoc, mul_comm, pow-suc, pow-zero}
use Rattle.std.proofs.lemmas.Bool.{cases_eq, cases_lt}
use Rattle.std.proofs.lemmas.List.{ext_get_or, get_or_past}
use Rattle.std.proofs.lemmas.Nat.{div-add-mod', div_below, mod_below, mul-mod_first, mul-pow, pow-add, pow-mod, pow_pos}
use Rattle.p3_util.specs.Sums.{sum_below}
use Rattle.p3_util_examples.specs.Matrix.{Matrix}
use Rattle.p3_util_examples.specs.Stages.{AreBelowPrime, IsRoot}
use Rattle.p3_util_examples.specs.Transform.{IsInverseTransformed, IsTransformed}
use Rattle.p3_util_examples.specs.declared.transform.field.TheConstants.{HALF, PRIME}
use Rattle.p3_util_examples.proofs.TransformLemmas.Inverse.{IsRoot-inverse}
use Rattle.p3_util_examples.proofs.TransformLemmas.Remainders.{minus_one-odd, mod-add, mod-by_multiples, mod-mul, one-power, pow-mul}
use Rattle.p3_util_examples.proofs.TransformLemmas.Sums.{sum_below-halves, sum_below-mod}
use Rattle.p3_util_kernels.proofs.BitsLemmas.Sums.{sum_below-same, sum_below-scale}

-- sums of sums, sums of a constant, and sums in which only one term is not 0
sum_below-add : (n : ℕ) (f g : ℕ → ℕ) → sum_below n (λ i. f i + g i) ≡ sum_below n f + sum_below n g
unfolding sum_below
sum_below-add zero f g = refl
sum_below-add (suc n) f g =
    let below : sum_below n (λ i. f i + g i) ≡ sum_below n f + sum_below n g = sum_below-add n f g in
    rw below (omega arith)

sum_below-constant : (n c : ℕ) → sum_below n (λ i. c) ≡ n * c
unfolding sum_below
sum_below-constant zero c = omega arith
sum_below-constant (suc n) c =
    let below : sum_below n (λ i. c) ≡ n * c = sum_below-constant n c in
    rw below (grind arith)

sum_below-swap : (n m : ℕ) (f : ℕ → ℕ → ℕ) → sum_below n (λ j. sum_below m (λ i. f i j)) ≡ sum_below m (λ i. sum_below n (λ j. f i j))
unfolding sum_below
sum_below-swap zero m f = sym (sum_below-constant m 0 ∙ omega arith)
sum_below-swap (suc n) m f =
    ap (λ s. s + sum_below m (λ i. f i n)) (sum_below-swap n m f) ∙ sym (sum_below-add m (λ i. sum_below n (λ j. f i j)) (λ i. f i n))

sum_below-vanishes : (p n : ℕ) (f : ℕ → ℕ) → ((i : ℕ) → i < n → f i % p ≡ 0 % p) → sum_below n f % p ≡ 0 % p
sum_below-vanishes p n f h = sum_below-mod p n f (λ i. 0) h ∙ ap (λ s. s % p) (sum_below-constant n 0 ∙ omega arith)

sum_below-single : (p n r : ℕ) (f : ℕ → ℕ) → r < n → ((i : ℕ) → i < n → i ≢ r → f i % p ≡ 0 % p) → sum_below n f % p ≡ f r % p
unfolding sum_below
sum_below-single p zero r f h none = absurd (omega arith)
sum_below-single p (suc n) r f h none = elim (cases_eq n r) [
  | inl last ↦
      let below : sum_below n f % p ≡ 0 % p = sum_below-vanishes p n f (λ i less. none i (omega arith) (omega arith)) in
      let all : 0 + f r ≡ f r = omega arith in
      mod-add p (sum_below n f) 0 (f n) (f r) below (ap (λ i. f i % p) last) ∙ ap (λ m. m % p) all
  | inr other ↦
      let below : sum_below n f % p ≡ f r % p = sum_below-single p n r f (omega arith) (λ i less apart. none i (omega arith) apart) in
      mod-add p (sum_below n f) (f r) (f n) 0 below (none n (omega arith) other) ∙ ap (λ m. m % p) (omega arith)
]

first : (z : ℕ) → z ^ 1 ≡ z
first z = pow-suc z 0 ∙ rw (pow-zero z) (omega arith)

square : (z : ℕ) → z ^ 2 ≡ z * z
square z = pow-suc z 1 ∙ ap (λ m. m * z) (first z)

odd_quotient : (k d q : ℕ) → d ≡ q * 2 ^ k → d % 2 ^ suc k ≢ 0 → q ≡ q / 2 + q / 2 + 1
odd_quotient k d q e some = elim (cases_eq (q % 2) 0) [
  | inl even ↦
      let half : q ≡ q / 2 * 2 = omega arith in
      let whole : d ≡ q / 2 * 2 ^ suc k = e ∙ ap (λ m. m * 2 ^ k) half ∙ rw (pow-suc 2 k) (grind arith) in
      absurd (some (ap (λ m. m % 2 ^ suc k) whole ∙ mul-mod_left (q / 2) (2 ^ suc k)))
  | inr rest ↦ omega arith
]

-- if a power of a root is not 1, the powers of that power add up to 0
root-square : (k w : ℕ) → IsRoot (suc k) w → IsRoot k (w * w)
root-square k w is_root h e =
    let power : (w * w) ^ 2 ^ h ≡ w ^ 2 ^ (h + 1) =
    mul-pow w w (2 ^ h) ∙ sym (pow-add w (2 ^ h) (2 ^ h)) ∙ ap (λ m. w ^ m) (rw (pow-add 2 h 1) (omega arith)) in
    ap (λ m. (m + 1) % PRIME) power ∙ is_root (h + 1) (omega arith)

powers_cancel : (k w d : ℕ) → IsRoot k w → d % 2 ^ k ≢ 0 → sum_below (2 ^ k) (λ j. (w ^ d) ^ j) % PRIME ≡ 0
powers_cancel zero w d is_root some = absurd (some (omega arith))
powers_cancel (suc k) w d is_root some =
    let z = w ^ d in
    let size : 2 ^ suc k ≡ 2 * 2 ^ k = pow-suc 2 k ∙ omega arith in
    let inner = sum_below (2 ^ k) (λ j. ((w * w) ^ d) ^ j) in
    let even : (j : ℕ) → j < 2 ^ k → z ^ (2 * j) ≡ ((w * w) ^ d) ^ j = λ j h.
    pow-mul z 2 j ∙ ap (λ m. m ^ j) (square z ∙ sym (mul-pow w w d)) in
    let odd : (j : ℕ) → j < 2 ^ k → z ^ (2 * j + 1) ≡ z * ((w * w) ^ d) ^ j = λ j h.
    pow-add z (2 * j) 1 ∙ ap (λ m. m * z ^ 1) (even j h) ∙ ap (λ m. ((w * w) ^ d) ^ j * m) (first z) ∙ mul_comm (((w * w) ^ d) ^ j) z in
    let split : sum_below (2 ^ suc k) (λ j. z ^ j) ≡ (z + 1) * inner =
    ap (λ n. sum_below n (λ j. z ^ j)) size ∙ sum_below-halves (2 ^ k) (λ j. z ^ j)
    ∙ ap (λ m. m + sum_below (2 ^ k) (λ j. z ^ (2 * j + 1))) (sum_below-same (2 ^ k) _ _ even)
    ∙ ap (λ m. inner + m) (sum_below-same (2 ^ k) _ _ odd ∙ sum_below-scale z (2 ^ k) (λ j. ((w * w) ^ d) ^ j))
    ∙ grind arith in
    ap (λ m. m % PRIME) split
    ∙ elim (cases_eq (d % 2 ^ k) 0) [
      | inl whole ↦
          let q = d / 2 ^ k in
          let parts : q * 2 ^ k + d % 2 ^ k ≡ d = div-add-mod' d (2 ^ k) in
          let n = q / 2 in
          let is_odd : q ≡ n + n + 1 = odd_quotient k d q (omega arith) some in
          let product : q * 2 ^ k + 0 ≡ 2 ^ k * (n + n + 1) = ap (λ m. m * 2 ^ k + 0) is_odd ∙ omega arith in
          let exponent : d ≡ 2 ^ k * (n + n + 1) = sym parts ∙ ap (λ m. q * 2 ^ k + m) whole ∙ product in
          let power : z ≡ (w ^ 2 ^ k) ^ (n + n + 1) = ap (λ m. w ^ m) exponent ∙ pow-mul w (2 ^ k) (n + n + 1) in
          let minus : z % PRIME ≡ w ^ 2 ^ k % PRIME = ap (λ m. m % PRIME) power ∙ minus_one-odd PRIME (w ^ 2 ^ k) n (is_root k (omega arith)) in
          let none : (z + 1) % PRIME ≡ 0 = mod-add PRIME z (w ^ 2 ^ k) 1 1 minus refl ∙ is_root k (omega arith) in
          let nothing : 0 * inner ≡ 0 = omega arith in
          mod-mul PRIME (z + 1) 0 inner inner none refl ∙ ap (λ m. m % PRIME) nothing
      | inr rest ↦
          let none : inner % PRIME ≡ 0 = powers_cancel k (w * w) d (root-square k w is_root) rest in
          let nothing : (z + 1) * 0 ≡ 0 = omega arith in
          mod-mul PRIME (z + 1) (z + 1) inner 0 refl none ∙ ap (λ m. m % PRIME) nothing
    ]

-- the exponents at one place of the inverse: the root to the power of i, times its inverse to the power of r
mixed : (w k i r j : ℕ) → w ^ (j * i) * (w ^ (2 ^ k - 1)) ^ (r * j) ≡ (w ^ (i + (2 ^ k - 1) * r)) ^ j
mixed w k i r j =
    let n = 2 ^ k - 1 in
    let exponent : j * i + n * (r * j) ≡ (i + n * r) * j = grind arith in
    ap (λ m. w ^ (j * i) * m) (sym (pow-mul w n (r * j))) ∙ sym (pow-add w (j * i) (n * (r * j))) ∙ ap (λ m. w ^ m) exponent ∙ pow-mul w (i + n * r) j

-- at a different place, the powers add up to 0
apart : (k i r : ℕ) → i < 2 ^ k → r < 2 ^ k → i ≢ r → (i + (2 ^ k - 1) * r) % 2 ^ k ≢ 0
apart k i r hi hr differ none =
    let d = i + (2 ^ k - 1) * r in
    let some : 0 < 2 ^ k = pow_pos k in
    let n = 2 ^ k - 1 in
    let order : 2 ^ k ≡ n + 1 = omega arith in
    let q = d / 2 ^ k in
    let whole : q * 2 ^ k + d % 2 ^ k ≡ d = div-add-mod' d (2 ^ k) in
    let product : r * 2 ^ k ≡ r * n + r = ap (λ m. r * m) order ∙ omega arith in
    let e : i + r * 2 ^ k ≡ r + q * 2 ^ k = omega arith in
    differ (sym (mod-eq_of_lt hi) ∙ mod-by_multiples (2 ^ k) i r r q e ∙ mod-eq_of_lt hr)

-- at the same place, all powers are 1
together : (p k w r : ℕ) → w ^ 2 ^ k % p ≡ 1 % p → sum_below (2 ^ k) (λ j. (w ^ (r + (2 ^ k - 1) * r)) ^ j) % p ≡ 2 ^ k % p
together p k w r one =
    let some : 0 < 2 ^ k = pow_pos k in
    let n = 2 ^ k - 1 in
    let order : n + 1 ≡ 2 ^ k = omega arith in
    let exponent : r + n * r ≡ 2 ^ k * r = rw (← order) (grind arith) in
    let power : w ^ (r + n * r) % p ≡ 1 % p = ap (λ m. w ^ m % p) exponent ∙ ap (λ m. m % p) (pow-mul w (2 ^ k) r) ∙ one-power p (w ^ 2 ^ k) r one in
    sum_below-mod p (2 ^ k) _ (λ j. 1) (λ j h. one-power p (w ^ (r + n * r)) j power) ∙ ap (λ m. m % p) (sum_below-constant (2 ^ k) 1 ∙ omega arith)

-- the inverse of 2 ^ k
halves_cancel : (k : ℕ) → (2 ^ k * HALF ^ k) % PRIME ≡ 1 % PRIME
halves_cancel k = ap (λ m. m % PRIME) (sym (mul-pow 2 HALF k)) ∙ one-power PRIME (2 * HALF) k refl

-- a column transformed and transformed back
back : (k w : ℕ) (x y : ℕ → ℕ) (r : ℕ) → IsRoot k w → w ^ 2 ^ k % PRIME ≡ 1 % PRIME → r < 2 ^ k
    → ((j : ℕ) → j < 2 ^ k → y j ≡ sum_below (2 ^ k) (λ i. x i * w ^ (j * i)) % PRIME)
    → (sum_below (2 ^ k) (λ j. y j * (w ^ (2 ^ k - 1)) ^ (r * j)) * HALF ^ k) % PRIME ≡ x r % PRIME
back k w x y r is_root one hr is_y =
    let size = 2 ^ k in
    let v = w ^ (size - 1) in
    let z : ℕ → ℕ = λ i. w ^ (i + (size - 1) * r) in
    let f : ℕ → ℕ = λ i. x i * sum_below size (λ j. z i ^ j) in
    let whole : (j : ℕ) → j < size → (y j * v ^ (r * j)) % PRIME ≡ sum_below size (λ i. x i * z i ^ j) % PRIME = λ j h.
    let inner = sum_below size (λ i. x i * w ^ (j * i)) in
    let reduced : y j % PRIME ≡ inner % PRIME = ap (λ m. m % PRIME) (is_y j h) ∙ mod-mod inner PRIME in
    let terms : inner * v ^ (r * j) ≡ sum_below size (λ i. x i * z i ^ j) =
    mul_comm inner (v ^ (r * j)) ∙ sym (sum_below-scale (v ^ (r * j)) size (λ i. x i * w ^ (j * i)))
    ∙ sum_below-same size _ _ (λ i less.
    let power = mixed w k i r j in
    let regroup : v ^ (r * j) * (x i * w ^ (j * i)) ≡ x i * (w ^ (j * i) * v ^ (r * j)) = grind arith in
    regroup ∙ ap (λ m. x i * m) power) in
    mod-mul PRIME (y j) inner (v ^ (r * j)) (v ^ (r * j)) reduced refl ∙ ap (λ m. m % PRIME) terms in
    let swapped : sum_below size (λ j. sum_below size (λ i. x i * z i ^ j)) ≡ sum_below size f =
    sum_below-swap size size (λ i j. x i * z i ^ j) ∙ sum_below-same size _ _ (λ i less. sum_below-scale (x i) size (λ j. z i ^ j)) in
    let others : (i : ℕ) → i < size → i ≢ r → f i % PRIME ≡ 0 % PRIME = λ i less differ.
    let none = powers_cancel k w (i + (size - 1) * r) is_root (apart k i r less hr differ) in
    let nothing : x i * 0 ≡ 0 = omega arith in
    mod-mul PRIME (x i) (x i) (sum_below size (λ j. z i ^ j)) 0 refl none ∙ ap (λ m. m % PRIME) nothing in
    let sum : sum_below size (λ j. y j * v ^ (r * j)) % PRIME ≡ (x r * size) % PRIME =
    sum_below-mod PRIME size _ _ whole ∙ ap (λ m. m % PRIME) swapped ∙ sum_below-single PRIME size r f hr others
    ∙ mod-mul PRIME (x r) (x r) (sum_below size (λ j. z r ^ j)) size refl (together PRIME k w r one) in
    mod-mul PRIME _ (x r * size) (HALF ^ k) (HALF ^ k) sum refl
    ∙ ap (λ m. m % PRIME) (mul_assoc (x r) size (HALF ^ k))
    ∙ mod-mul PRIME (x r) (x r) (size * HALF ^ k) 1 refl (halves_cancel k) ∙ ap (λ m. m % PRIME) (omega arith)

-- if all columns are equal, the lists are equal
from_columns : (width k : ℕ) (old new : List ℕ) → length old ≡ width * 2 ^ k → length new ≡ length old
    → ((r c : ℕ) → r < 2 ^ k → c < width → get_or new (r * width + c) 0 ≡ get_or old (r * width + c) 0) → new ≡ old
from_columns width k old new len same each =
    ext_get_or 0 new old same (λ q h.
    let within : q < width * 2 ^ k = omega arith in
    let some : 0 < width = grind arith in
    let place : q / width * width + q % width ≡ q = div-add-mod' q width in
    rw place at (each (q / width) (q % width) (div_below q width (2 ^ k) some (omega arith)) (mod_below q width some)))

-- a matrix transformed and transformed back
pub IsInverseTransformed-same_list : (k root width : ℕ) (old mid new : List ℕ) → IsRoot k root → root ^ 2 ^ k % PRIME ≡ 1 % PRIME → AreBelowPrime old
    → length old ≡ width * 2 ^ k → IsTransformed root width (2 ^ k) old mid → IsInverseTransformed k root width mid new → new ≡ old
IsInverseTransformed-same_list k root width old mid new is_root one below len there inverse =
    from_columns width k old new len (inverse.same_length ∙ there.same_length) (λ r c hr hc.
    let x : ℕ → ℕ = λ j. get_or old (j * width + c) 0 in
    let y : ℕ → ℕ = λ j. get_or mid (j * width + c) 0 in
    inverse.places r c hr hc ∙ back k root x y r is_root one hr (λ j less. there.places j c less hc) ∙ mod-eq_of_lt (below (r * width + c)))

-- the inverse of a root: its order, and its own inverse
inverse-one : (k w : ℕ) → w ^ 2 ^ k % PRIME ≡ 1 % PRIME → (w ^ (2 ^ k - 1) % PRIME) ^ 2 ^ k % PRIME ≡ 1 % PRIME
inverse-one k w one =
    let n = 2 ^ k - 1 in
    let turned : (w ^ n) ^ 2 ^ k ≡ (w ^ 2 ^ k) ^ n = sym (pow-mul w n (2 ^ k)) ∙ ap (λ m. w ^ m) (mul_comm n (2 ^ k)) ∙ pow-mul w (2 ^ k) n in
    pow-mod (w ^ n) (2 ^ k) PRIME ∙ ap (λ m. m % PRIME) turned ∙ one-power PRIME (w ^ 2 ^ k) n one

inverse-inverse : (k w : ℕ) → w ^ 2 ^ k % PRIME ≡ 1 % PRIME → (w ^ (2 ^ k - 1) % PRIME) ^ (2 ^ k - 1) % PRIME ≡ w % PRIME
inverse-inverse k w one =
    let some : 0 < 2 ^ k = pow_pos k in
    let n = 2 ^ k - 1 in
    let order : suc n ≡ 2 ^ k = omega arith in
    let v = w ^ n % PRIME in
    let product : (v * w) % PRIME ≡ 1 % PRIME =
    mul-mod_first (w ^ n) w PRIME ∙ ap (λ m. m % PRIME) (sym (pow-suc w n)) ∙ ap (λ m. w ^ m % PRIME) order ∙ one in
    let power : (v ^ n * v) % PRIME ≡ 1 % PRIME = ap (λ m. m % PRIME) (sym (pow-suc v n)) ∙ ap (λ m. v ^ m % PRIME) order ∙ inverse-one k w one in
    let alone : v ^ n ≡ v ^ n * 1 = omega arith in
    let regroup : v ^ n * (v * w) ≡ v ^ n * v * w = grind arith in
    let left : 1 * w ≡ w = omega arith in
    ap (λ m. m % PRIME) alone ∙ mod-mul PRIME (v ^ n) (v ^ n) 1 (v * w) refl (sym product) ∙ ap (λ m. m % PRIME) regroup
    ∙ mod-mul PRIME (v ^ n * v) 1 w w power refl ∙ ap (λ m. m % PRIME) left

-- a column in the other direction: first the inverse transform
forth : (k w : ℕ) (x y : ℕ → ℕ) (r : ℕ) → IsRoot k w → w ^ 2 ^ k % PRIME ≡ 1 % PRIME → r < 2 ^ k
    → ((j : ℕ) → j < 2 ^ k → y j ≡ (sum_below (2 ^ k) (λ i. x i * (w ^ (2 ^ k - 1)) ^ (j * i)) * HALF ^ k) % PRIME)
    → sum_below (2 ^ k) (λ j. y j * w ^ (r * j)) % PRIME ≡ x r % PRIME
forth k w x y r is_root one hr is_y =
    let size = 2 ^ k in
    let u = w ^ (size - 1) in
    let v = u % PRIME in
    let h = HALF ^ k in
    let t : ℕ → ℕ = λ j. sum_below size (λ i. x i * v ^ (j * i)) % PRIME in
    let z : ℕ → ℕ = λ j. t j * (v ^ (size - 1)) ^ (r * j) in
    let scaled : (j : ℕ) → j < size → y j % PRIME ≡ (t j * h) % PRIME = λ j less.
    let a = sum_below size (λ i. x i * u ^ (j * i)) in
    let b = sum_below size (λ i. x i * v ^ (j * i)) in
    let same : a % PRIME ≡ t j % PRIME =
    sum_below-mod PRIME size _ _ (λ i few. mod-mul PRIME (x i) (x i) (u ^ (j * i)) (v ^ (j * i)) refl (sym (pow-mod u (j * i) PRIME))) ∙ sym (mod-mod b PRIME) in
    ap (λ m. m % PRIME) (is_y j less) ∙ mod-mod (a * h) PRIME ∙ mod-mul PRIME a (t j) h h same refl in
    let powers : (j : ℕ) → w ^ (r * j) % PRIME ≡ (v ^ (size - 1)) ^ (r * j) % PRIME = λ j.
    sym (pow-mod w (r * j) PRIME) ∙ ap (λ m. m ^ (r * j) % PRIME) (sym (inverse-inverse k w one)) ∙ pow-mod (v ^ (size - 1)) (r * j) PRIME in
    let terms : (j : ℕ) → j < size → (y j * w ^ (r * j)) % PRIME ≡ (h * z j) % PRIME = λ j less.
    let regroup : t j * h * (v ^ (size - 1)) ^ (r * j) ≡ h * z j = grind arith in
    mod-mul PRIME (y j) (t j * h) (w ^ (r * j)) ((v ^ (size - 1)) ^ (r * j)) (scaled j less) (powers j) ∙ ap (λ m. m % PRIME) regroup in
    sum_below-mod PRIME size _ _ terms ∙ ap (λ m. m % PRIME) (sum_below-scale h size z ∙ mul_comm h (sum_below size z))
    ∙ back k v x t r (IsRoot-inverse k w v is_root refl) (inverse-one k w one) hr (λ j less. refl)

-- a matrix in the other direction
pub IsTransformed-same_list : (k root width : ℕ) (old mid new : List ℕ) → IsRoot k root → root ^ 2 ^ k % PRIME ≡ 1 % PRIME → AreBelowPrime old
    → length old ≡ width * 2 ^ k → IsInverseTransformed k root width old mid → IsTransformed root width (2 ^ k) mid new → new ≡ old
IsTransformed-same_list k root width old mid new is_root one below len inverse there =
    from_columns width k old new len (there.same_length ∙ inverse.same_length) (λ r c hr hc.
    let x : ℕ → ℕ = λ j. get_or old (j * width + c) 0 in
    let y : ℕ → ℕ = λ j. get_or mid (j * width + c) 0 in
    there.places r c hr hc ∙ forth k root x y r is_root one hr (λ j less. inverse.places j c less hc) ∙ mod-eq_of_lt (below (r * width + c)))

pub Matrix-same : (a b : Matrix ℕ) → a.items ≡ b.items → a.width ≡ b.width → a.height ≡ b.height → a ≡ b
Matrix-same a b items width height =
    let make : List ℕ → ℕ → ℕ → Matrix ℕ = λ x w h. record { items = x; width = w; height = h } in
    ap (λ x. make x a.width a.height) items ∙ ap (λ w. make b.items w a.height) width ∙ ap (λ h. make b.items b.width h) height

-- if the numbers at all indices of a list are below the prime, all numbers are, since past the end `get_or` gives 0
pub AreBelowPrime-each : (xs : List ℕ) → EachIndex xs (λ i. get_or xs i 0 < PRIME) → AreBelowPrime xs
AreBelowPrime-each xs each i = elim (cases_lt i (length xs)) [ inl inside ↦ each i inside | inr past ↦ rw (get_or_past xs i 0 past) (omega arith) ]

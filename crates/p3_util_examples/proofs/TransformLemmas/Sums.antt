-- Sums over places, and the reversal of a number with one more digit. The other laws of these are in `p3_util_kernels`.
use Rattle.std.proofs.Common.{◌≡◌, ℕ, zero, suc, ◌+◌, ◌*◌, ◌%◌, ◌^◌, ◌<◌, refl, arith}
use Rattle.p3_util_kernels.proofs.BitsLemmas.Digits.{rev-one, rev-parts}
use Rattle.p3_util.specs.Digits.{rev}
use Rattle.p3_util.specs.Sums.{sum_below}
use Rattle.p3_util_examples.proofs.TransformLemmas.Remainders.{mod-add}

-- sums of terms with equal remainders
pub sum_below-mod : (p n : ℕ) (f g : ℕ → ℕ) → ((i : ℕ) → i < n → f i % p ≡ g i % p) → sum_below n f % p ≡ sum_below n g % p
unfolding sum_below
sum_below-mod p zero f g h = refl
sum_below-mod p (suc n) f g h =
    mod-add p (sum_below n f) (sum_below n g) (f n) (g n) (sum_below-mod p n f g (λ i less. h i (omega arith))) (h n (omega arith))

-- a sum in two parts, over even and over odd places
pub sum_below-halves : (n : ℕ) (f : ℕ → ℕ) → sum_below (2 * n) f ≡ sum_below n (λ j. f (2 * j)) + sum_below n (λ j. f (2 * j + 1))
unfolding sum_below
sum_below-halves zero f = refl
sum_below-halves (suc n) f =
    let e : 2 * suc n ≡ suc (suc (2 * n)) = omega arith in
    let o : suc (2 * n) ≡ 2 * n + 1 = omega arith in
    let below = sum_below-halves n f in
    rw e (rw (below, o) (omega arith))

-- a number with one more digit at its low end, reversed: that digit becomes the highest one
pub rev-double : (k b c : ℕ) → c < 2 → rev (suc k) (2 * b + c) ≡ c * 2 ^ k + rev k b
rev-double k b c h =
    let size : k + 1 ≡ suc k = omega arith in
    let number : b * 2 ^ 1 + c ≡ 2 * b + c = omega arith in
    rw (size, number, rev-one 1 c (omega arith) (omega arith)) at (rev-parts k 1 b c (omega arith))

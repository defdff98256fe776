-- Laws of sums over the numbers below a bound.
use Rattle.std.proofs.Common.{◌≡◌, ℕ, zero, suc, ◌*◌, ◌<◌, refl, arith}
use Rattle.p3_util_kernels.specs.Sums.{sum_below}

-- sums of equal terms are equal
pub sum_below-same : (n : ℕ) (f g : ℕ → ℕ) → ((i : ℕ) → i < n → f i ≡ g i) → sum_below n f ≡ sum_below n g
unfolding sum_below
sum_below-same zero f g h = refl
sum_below-same (suc n) f g h =
    let below : sum_below n f ≡ sum_below n g = sum_below-same n f g (λ i less. h i (omega arith)) in
    let last : f n ≡ g n = h n (omega arith) in
    cc

-- a common factor can be taken out of a sum
pub sum_below-scale : (c n : ℕ) (f : ℕ → ℕ) → sum_below n (λ i. c * f i) ≡ c * sum_below n f
unfolding sum_below
sum_below-scale c zero f = omega arith
sum_below-scale c (suc n) f =
    let below : sum_below n (λ i. c * f i) ≡ c * sum_below n f = sum_below-scale c n f in
    rw below (grind arith)

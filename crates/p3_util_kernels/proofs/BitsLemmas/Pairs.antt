-- Pairs of places: how many a square has on one side of its diagonal, and how many the parts of a block have.
use Rattle.std.proofs.Common.{◌≡◌, ℕ, zero, suc, ◌+◌, ◌-◌, ◌*◌, ◌/◌, arith}
use Rattle.p3_util_kernels.specs.SwapCounts.{square_swaps}

pub mul-pred : (n : ℕ) → n * (n - 1) + n ≡ n * n
mul-pred zero = omega arith
mul-pred (suc n) = let e : suc n - 1 ≡ n = omega arith in rw e (omega arith)

-- a square without its diagonal has two places for each pair
half-square : (n : ℕ) → (m : ℕ) × (n * n ≡ 2 * m + n)
half-square zero = (0, omega arith)
half-square (suc n) = let before : (m : ℕ) × (n * n ≡ 2 * m + n) = half-square n in (before.0 + n, omega arith)

pub twice-pairs : (n : ℕ) → 2 * (n * (n - 1) / 2) + n ≡ n * n
twice-pairs n = let half : (m : ℕ) × (n * n ≡ 2 * m + n) = half-square n in omega (arith, mul-pred n)

-- the pairs within two parts of a square, and those between them
pub pairs-add : (h r : ℕ) → (h + r) * (h + r - 1) / 2 ≡ h * (h - 1) / 2 + h * r + r * (r - 1) / 2
pairs-add h r = omega (arith, twice-pairs h, twice-pairs r, twice-pairs (h + r))

pub square_swaps-parts : (h r n : ℕ) → h + r ≡ n → square_swaps h + h * r + square_swaps r ≡ square_swaps n
square_swaps-parts h r n e = rw (← e) (omega (arith, pairs-add h r))

-- one row more of a triangle of pairs
pub square_swaps-next : (n : ℕ) → square_swaps (suc n) ≡ square_swaps n + n
square_swaps-next n = let more : suc n ≡ n + 1 = omega arith in rw more (omega (arith, pairs-add n 1))

-- the products of the two parts of a factor add up to the product of the factor
pub mul-parts_left : (h r n c : ℕ) → h + r ≡ n → h * c + r * c ≡ n * c
mul-parts_left h r n c e = rw (← e) (omega arith)

pub mul-parts_right : (h r n c : ℕ) → h + r ≡ n → c * h + c * r ≡ c * n
mul-parts_right h r n c e = rw (← e) (omega arith)

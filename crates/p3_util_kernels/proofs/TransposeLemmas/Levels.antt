-- How deep the splits of a transpose nest.
use Rattle.std.proofs.Common.{◌≡◌, ℕ, ◌+◌, ◌-◌, ◌*◌, ◌^◌, ◌<◌, ◌≤◌, min, max, pow_mono, arith}
use Rattle.std.proofs.lemmas.Bool.Decides.{nat_tests}
use Rattle.std.proofs.lemmas.Nat.{pow-add, mul-le}
use Rattle.p3_util_kernels.specs.Levels.{lev, nest}
use Rattle.p3_util_kernels.specs.Logarithms.{clog}
use Rattle.p3_util_kernels.proofs.BitsLemmas.Logarithms.{clog-high, clog-least}

pub nest_narrow : (r c : ℕ) → min r c ≤ 2 → nest r c ≡ 0
nest_narrow r c h = grind (arith, nat_tests)

pub nest_le : (r c : ℕ) → nest r c ≤ lev r c
nest_le r c = grind (arith, nat_tests)

-- a region with both sides at most 128 is not split
pub nest_small : (r c : ℕ) → max r c ≤ 128 → nest r c ≡ 0
nest_small r c h = omega (arith, nest_le r c, clog-least r 7 (omega arith), clog-least c 7 (omega arith))

-- the regions that are not split
pub ruleset leaves = (nest_narrow, nest_small)

-- at most 57 levels for a region if its sides and their product fit in a usize
pub lev_le : (r c : ℕ) → r < 2 ^ 64 → c < 2 ^ 64 → r * c < 2 ^ 64 → lev r c ≤ 57
lev_le r c h k fits =
    let tall = clog-least r 64 (omega arith) in
    let wide = clog-least c 64 (omega arith) in
    let a = clog r - 1 in
    let b = clog c - 1 in
    grind (arith, tall, wide, clog-high r, clog-high c, mul-le (2 ^ a) (2 ^ b) r c, pow-add 2 a b, pow_mono {i = 64} {j = a + b})

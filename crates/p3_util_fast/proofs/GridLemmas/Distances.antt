-- How far apart the 8 rows of a tile begin.
use Rattle.std.proofs.Common.{◌≡◌, ℕ, ◌==◌, ◌+◌, ◌-◌, ◌*◌, ◌/◌, ◌%◌, ◌^◌, ◌<◌, ◌≤◌, [], ◌∷◌, slice_index, refl, ap, ◌∙◌, eqb-true, div-add-mod', arith}
use Rattle.p3_util_fast.specs.declared.grid.Grid.{Grid}
use Rattle.p3_util_kernels.specs.Digits.{rev}
use Rattle.p3_util_kernels.specs.Sums.{sum_below}
use Rattle.p3_util_fast.specs.Grid.{IsInFirstRow, IsRowDistance, PlacesFit, row_place}
use Rattle.p3_util_fast.proofs.RegistersSteps.{below_eight}
use Rattle.p3_util_kernels.proofs.BitsLemmas.Digits.{rev-of-zero, rev-parts}
use Rattle.p3_util_kernels.proofs.BitsLemmas.Powers.{exponent-le}
use Rattle.p3_util_kernels.proofs.BitsLemmas.Tables.{all_below, all_below-at}

-- the three digits of a number below 8
rev_three : (t : ℕ) → t < 8 → rev 3 t ≡ t % 2 * 4 + t / 2 % 2 * 2 + t / 4
unfolding all_below rev sum_below
rev_three t h = eqb-true _ _ (all_below-at (λ t. rev 3 t == t % 2 * 4 + t / 2 % 2 * 2 + t / 4) 8 t refl h)

-- where a row begins
pub turned : (grid : Grid) (x : ℕ) → row_place grid x ≡ grid.base + rev grid.digits x * grid.stride
unfolding row_place
turned grid x = refl

-- a tile has 8 rows, so their numbers have at least 3 digits
pub three : (digits : ℕ) → 8 ≤ 2 ^ digits → 3 ≤ digits
three digits h = exponent-le 3 digits h

pub IsRowDistance-reversed : (grid : Grid) (step : ℕ) → step ≡ grid.stride * 2 ^ (grid.digits - 3) → IsRowDistance grid step
IsRowDistance-reversed grid step is x t whole room less =
    let d = grid.digits in
    let some : 3 ≤ d = three d (omega arith) in
    let all : d - 3 + 3 ≡ d = omega arith in
    let tile : x / 8 * 8 + 0 ≡ x = omega (arith, div-add-mod' x 8) in
    let row : x / 8 * 8 + t ≡ x + t = omega arith in
    let here : rev d (x + t) ≡ rev 3 t * 2 ^ (d - 3) + rev (d - 3) (x / 8) = rw (all, row) at (rev-parts (d - 3) 3 (x / 8) t less) in
    let first : rev d x ≡ rev 3 0 * 2 ^ (d - 3) + rev (d - 3) (x / 8) = rw (all, tile) at (rev-parts (d - 3) 3 (x / 8) 0 (omega arith)) in
    let none : rev 3 0 ≡ 0 = rev-of-zero 3 in
    let start : rev d x ≡ rev (d - 3) (x / 8) = omega (arith, rw none at first) in
    let far : rev d (x + t) ≡ (t % 2 * 4 + t / 2 % 2 * 2 + t / 4) * 2 ^ (d - 3) + rev d x = rw start (here ∙ rw (rev_three t less) refl) in
    let scaled : rev d (x + t) * grid.stride ≡ rev d x * grid.stride + (t % 2 * 4 + t / 2 % 2 * 2 + t / 4) * (grid.stride * 2 ^ (d - 3)) = ap (λ n. n * grid.stride) far ∙ omega arith in
    omega (arith, turned grid (x + t), turned grid x, rw (← is) at scaled)

-- the last of the 8 rows fits in a usize, and so do the others
pub last_fits : (grid : Grid) (step first : ℕ) → PlacesFit grid → IsRowDistance grid step → IsInFirstRow grid first → first + 7 * step < 2 ^ 64
last_fits grid step first fits are at =
    omega (arith, at, are at.x 7 at.whole at.x_below (omega arith), fits.rows (at.x + 7) (omega (arith, at.x_below)))

-- a list of 8 numbers, entry by entry
pub eight : (f : ℕ → ℕ) (a b c d e g h i : ℕ) → a ≡ f 0 → b ≡ f 1 → c ≡ f 2 → d ≡ f 3 → e ≡ f 4 → g ≡ f 5 → h ≡ f 6 → i ≡ f 7
    → (t : ℕ) → t < 8 → slice_index (a ∷ b ∷ c ∷ d ∷ e ∷ g ∷ h ∷ i ∷ []) t ≡ f t
eight f a b c d e g h i p0 p1 p2 p3 p4 p5 p6 p7 = below_eight (λ t. slice_index (a ∷ b ∷ c ∷ d ∷ e ∷ g ∷ h ∷ i ∷ []) t ≡ f t) p0 p1 p2 p3 p4 p5 p6 p7

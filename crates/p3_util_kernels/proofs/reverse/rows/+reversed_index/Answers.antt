-- The table has the reverses of six digits. Fewer digits are the highest of these six.
use Rattle.std.proofs.Common.{◌≡◌, ℕ, ◌+◌, ◌-◌, ◌*◌, ◌/◌, ◌%◌, ◌^◌, ◌<◌, ◌≤◌, sym, ap, ◌∙◌, arith, pow-add}
use Rattle.std.proofs.Math.Nat.{mod-eq_of_lt, pow-le-pow_right}
use Rattle.std.proofs.lemmas.Nat.{div_below, div-mul-add}
use Rattle.p3_util_kernels.specs.Digits.{rev}
use Rattle.p3_util_kernels.proofs.BitsLemmas.Digits.{rev-add, rev-lt, rev-parts}
use Rattle.p3_util_kernels.proofs.BitsLemmas.Tables.{reversed_six}
use Rattle.p3_util_kernels.proofs.reverse.rows.+reversed_index.Goals as goal

-- a number of at most six digits is an index of the table
inside : (x digits : ℕ) → digits ≤ 6 → x < 2 ^ digits → x < 64
inside x digits few below = let most : 2 ^ digits ≤ 2 ^ 6 = pow-le-pow_right (omega arith) few in omega arith

-- the highest of six reversed digits are the lowest digits, reversed
highest : (x digits : ℕ) → digits ≤ 6 → rev 6 x / 2 ^ (6 - digits) ≡ rev digits x
highest x digits few =
    let all : 6 - digits + digits ≡ 6 = omega arith in
    let parts = rw all at (rev-add (6 - digits) digits x) in
    rw parts (div-mul-add (rev digits x) (2 ^ (6 - digits)) (rev (6 - digits) (x / 2 ^ digits)) (rev-lt (6 - digits) (x / 2 ^ digits)))

-- more than six digits are six digits and the others
split : (digits : ℕ) → 6 < digits → 2 ^ digits ≡ 2 ^ (digits - 6) * 64
split digits many = ap (λ e. 2 ^ e) (omega arith) ∙ pow-add 2 (digits - 6) 6

lowest : (x digits : ℕ) → 6 < digits → rev digits x ≡ rev 6 (x % 64) * 2 ^ (digits - 6) + rev (digits - 6) (x / 64)
lowest x digits many =
    let all : digits - 6 + 6 ≡ digits = omega arith in
    let place : x / 64 * 2 ^ 6 + x % 64 ≡ x = omega arith in
    rw (all, place) at (rev-parts (digits - 6) 6 (x / 64) (x % 64) (omega arith))

pub bounds-x : goal.bounds-x
bounds-x t c = inside _ _ c.if-digits-le6.true c.requires.below

pub returns-then-digits-le6 : goal.returns-then-digits-le6
returns-then-digits-le6 t c =
    let entry = c.from.ensures ∙ reversed_six _ (inside _ _ c.if-digits-le6.true c.requires.below) in
    rw entry (highest _ _ c.if-digits-le6.true)

pub reversed_index-high-requires : goal.reversed_index-high-requires
reversed_index-high-requires t c =
    let many : 6 < c.args.digits = omega (arith, c.if-digits-le6.false) in (
      omega (arith, c.decreases, c.if-digits-le6.false),
      (
        omega (arith, c.requires.few),
        div_below c.args.x 64 (2 ^ (c.args.digits - 6)) (omega arith) (rw (split c.args.digits many) at c.requires.below),
      ),
    )

-- what is shifted fits a usize, so no digit is lost
below_word : (x digits : ℕ) → 6 < digits → digits < 64 → rev 6 (x % 64) * 2 ^ (digits - 6) + rev (digits - 6) (x / 64) < 2 ^ 64
below_word x digits many few =
    let most : digits ≤ 63 = omega arith in
    let all : 2 ^ digits ≤ 2 ^ 63 = pow-le-pow_right (omega arith) most in
    omega (arith, lowest x digits many, rev-lt digits x)

shifted : (x digits entry : ℕ) → 6 < digits → digits < 64 → entry ≡ rev 6 (x % 64)
    → entry * 2 ^ (digits - 6) % 2 ^ 64 ≡ rev 6 (x % 64) * 2 ^ (digits - 6)
shifted x digits entry many few is = rw is (mod-eq_of_lt (omega (arith, below_word x digits many few)))

pub overflow_add-result : goal.overflow_add-result
overflow_add-result t c =
    let many : 6 < c.args.digits = omega (arith, c.if-digits-le6.false) in
    let entry : c.from-2.result ≡ rev 6 (c.args.x % 64) = c.from-2.ensures ∙ reversed_six _ (omega arith) in
    rw (shifted c.args.x c.args.digits _ many c.requires.few entry, c.reversed_index-high.ensures) (omega (arith, below_word c.args.x c.args.digits many c.requires.few))

pub returns : goal.returns
returns t c =
    let many : 6 < c.args.digits = omega (arith, c.if-digits-le6.false) in
    let entry : c.from-2.result ≡ rev 6 (c.args.x % 64) = c.from-2.ensures ∙ reversed_six _ (omega arith) in
    rw (shifted c.args.x c.args.digits _ many c.requires.few entry, c.reversed_index-high.ensures) (sym (lowest c.args.x c.args.digits many))

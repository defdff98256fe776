use Rattle.std.proofs.Common.{◌≡◌, ◌+◌, ◌-◌, ◌*◌, ◌/◌, ◌^◌, ◌<◌, ◌≤◌, ℕ, sym, ap, ◌∙◌, get_or, mod-eq_of_lt, mul-le-mul_right, arith}
use Rattle.std.proofs.lemmas.Nat.{pow-add, pow_pos, shl-shr}
use Rattle.p3_util_kernels.specs.Digits.{rev}
use Rattle.p3_util_kernels.proofs.BitsLemmas.Digits.{rev-shl, rev_word-above}
use Rattle.p3_util_kernels.proofs.BitsLemmas.Tables.{reversed_six}
use Rattle.p3_util_kernels.specs.declared.reverse.rows.TheConstants.{REVERSED_SIX}
use Rattle.p3_util_fast.proofs.grid.reverse_digits.Goals as goal

-- 64 shifted to the right by at most 6 digits
step : (digits : ℕ) → digits ≤ 6 → 64 / 2 ^ digits ≡ 2 ^ (6 - digits)
step digits few =
    let all : (6 - digits) + digits ≡ 6 = omega arith in
    let parts : 64 ≡ 2 ^ (6 - digits) * 2 ^ digits = sym (ap (λ k. 2 ^ k) all) ∙ pow-add 2 (6 - digits) digits in
    rw parts (shl-shr (2 ^ (6 - digits)) digits)

inside : (x digits : ℕ) → digits ≤ 6 → x < 2 ^ digits → x * (64 / 2 ^ digits) < 64
inside x digits few below =
    let all : digits + (6 - digits) ≡ 6 = omega arith in
    let parts : 64 ≡ 2 ^ digits * 2 ^ (6 - digits) = sym (ap (λ k. 2 ^ k) all) ∙ pow-add 2 digits (6 - digits) in
    let up : (x + 1) * 2 ^ (6 - digits) ≤ 2 ^ digits * 2 ^ (6 - digits) = mul-le-mul_right (2 ^ (6 - digits)) (omega arith) in
    let some : 0 < 2 ^ (6 - digits) = pow_pos (6 - digits) in
    rw (step digits few) (omega arith)

pub returns-then-digits-le6 : goal.returns-then-digits-le6
returns-then-digits-le6 c =
    let all : c.args.digits + (6 - c.args.digits) ≡ 6 = omega arith in
    c.from.ensures
    ∙ ap (λ n. get_or REVERSED_SIX n 0) (mod-eq_of_lt (inside c.args.x c.args.digits c.if-digits-le6.true c.requires.below))
    ∙ reversed_six _ (inside c.args.x c.args.digits c.if-digits-le6.true c.requires.below)
    ∙ ap (λ n. rev 6 (c.args.x * n)) (step c.args.digits c.if-digits-le6.true)
    ∙ ap (λ k. rev k (c.args.x * 2 ^ (6 - c.args.digits))) (sym all) ∙ rev-shl c.args.digits (6 - c.args.digits) c.args.x

pub returns-else-digits-le6 : goal.returns-else-digits-le6
returns-else-digits-le6 c = c.reverse_bits_len.ensures.reversed ∙ rev_word-above _ _ (omega arith)

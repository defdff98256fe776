-- Each turn of the loop exchanges a row with its reverse, or finds that this row stays or has been exchanged.
use Rattle.std.proofs.Common.{◌≡◌, ℕ, ◌+◌, ◌*◌, ◌^◌, ◌<◌, ◌≤◌, refl, ◌∙◌, mul-le-mul_right, suc, arith}
use Rattle.std.proofs.lemmas.Bool.Decides.{nat_tests}
use Rattle.p3_util_kernels.specs.Digits.{rev}
use Rattle.p3_util_kernels.specs.Least.{count_below}
use Rattle.p3_util_kernels.proofs.BitsLemmas.Digits.{rev-lt}
use Rattle.p3_util_kernels.proofs.LawsLemmas.Counts.{count-suc, count-zero, one}
use Rattle.p3_util_kernels.proofs.ReverseLemmas.Below.{count-up, goes_up}
use Rattle.p3_util_kernels.proofs.ReverseLemmas.Halfway.{IsRowReversal-from_halfway, RowsHalfway-skip, RowsHalfway-start, RowsHalfway-swap}
use Rattle.p3_util_kernels.proofs.reverse.rows.swap_rows.Goals as goal
use Rattle.p3_util_kernels.proofs.reverse.rows.swap_rows.Goals.{then-r-partner, else-r-partner}

-- one more row is exchanged
one_more : (width k r : ℕ) → r < rev k r → width * count_below (r + 1) (goes_up k) ≡ width * count_below r (goes_up k) + width
one_more width k r up =
    let next : r + 1 ≡ suc r = omega arith in
    let test : one (goes_up k r) ≡ 1 = grind (arith, nat_tests, up) in
    let all : count_below (r + 1) (goes_up k) ≡ count_below r (goes_up k) + 1 = rw next (omega (arith, count-suc r (goes_up k), test)) in
    rw all (omega arith)

-- one more row is passed over
none_more : (width k r : ℕ) → rev k r ≤ r → width * count_below (r + 1) (goes_up k) ≡ width * count_below r (goes_up k)
none_more width k r late =
    let next : r + 1 ≡ suc r = omega arith in
    let test : one (goes_up k r) ≡ 0 = grind (arith, nat_tests, late) in
    let all : count_below (r + 1) (goes_up k) ≡ count_below r (goes_up k) = rw next (omega (arith, count-suc r (goes_up k), test)) in
    rw all refl

-- a row is within the list
row_inside : (width k r n : ℕ) → n ≡ width * 2 ^ k → r < 2 ^ k → r * width + width ≤ n
row_inside width k r n all h = omega (arith, all, mul-le-mul_right {m = r + 1} {n = 2 ^ k} width (omega arith))

pub loop-r-init : goal.loop-r-init
loop-r-init g c =
    let none : c.args.width * count_below 0 (goes_up c.args.digits) ≡ 0 = rw (count-zero (goes_up c.args.digits)) (omega arith) in
    record {
      halfway = RowsHalfway-start _ _ _;
      count = rw none (omega (arith, c.requires.count_fits));
      holder = rw none (g.met.S.Places.same_holder_refl _);
    }

pub overflow_mul-partner : goal.overflow_mul-partner
overflow_mul-partner g c =
    let below : c.reversed_index-partner.result < 2 ^ c.args.digits = rw c.reversed_index-partner.ensures (rev-lt c.args.digits c.loop-r.r) in
    omega (arith, row_inside c.args.width c.args.digits c.reversed_index-partner.result _ c.requires.rows below, c.requires.len_fits)

pub swap_runs-requires-clause-apart : goal.swap_runs-requires-clause-apart
swap_runs-requires-clause-apart g c =
    omega (arith, mul-le-mul_right {m = c.loop-r.r + 1} {n = c.reversed_index-partner.result} c.args.width (omega arith))

pub swap_runs-requires-clause-within : goal.swap_runs-requires-clause-within
swap_runs-requires-clause-within g c =
    let below : c.reversed_index-partner.result < 2 ^ c.args.digits = rw c.reversed_index-partner.ensures (rev-lt c.args.digits c.loop-r.r) in
    omega (arith, row_inside c.args.width c.args.digits c.reversed_index-partner.result _ (c.loop-r.invariant.halfway.same_length ∙ c.requires.rows) below)

pub loop-r-preserved : goal.loop-r-preserved
loop-r-preserved g c =
    let before = c.loop-r.invariant in
    let inside : c.loop-r.r < 2 ^ c.args.digits = omega (arith, c.pow2-r-end.ensures, c.loop-r-test.true) in
    let is : c.reversed_index-partner.result ≡ rev c.args.digits c.loop-r.r = c.reversed_index-partner.ensures in
    elim c.if-r-partner.branch [
      | then-r-partner w ↦
          let more = one_more c.args.width c.args.digits c.loop-r.r (omega (arith, is, w.if-r-partner.true)) in
          rw w.m-is (record {
            halfway = RowsHalfway-swap _ _ _ _ _ _ _ inside is w.if-r-partner.true w.swap_runs.ensures.exchanged before.halfway;
            count = rw more (omega (arith, w.swap_runs.ensures.count, before.count));
            holder = rw more (g.met.S.Places.same_holder_trans _ _ _ _ _ _ before.holder w.swap_runs.ensures.holder refl);
          })
      | else-r-partner w ↦
          let late : rev c.args.digits c.loop-r.r ≤ c.loop-r.r = omega (arith, is, w.if-r-partner.false) in
          let same = none_more c.args.width c.args.digits c.loop-r.r late in
          rw w.m-is (record {
            halfway = RowsHalfway-skip _ _ _ _ _ inside late before.halfway;
            count = rw same before.count;
            holder = rw same before.holder;
          })
    ]

pub returns-clause-order : goal.returns-clause-order
returns-clause-order g c =
    let all : c.loop-r.r ≡ 2 ^ c.args.digits = omega (arith, c.pow2-r-end.ensures, c.loop-r-test.false, c.loop-r.auto.r-end) in
    IsRowReversal-from_halfway _ _ _ _ _ c.requires.wide c.requires.rows all c.loop-r.invariant.halfway

pub returns-clause-count : goal.returns-clause-count
returns-clause-count g c =
    let all : c.loop-r.r ≡ 2 ^ c.args.digits = omega (arith, c.pow2-r-end.ensures, c.loop-r-test.false, c.loop-r.auto.r-end) in
    rw (all, count-up c.args.digits) at c.loop-r.invariant.count

pub returns-clause-holder : goal.returns-clause-holder
returns-clause-holder g c =
    let all : c.loop-r.r ≡ 2 ^ c.args.digits = omega (arith, c.pow2-r-end.ensures, c.loop-r-test.false, c.loop-r.auto.r-end) in
    rw (all, count-up c.args.digits) at c.loop-r.invariant.holder

-- Each turn of the loop exchanges the pairs of one more grid. All grids have all pairs.
use Rattle.std.proofs.Common.{◌≡◌, ℕ, ◌+◌, ◌-◌, ◌*◌, ◌/◌, ◌^◌, ◌<◌, ◌≤◌, List, length, slice_get, inl, inr, refl, ap, ◌∙◌, arith}
use Rattle.std.proofs.lemmas.Bool.{cases_eq}
use Rattle.p3_util_fast.specs.Crossing.{HoldsRows, IsRowItem, row_of}
use Rattle.p3_util_kernels.specs.Logarithms.{clog}
use Rattle.p3_util_kernels.specs.Reversal.{FitsRows, IsRowReversal}
use Rattle.p3_util_kernels.specs.SwapCounts.{short_swaps, square_swaps}
use Rattle.p3_util_fast.proofs.GridLemmas.Crossing.{IsRowReversal-crossed}
use Rattle.p3_util_fast.proofs.GridLemmas.Rows.{AreCrossed-more, HoldsGrid-rows}
use Rattle.p3_util_kernels.proofs.ReverseLemmas.Lengths.{IsDigitsOfRows-from, no_digits}
use Rattle.p3_util_kernels.proofs.ReverseLemmas.Reversal.{IsRowReversal-none}
use Rattle.p3_util_fast.proofs.GridLemmas.SquareCounts.{squares-short}
use Rattle.p3_util_fast.proofs.rows.exchange_pairs.Goals as goal

-- a list whose row indices have two digits or more has rows
ready : {A : Type 0} (row_width digits : ℕ) (xs : List A) → FitsRows (length xs) row_width → digits ≡ clog (length xs / row_width)
    → length xs < 2 ^ 64 → 2 ≤ digits → HoldsRows row_width digits xs
ready row_width digits xs fits counted small several =
    let some : length xs ≡ 0 → ⊥ = λ e. absurd (omega (arith, counted, no_digits (length xs) row_width e)) in
    let rows = IsDigitsOfRows-from (length xs) row_width digits some fits counted in
    record { wide = rows.wide; few = rows.few small; rows = rows.whole; len_fits = small }

-- the same for a list of the same length
kept : {A : Type 0} (row_width digits : ℕ) (xs ys : List A) → length ys ≡ length xs → HoldsRows row_width digits xs → HoldsRows row_width digits ys
kept row_width digits xs ys same rows = record { wide = rows.wide; few = rows.few; rows = same ∙ rows.rows; len_fits = rw same rows.len_fits }

-- if all pairs are exchanged, the rows are reversed, also if there are no rows
reversed : {A : Type 0} (row_width digits : ℕ) (xs ys : List A) → FitsRows (length xs) row_width → digits ≡ clog (length xs / row_width) → length ys ≡ length xs
    → ((m : ℕ × ℕ) (x y : ℕ) → IsRowItem (digits / 2) (digits - digits / 2) row_width m.0 m.1 x y
    → slice_get ys (row_of (digits / 2) (digits - digits / 2) m.0 x y * row_width + m.1) ≡ slice_get xs (row_of (digits / 2) (digits - digits / 2) m.0 y x * row_width + m.1))
    → IsRowReversal row_width xs ys
reversed row_width digits xs ys fits counted same crossed =
    elim (cases_eq (length xs) 0) [
      | inl none ↦ IsRowReversal-none row_width xs ys none same
      | inr some ↦
          let rows = IsDigitsOfRows-from (length xs) row_width digits some fits counted in
          let parts : digits / 2 + (digits - digits / 2) ≡ digits = omega arith in
          IsRowReversal-crossed (digits / 2) (digits - digits / 2) (omega arith) row_width xs ys (omega arith) (rw parts rows.whole) same crossed
    ]

pub loop-middle-preserved : goal.loop-middle-preserved
loop-middle-preserved g c =
    let half = c.args.rows.digits / 2 in
    let below : c.loop-middle.middle < 2 ^ (c.args.rows.digits - half - half) = omega (arith, c.pow2-middle-end.ensures, c.loop-middle-test.true) in
    record {
      crossed = AreCrossed-more half (c.args.rows.digits - half) c.args.rows.width c.loop-middle.middle (omega arith) below _ _ _ c.loop-middle.invariant.crossed
          (rw c.grid.ensures at c.exchange_square-m.ensures.exchanged);
      holder = g.met.M.Places.same_holder_trans _ _ _ _ _ _ c.loop-middle.invariant.holder (rw c.grid.ensures at c.exchange_square-m.ensures.holder) (omega arith);
    }

pub grid-requires-clause-few : goal.grid-requires-clause-few
grid-requires-clause-few g c = (ready _ _ _ c.requires.fits c.requires.digits c.requires.len_fits c.if-rows-lt2.false).few

pub exchange_square-m-requires : goal.exchange_square-m-requires
exchange_square-m-requires g c =
    let digits = c.args.rows.digits in
    let half = digits / 2 in
    let below : c.loop-middle.middle < 2 ^ (digits - half - half) = omega (arith, c.pow2-middle-end.ensures, c.loop-middle-test.true) in
    rw c.grid.ensures
    (HoldsGrid-rows half (digits - half) c.args.rows.width c.loop-middle.middle (omega arith) below digits _ (omega arith)
    (kept _ _ _ _ c.loop-middle.invariant.crossed.same_length (ready _ _ _ c.requires.fits c.requires.digits c.requires.len_fits c.if-rows-lt2.false)))

pub returns-then-rows-lt2-clause-order : goal.returns-then-rows-lt2-clause-order
returns-then-rows-lt2-clause-order g c =
    let digits = c.args.rows.digits in
    let one : 2 ^ (digits / 2) ≡ 1 = let none : digits / 2 ≡ 0 = omega (arith, c.if-rows-lt2.true) in rw none refl in
    reversed c.args.rows.width digits _ _ c.requires.fits c.requires.digits refl
    (λ m x y own. let same : x ≡ y = omega (arith, own.high, own.low, one) in rw same refl)

pub returns-clause-order : goal.returns-clause-order
returns-clause-order g c =
    let digits = c.args.rows.digits in
    let half = digits / 2 in
    let all : c.loop-middle.middle ≡ 2 ^ (digits - half - half) = omega (arith, c.pow2-middle-end.ensures, c.loop-middle-test.false, c.loop-middle.auto.middle-end) in
    let crossed = c.loop-middle.invariant.crossed in
    reversed c.args.rows.width digits _ _ c.requires.fits c.requires.digits crossed.same_length (λ m x y own. crossed.crossed m x y (own, rw all own.middle))

pub returns-clause-holder : goal.returns-clause-holder
returns-clause-holder g c =
    let digits = c.args.rows.digits in
    let half = digits / 2 in
    let w = c.args.rows.width in
    let all : c.loop-middle.middle ≡ 2 ^ (digits - half - half) = omega (arith, c.pow2-middle-end.ensures, c.loop-middle-test.false, c.loop-middle.auto.middle-end) in
    let count : 2 ^ (digits - half - half) * (w * square_swaps (2 ^ half)) ≡ w * short_swaps digits = omega (arith, ap (λ (n : ℕ). w * n) (squares-short digits)) in
    rw (all, count) at c.loop-middle.invariant.holder

-- The row of an item is one of the rows, and begins at the place that the code computes.
use Rattle.std.proofs.Common.{ℕ, zero, suc, ◌*◌, ◌/◌, ◌<◌, ◌≡◌, ◌∙◌, ap, length, sym, div-lt_iff_lt-mul, length-take-le, arith}
use Rattle.std.proofs.lemmas.Nat.{div-add-mod', mod_below}
use Rattle.p3_util.proofs.views.places.place_of.Goals as goal

row_within : (i n count total : ℕ) → i < total → (0 < total → total ≡ count * n) → (0 < n) × (i / n < count)
row_within i zero count total lt whole = absurd (omega (arith, whole (omega arith)))
row_within i (suc k) count total lt whole = (omega arith, (div-lt_iff_lt-mul {k = suc k} {x = i} {y = count} (omega arith)).1 (omega (arith, whole (omega arith))))

pub nonzero_div-row : goal.nonzero_div-row
nonzero_div-row g c = (row_within c.args.i g.row.N (length c.args.rows.now) (length c.countable.result.now) c.if-prove.false c.countable.ensures.len).0

pub nonzero_rem-place : goal.nonzero_rem-place
nonzero_rem-place g c = nonzero_div-row g c

pub returns-clause-row : goal.returns-clause-row
returns-clause-row g c = (row_within c.args.i g.row.N (length c.args.rows.now) (length c.countable.result.now) c.if-prove.false c.countable.ensures.len).1

pub returns-clause-before : goal.returns-clause-before
returns-clause-before g c =
    let within : c.args.i / g.row.N < length c.args.rows.now = returns-clause-row g c in
    ap length (sym c.as_flattened.ensures.value) ∙ c.as_flattened.ensures.len ∙ ap (λ k. k * g.row.N) (length-take-le (c.args.i / g.row.N) c.args.rows.now (omega arith))

pub returns-clause-place : goal.returns-clause-place
returns-clause-place g c =
    mod_below c.args.i g.row.N (row_within c.args.i g.row.N (length c.args.rows.now) (length c.countable.result.now) c.if-prove.false c.countable.ensures.len).0

pub returns-clause-item : goal.returns-clause-item
returns-clause-item g c = sym (div-add-mod' c.args.i g.row.N)

pub slice_bounds-as_flattened-end : goal.slice_bounds-as_flattened-end
slice_bounds-as_flattened-end g c = sym (length-take-le (c.args.i / g.row.N) c.args.rows.now (omega (arith, (row_within c.args.i g.row.N (length c.args.rows.now) (length c.countable.result.now) c.if-prove.false c.countable.ensures.len).1)))

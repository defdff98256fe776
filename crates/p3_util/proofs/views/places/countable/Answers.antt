-- More rows than the quotient says have more items than a `usize` can count, so the result is empty.
use Rattle.std.proofs.Common.{ℕ, ◌≡◌, ◌*◌, ◌/◌, ◌-◌, ◌^◌, ◌<◌, ◌≤◌, max, mul-le-mul_left, mul-le-mul_right, arith, rules, sym, ◌∙◌}
use Rattle.p3_util.proofs.FlatLemmas.{countable-past}
use Rattle.p3_util.proofs.views.places.countable.Goals as goal

fits : (m n k : ℕ) → m ≡ max n 1 → k ≤ (2 ^ 64 - 1) / m → k * n < 2 ^ 64
fits m n k is le =
    let wider : k * n ≤ k * m = mul-le-mul_left k (omega arith) in let more : k * m ≤ (2 ^ 64 - 1) / m * m = mul-le-mul_right m le in omega (arith, wider, more)

pub as_flattened-requires : goal.as_flattened-requires
as_flattened-requires g c = (search rules, λ _. fits _ _ _ c.max-most.ensures c.if-rows-most.true)

pub returns-clause-items : goal.returns-clause-items
returns-clause-items g c =
    c.as_flattened-2.ensures.value ∙ sym (countable-past _ _ _ c.max-most.ensures (omega arith) c.well_formed.0.0 c.each_in_its_row.ensures.places.len)

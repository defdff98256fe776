-- Each turn of the loop moves one more row. After the loop the items are those of all rows, in order.
use Rattle.std.proofs.Common.{◌+◌, ◌*◌, ◌≤◌, ap, length, rules, vec_len, sym, ◌∙◌, take_all, mul-le-mul_right, arith}
use Rattle.std.proofs.Math.Nat.{mul-mod_left}
use Rattle.p3_util.specs.Flat.{flat}
use Rattle.p3_util.proofs.Moved.{left-more, moved-more-rows}
use Rattle.p3_util.specs.Pieces.{pieces}
use Rattle.p3_util.proofs.views.vectors.flatten_to_base.Goals as goal

pub loop-row-preserved : goal.loop-row-preserved
loop-row-preserved g c =
    let before = c.loop-row.invariant in
    let rows = c.loop-row.row-items in
    let old = c.args.vec.items in
    let k = c.loop-row.row-index in record {
      moved = rw c.push_row.ensures.items (moved-more-rows _ rows old k before.left (omega (arith, ap length c.deref_mut-row-items.ensures.value)) before.moved);
      left = left-more rows old k c.push_row.new.row before.left;
      full = omega arith;
      room = omega arith;
    }

pub push_row-requires : goal.push_row-requires
push_row-requires g c =
    let times : (c.loop-row.row-index + 1) * g.row.N ≤ vec_len c.args.vec * g.row.N = mul-le-mul_right g.row.N (omega arith) in (search rules, omega (arith, times))

pub returns-clause-divides : goal.returns-clause-divides
returns-clause-divides g c = rw c.loop-row.invariant.full (mul-mod_left c.loop-row.row-index g.row.N)

pub returns-clause-len : goal.returns-clause-len
returns-clause-len g c = c.loop-row.invariant.full ∙ ap (λ k. k * g.row.N) (omega arith)

pub returns-clause-items : goal.returns-clause-items
returns-clause-items g c =
    c.loop-row.invariant.moved ∙ ap flat (take_all c.loop-row.row-index c.args.vec.items (omega (arith, c.loop-row-test.false, ap length c.deref_mut-row-items.ensures.value)))

pub returns-clause-rows : goal.returns-clause-rows
returns-clause-rows g c some = ap (pieces g.row.N) (returns-clause-items g c ∙ ap flat (sym c.deref.ensures.value)) ∙ c.each_in_its_row.ensures.rows some ∙ c.deref.ensures.value

pub returns-clause-places : goal.returns-clause-places
returns-clause-places g c = rw (returns-clause-items g c, ← c.deref.ensures.value) c.each_in_its_row.ensures.places

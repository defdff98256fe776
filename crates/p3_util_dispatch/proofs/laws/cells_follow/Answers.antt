-- A place is in the columns of a part exactly if it is between the first cell of these columns and that of the next.
use Rattle.std.proofs.Common.{ℕ, ◌+◌, ◌*◌, ◌/◌, ◌%◌, ◌<◌, ◌≤◌, suc, ap, sym, mul-le-mul_right, pos_of_ne-zero, arith}
use Rattle.std.proofs.lemmas.Nat.{div-add-mod', div_below, le-div, mod_below}
use Rattle.p3_util_dispatch.specs.Parts.{start_of}
use Rattle.p3_util_dispatch.proofs.laws.cells_follow.Goals as goal

pub returns : goal.returns
returns c =
    let plan = c.args.plan in
    let from : ℕ = start_of plan.cut.len plan.cut.part_len c.args.number in
    let to : ℕ = start_of plan.cut.len plan.cut.part_len (c.args.number + 1) in
    rw c.requires.columns
    (λ p. (
      λ (x, y, at, e).
          let first : from * plan.height ≤ x * plan.height = mul-le-mul_right plan.height at.col_from in
          let last : suc x * plan.height ≤ to * plan.height = mul-le-mul_right plan.height at.col_to in
          (omega (arith, e, first), omega (arith, e, last, at.row_to)),
      λ (above, below).
          let some : 0 < plan.height = pos_of_ne-zero (λ none. omega (arith, below, ap (λ h. to * h) none)) in (
            p / plan.height,
            p % plan.height,
            record {
              row_from = omega arith;
              row_to = mod_below p plan.height some;
              col_from = le-div from p plan.height some above;
              col_to = div_below p plan.height to some below;
            },
            sym (div-add-mod' p plan.height),
          ),
    ))

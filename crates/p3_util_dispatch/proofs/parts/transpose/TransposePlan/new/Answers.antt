use Rattle.std.proofs.Common.{◌≡◌, ℕ, ◌*◌, mul-pos, arith}
use Rattle.p3_util_dispatch.proofs.CutParts.{parts-within}
use Rattle.p3_util_dispatch.proofs.parts.transpose.TransposePlan.new.Goals as goal
use Rattle.p3_util_dispatch.proofs.parts.transpose.TransposePlan.new.Goals.{then-height-eq0, else-height-eq0+then-by_rows, else-height-eq0+else-by_rows}

-- a matrix without items has no rows or no columns
empty : (width height : ℕ) → (width ≡ 0 → ⊥) × (height ≡ 0 → ⊥) → width * height ≡ 0 → ⊥
empty width height some none = omega (arith, none, mul-pos {m = width} {n = height} (omega (arith, some)) (omega (arith, some)))

pub returns-clause-empty : goal.returns-clause-empty
returns-clause-empty c none =
    let within = parts-within c.new.result.len c.new.result.part_len c.new.result.some_part_len in
    elim c.if-height-eq0.branch [
      | then-height-eq0 w ↦ omega (arith, within, c.new.ensures.len, w.side-is)
      | else-height-eq0+then-by_rows w ↦ absurd (empty _ _ w.if-height-eq0.false none)
      | else-height-eq0+else-by_rows w ↦ absurd (empty _ _ w.if-height-eq0.false none)
    ]

-- Each turn of the loop puts one more part, in one of two ways.
use Rattle.std.proofs.Common.{◌≡◌, ◌+◌, ◌-◌, ◌*◌, ◌∙◌, inl, ap, arith}
use Rattle.p3_util_kernels.specs.Region.{IsRegionTransposed, cols_of, items_of}
use Rattle.p3_util_kernels.proofs.TransposeLemmas.Region.{IsCut-rows, IsRegionTransposed-rows, nothing_put}
use Rattle.p3_util_fast.proofs.ways.InRowsPutRegion.put.Goals.{then-rows-most, else-rows-most}
use Rattle.p3_util_fast.proofs.ways.InRowsPutRegion.put.Goals as goal

pub loop-row-init : goal.loop-row-init
loop-row-init g c =
    let same : c.args.region.row_start - c.args.region.row_start ≡ 0 = omega arith in
    let none : (c.args.region.row_start - c.args.region.row_start) * cols_of c.args.region ≡ 0 = ap (λ n. n * cols_of c.args.region) same ∙ omega arith in
    record { from = omega arith; to = omega arith; transposed = nothing_put _ _ _ _ _ (inl (omega arith)); holder = rw none (g.met.M.Cells.same_holder_refl _) }

pub loop-row-preserved : goal.loop-row-preserved
loop-row-preserved g c =
    let next = c.loop-row.row + c.min-rows.result in
    let done = record c.args.region { row_end = next } in
    let part = record done { row_start = c.loop-row.row } in
    let input = g.R.Source.items c.args.matrix.source in
    let put : (IsRegionTransposed part c.args.matrix.width c.args.matrix.height input (g.M.Cells.items c.loop-row.out) (g.M.Cells.items c.if-rows-most.out))
    × (g.M.Cells.same_holder (items_of part) c.loop-row.out c.if-rows-most.out) =
    elim c.if-rows-most.branch [
      | then-rows-most w ↦
          let all : c.max-most.result ≡ c.min-rows.result = omega (arith, w.if-rows-most.true) in
          rw w.out-is (rw (w.with_rows.ensures, all) at w.put-out.ensures.transposed, rw (w.with_rows.ensures, all) at w.put-out.ensures.holder)
      | else-rows-most w ↦
          rw w.out-is (rw w.with_rows-else-rows-most.ensures at w.put-out-else-rows-most.ensures.transposed, rw w.with_rows-else-rows-most.ensures at w.put-out-else-rows-most.ensures.holder)
    ] in
    record {
      from = omega arith;
      to = omega arith;
      transposed = IsRegionTransposed-rows c.args.region _ _ input _ _ _ c.loop-row.row next c.loop-row.invariant.from (omega arith) (omega arith) c.loop-row.invariant.transposed put.0;
      holder = g.met.M.Cells.same_holder_trans _ (items_of part) _ _ _ _ c.loop-row.invariant.holder put.1 (IsCut-rows done c.loop-row.row c.loop-row.invariant.from (omega arith)).items;
    }

pub returns-clause-transposed : goal.returns-clause-transposed
returns-clause-transposed g c = let end : c.loop-row.row ≡ c.args.region.row_end = omega (arith, c.loop-row.invariant.to, c.loop-row-test.false) in rw end at c.loop-row.invariant.transposed

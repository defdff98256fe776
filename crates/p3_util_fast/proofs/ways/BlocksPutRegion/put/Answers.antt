-- Each turn of the loop puts one more block. Then follow the rows that remain.
use Rattle.std.proofs.Common.{◌≡◌, ◌+◌, ◌-◌, ◌*◌, ◌/◌, ◌≤◌, inl, div-mul-le_self, arith}
use Rattle.p3_util_kernels.specs.Region.{cols_of}
use Rattle.p3_util_kernels.proofs.TransposeLemmas.Region.{IsCut-rows, IsRegionTransposed-rows, nothing_put, part_inside}
use Rattle.p3_util_fast.proofs.ways.BlocksPutRegion.put.Goals as goal

pub overflow_mul-row : goal.overflow_mul-row
overflow_mul-row g c = omega (arith, part_inside c.loop-part.part c.max-rows.result c.rows.result c.loop-part-test.true, c.rows.type_inv)

pub overflow_add-row : goal.overflow_add-row
overflow_add-row g c = omega (arith, part_inside c.loop-part.part c.max-rows.result c.rows.result c.loop-part-test.true, c.rows.ensures)

pub overflow_add-row-in-loop-part : goal.overflow_add-row-in-loop-part
overflow_add-row-in-loop-part g c = omega (arith, part_inside c.loop-part.part c.max-rows.result c.rows.result c.loop-part-test.true, c.rows.ensures)

pub overflow_mul-row-2 : goal.overflow_mul-row-2
overflow_mul-row-2 g c = omega (arith, div-mul-le_self c.rows.result c.max-rows.result, c.rows.type_inv)

pub overflow_add-row-2 : goal.overflow_add-row-2
overflow_add-row-2 g c = omega (arith, div-mul-le_self c.rows.result c.max-rows.result, c.rows.ensures)

pub loop-part-init : goal.loop-part-init
loop-part-init g c =
    let none : 0 * c.max-rows.result * cols_of c.args.region ≡ 0 = omega arith in
    record { transposed = nothing_put _ _ _ _ _ (inl (omega arith)); holder = rw none (g.met.M.Cells.same_holder_refl _) }

pub loop-part-preserved : goal.loop-part-preserved
loop-part-preserved g c =
    let rows = c.max-rows.result in
    let row = c.args.region.row_start + c.loop-part.part * rows in
    let more : c.args.region.row_start + (c.loop-part.part + 1) * rows ≡ row + rows = omega arith in
    let inside : row + rows ≤ c.args.region.row_end = omega (arith, part_inside c.loop-part.part rows c.rows.result c.loop-part-test.true, c.rows.ensures, c.requires.ready.inside.rows_in_order) in
    let cut = IsCut-rows (record c.args.region { row_end = row + rows }) row (omega arith) (omega arith) in
    let before : row - c.args.region.row_start ≡ c.loop-part.part * rows = omega arith in
    let after : row + rows - c.args.region.row_start ≡ (c.loop-part.part + 1) * rows = omega arith in
    record {
      transposed = rw more (IsRegionTransposed-rows c.args.region _ _ _ _ _ _ row (row + rows) (omega arith) (omega arith) (omega (arith, c.requires.ready.inside.rows_inside))
          c.loop-part.invariant.transposed (rw c.with_rows.ensures at c.put_as_block-out.ensures.transposed));
      holder = g.met.M.Cells.same_holder_trans _ _ _ _ _ _ c.loop-part.invariant.holder (rw c.with_rows.ensures at c.put_as_block-out.ensures.holder) (rw (before, after) at cut.items);
    }

pub returns-then-row-region-clause-transposed : goal.returns-then-row-region-clause-transposed
returns-then-row-region-clause-transposed g c =
    let done : c.loop-part.part ≡ c.rows.result / c.max-rows.result = omega (arith, c.loop-part-test.false, c.loop-part.auto.part-end) in
    IsRegionTransposed-rows c.args.region _ _ _ _ _ _ _ c.args.region.row_end (omega arith) (omega (arith, c.if-row-region.true)) c.requires.ready.inside.rows_inside
    (rw done at c.loop-part.invariant.transposed) (rw c.with_rows-then-row-region.ensures at c.put.ensures.transposed)

pub returns-then-row-region-clause-holder : goal.returns-then-row-region-clause-holder
returns-then-row-region-clause-holder g c =
    let done : c.loop-part.part ≡ c.rows.result / c.max-rows.result = omega (arith, c.loop-part-test.false, c.loop-part.auto.part-end) in
    let put = c.rows.result / c.max-rows.result * c.max-rows.result in
    let row = c.args.region.row_start + put in
    let before : row - c.args.region.row_start ≡ put = omega arith in
    g.met.M.Cells.same_holder_trans _ _ _ _ _ _ (rw done at c.loop-part.invariant.holder) (rw c.with_rows-then-row-region.ensures at c.put.ensures.holder)
    (rw before at (IsCut-rows c.args.region row (omega arith) (omega (arith, c.if-row-region.true))).items)

pub returns-clause-transposed : goal.returns-clause-transposed
returns-clause-transposed g c =
    let done : c.loop-part.part ≡ c.rows.result / c.max-rows.result = omega (arith, c.loop-part-test.false, c.loop-part.auto.part-end) in
    let end : c.args.region.row_start + c.loop-part.part * c.max-rows.result ≡ c.args.region.row_end =
    rw done (omega (arith, c.rows.ensures, div-mul-le_self c.rows.result c.max-rows.result, c.if-row-region.false, c.requires.ready.inside.rows_in_order)) in
    rw end at c.loop-part.invariant.transposed

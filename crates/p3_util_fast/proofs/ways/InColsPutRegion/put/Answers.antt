-- Each turn of the loop puts one more part. Then follow the columns that remain.
use Rattle.std.proofs.Common.{rules, ◌≡◌, ◌+◌, ◌-◌, ◌*◌, ◌/◌, ◌≤◌, inr, div-mul-le_self, arith}
use Rattle.p3_util_kernels.specs.Region.{rows_of}
use Rattle.p3_util_kernels.proofs.TransposeLemmas.Region.{IsCut-cols, IsRegionTransposed-cols, nothing_put, part_inside}
use Rattle.p3_util_fast.proofs.ways.InColsPutRegion.put.Goals as goal

pub overflow_mul-col : goal.overflow_mul-col
overflow_mul-col g c = omega (arith, part_inside c.loop-part.part c.max-cols.result c.cols.result c.loop-part-test.true, c.cols.type_inv)

pub overflow_add-col : goal.overflow_add-col
overflow_add-col g c = omega (arith, part_inside c.loop-part.part c.max-cols.result c.cols.result c.loop-part-test.true, c.cols.ensures)

pub overflow_add-col-in-loop-part : goal.overflow_add-col-in-loop-part
overflow_add-col-in-loop-part g c = omega (arith, part_inside c.loop-part.part c.max-cols.result c.cols.result c.loop-part-test.true, c.cols.ensures)

pub overflow_mul-col-2 : goal.overflow_mul-col-2
overflow_mul-col-2 g c = omega (arith, div-mul-le_self c.cols.result c.max-cols.result, c.cols.type_inv)

pub overflow_add-col-2 : goal.overflow_add-col-2
overflow_add-col-2 g c = omega (arith, div-mul-le_self c.cols.result c.max-cols.result, c.cols.ensures)

pub loop-part-init : goal.loop-part-init
loop-part-init g c =
    let none : rows_of c.args.region * (0 * c.max-cols.result) ≡ 0 = omega arith in
    record { transposed = nothing_put _ _ _ _ _ (inr (omega arith)); holder = rw none (g.met.M.Cells.same_holder_refl _) }

pub loop-part-preserved : goal.loop-part-preserved
loop-part-preserved g c =
    let cols = c.max-cols.result in
    let col = c.args.region.col_start + c.loop-part.part * cols in
    let more : c.args.region.col_start + (c.loop-part.part + 1) * cols ≡ col + cols = omega arith in
    let inside : col + cols ≤ c.args.region.col_end = omega (arith, part_inside c.loop-part.part cols c.cols.result c.loop-part-test.true, c.cols.ensures, c.requires.ready.inside.cols_in_order) in
    let cut = IsCut-cols (record c.args.region { col_end = col + cols }) col (omega arith) (omega arith) in
    let before : col - c.args.region.col_start ≡ c.loop-part.part * cols = omega arith in
    let after : col + cols - c.args.region.col_start ≡ (c.loop-part.part + 1) * cols = omega arith in
    record {
      transposed = rw more (IsRegionTransposed-cols c.args.region _ _ _ _ _ _ col (col + cols) (omega arith) (omega arith) c.requires.ready.inside.rows_inside
          c.loop-part.invariant.transposed (rw c.with_cols.ensures at c.put-out.ensures.transposed));
      holder = g.met.M.Cells.same_holder_trans _ _ _ _ _ _ c.loop-part.invariant.holder (rw c.with_cols.ensures at c.put-out.ensures.holder) (rw (before, after) at cut.items);
    }

pub returns-then-col-region-clause-transposed : goal.returns-then-col-region-clause-transposed
returns-then-col-region-clause-transposed g c =
    let done : c.loop-part.part ≡ c.cols.result / c.max-cols.result = omega (arith, c.loop-part-test.false, c.loop-part.auto.part-end) in
    IsRegionTransposed-cols c.args.region _ _ _ _ _ _ _ c.args.region.col_end (omega arith) (omega (arith, c.if-col-region.true)) c.requires.ready.inside.rows_inside
    (rw done at c.loop-part.invariant.transposed) (rw c.with_cols-then-col-region.ensures at c.put.ensures.transposed)

pub returns-then-col-region-clause-holder : goal.returns-then-col-region-clause-holder
returns-then-col-region-clause-holder g c =
    let done : c.loop-part.part ≡ c.cols.result / c.max-cols.result = omega (arith, c.loop-part-test.false, c.loop-part.auto.part-end) in
    let put = c.cols.result / c.max-cols.result * c.max-cols.result in
    let col = c.args.region.col_start + put in
    let before : col - c.args.region.col_start ≡ put = omega arith in
    g.met.M.Cells.same_holder_trans _ _ _ _ _ _ (rw done at c.loop-part.invariant.holder) (rw c.with_cols-then-col-region.ensures at c.put.ensures.holder)
    (rw before at (IsCut-cols c.args.region col (omega arith) (omega (arith, c.if-col-region.true))).items)

pub returns-clause-transposed : goal.returns-clause-transposed
returns-clause-transposed g c =
    let done : c.loop-part.part ≡ c.cols.result / c.max-cols.result = omega (arith, c.loop-part-test.false, c.loop-part.auto.part-end) in
    let end : c.args.region.col_start + c.loop-part.part * c.max-cols.result ≡ c.args.region.col_end =
    rw done (omega (arith, c.cols.ensures, div-mul-le_self c.cols.result c.max-cols.result, c.if-col-region.false, c.requires.ready.inside.cols_in_order)) in
    rw end at c.loop-part.invariant.transposed

pub put-out-requires : goal.put-out-requires
put-out-requires g c = search rules

pub put-requires : goal.put-requires
put-requires g c = search rules

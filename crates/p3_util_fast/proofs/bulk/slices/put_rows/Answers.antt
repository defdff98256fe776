-- Each turn of the loop puts one more column.
use Rattle.std.proofs.Common.{rules, ◌≡◌, ℕ, ◌+◌, ◌-◌, ◌*◌, ◌≤◌, length, refl, arith, ◌∙◌}
use Rattle.p3_util_fast.proofs.BulkLemmas.Blocks.{IsBlockPut-column, row-item, row-long}
use Rattle.p3_util_fast.proofs.bulk.slices.put_rows.Goals as goal

pub loop-col-init : goal.loop-col-init
loop-col-init g c = let none : c.args.block.rows * 0 ≡ 0 = omega arith in
    record { same_length = refl; places = λ r d hr h. absurd (omega (arith, h, none)); others = λ p out. refl }

pub overflow_mul-at : goal.overflow_mul-at
overflow_mul-at g c = omega (arith, c.requires.fits.room 0 c.loop-col.col c.requires.some c.loop-col-test.true, c.loop-col.invariant.same_length)

pub overflow_add-at : goal.overflow_add-at
overflow_add-at g c = omega (arith, c.requires.fits.room 0 c.loop-col.col c.requires.some c.loop-col-test.true, c.loop-col.invariant.same_length)

pub overflow_add-at-in-loop-col : goal.overflow_add-at-in-loop-col
overflow_add-at-in-loop-col g c = omega (arith, c.requires.rows, c.requires.fits.room (c.args.block.rows - 1) c.loop-col.col (omega (arith, c.requires.some)) c.loop-col-test.true, c.loop-col.invariant.same_length)

pub offset_bounds-values-at : goal.offset_bounds-values-at
offset_bounds-values-at g c =
    let within : c.args.block.to + c.loop-col.col * c.args.block.height ≤ length c.loop-col.values =
    omega (arith, c.requires.fits.room 0 c.loop-col.col c.requires.some c.loop-col-test.true, c.loop-col.invariant.same_length) in
    search rules

pub slice_bounds-put_column-end : goal.slice_bounds-put_column-end
slice_bounds-put_column-end g c = omega (arith, c.requires.rows, c.requires.fits.room (c.args.block.rows - 1) c.loop-col.col (omega (arith, c.requires.some)) c.loop-col-test.true, c.loop-col.invariant.same_length)

pub put_column-requires-clause-long : goal.put_column-requires-clause-long
put_column-requires-clause-long g c =
    λ r h. row-long c.args.block c.args.items.now _ _ c.rows_of-rows.ensures.rows r c.loop-col.col (omega (arith, h, c.requires.rows)) c.loop-col-test.true
    (omega (arith, c.requires.fits.inside r (c.args.block.cols - 1) (omega (arith, h, c.requires.rows)) (omega arith)))

pub loop-col-preserved : goal.loop-col-preserved
loop-col-preserved g c =
    let col : ℕ = c.loop-col.col in
    IsBlockPut-column _ _ _ c.requires.fits _ _ col _ _ _ _ refl (omega (arith, c.requires.rows, c.requires.some)) (omega (arith, c.requires.rows)) c.loop-col-test.true refl c.loop-col.invariant
    (c.put_column.ensures.same_length ∙ omega arith)
    (λ r h. row-item c.args.block c.args.items.now _ _ c.rows_of-rows.ensures.rows r col h c.loop-col-test.true _ (omega (arith, h, c.requires.rows, c.requires.most, c.rows_of-rows.ensures.len))
    (c.put_column.ensures.put r (omega (arith, h, c.requires.rows))))

pub returns : goal.returns
returns g c = let end : c.loop-col.col ≡ c.args.block.cols = omega arith in rw end at c.loop-col.invariant

-- Each turn of the inner loop exchanges one more place of a row to the right of the diagonal, and each
-- turn of the outer loop one more row.
use Rattle.std.proofs.Common.{◌≡◌, ◌+◌, ◌-◌, ◌*◌, ◌∙◌, slice_index, inl, suc, refl, arith}
use Rattle.p3_util_kernels.specs.declared.transpose.region.Region.{Region}
use Rattle.p3_util_fast.specs.Grid.{row_place}
use Rattle.p3_util_kernels.specs.SwapCounts.{square_swaps}
use Rattle.p3_util_fast.proofs.GridLemmas.Parts.{IsTile-grid, SwapsInGrid-corner, SwapsInGrid-item, SwapsInGrid-none, SwapsInGrid-tile, grid_fits, grid_room, one_place}
use Rattle.p3_util_kernels.proofs.BitsLemmas.Pairs.{square_swaps-next}
use Rattle.p3_util_fast.proofs.grid.exchange_diagonal_tile.Goals as goal

pub overflow_add-start : goal.overflow_add-start
overflow_add-start g c = omega (arith, c.start.ensures, (grid_fits c.args.grid _ c.requires.ready).rows c.args.start (omega arith))

pub tile_rows-places-requires-clause-fits : goal.tile_rows-places-requires-clause-fits
tile_rows-places-requires-clause-fits g c = grid_fits c.args.grid _ c.requires.ready

-- single items
pub turn_tile-requires : goal.turn_tile-requires
turn_tile-requires g c =
    IsTile-grid c.args.grid _ c.requires.ready c.args.start _ c.if-grid-eq1.true c.requires.within (c.tile_rows-places.ensures c.args.start c.args.start c.requires.whole c.requires.within (omega arith))

pub returns-then-grid-eq1-clause-exchanged : goal.returns-then-grid-eq1-clause-exchanged
returns-then-grid-eq1-clause-exchanged g c =
    let rows = c.tile_rows-places.ensures c.args.start c.args.start c.requires.whole c.requires.within (omega arith) in
    SwapsInGrid-tile c.args.grid _ c.requires.ready c.args.start c.args.start _ _ _ _ _ c.if-grid-eq1.true (inl refl) c.requires.within rows rows (λ r c hr hc h. (omega arith, omega arith)) c.turn_tile.ensures.turned

-- wider places
pub loop-row-init : goal.loop-row-init
loop-row-init g c =
    let none : c.args.grid.width * 0 ≡ 0 = omega arith in
    record {
      exchanged = SwapsInGrid-none c.args.grid _ c.requires.ready _ _ (λ t a b h k. absurd (omega (arith, k.row_from, k.row_to)));
      count = 0;
      left = refl;
      holder = rw none (g.met.M.Places.same_holder_refl _);
    }

pub loop-col-preserved : goal.loop-col-preserved
loop-col-preserved g c =
    let start = c.args.start in
    let row = c.loop-row.row in
    let col = c.loop-col.col in
    let upper : slice_index c.tile_rows-places.result row + col ≡ row_place c.args.grid (start + row) + (start + col) = omega (arith, c.tile_rows-places.ensures c.args.start c.args.start c.requires.whole c.requires.within (omega arith) row (omega arith)) in
    let lower : slice_index c.tile_rows-places.result col + row ≡ row_place c.args.grid (start + col) + (start + row) = omega (arith, c.tile_rows-places.ensures c.args.start c.args.start c.requires.whole c.requires.within (omega arith) col (omega arith)) in
    let next : start + (col + 1) ≡ start + col + 1 = omega arith in
    let one : col + 1 - (row + 1) ≡ col - (row + 1) + 1 = omega arith in
    let more : c.args.grid.width * (col - (row + 1)) + c.args.grid.width ≡ c.args.grid.width * (col + 1 - (row + 1)) = rw one (omega arith) in
    let right : Region = record { row_start = start + row; row_end = start + row + 1; col_start = start + row + 1; col_end = start + 8 } in
    record {
      exchanged = rw next (SwapsInGrid-item c.args.grid _ c.requires.ready (start + row) (start + col) right _ _ _ (omega arith) (omega arith) (omega arith) c.loop-col.invariant.exchanged
          (rw (upper, lower) at c.exchange_places-m.ensures.exchanged));
      holder = g.met.M.Places.same_holder_trans _ _ _ _ _ _ c.loop-col.invariant.holder c.exchange_places-m.ensures.holder more;
    }

pub overflow_add-places : goal.overflow_add-places
overflow_add-places g c =
    let start = c.args.start in
    let upper = c.tile_rows-places.ensures start start c.requires.whole c.requires.within (omega arith) c.loop-row.row (omega arith) in
    omega (arith, upper, (grid_fits c.args.grid _ c.requires.ready).rows (start + c.loop-row.row) (omega arith))

pub overflow_add-places-in-loop-col : goal.overflow_add-places-in-loop-col
overflow_add-places-in-loop-col g c =
    let start = c.args.start in
    let lower = c.tile_rows-places.ensures start start c.requires.whole c.requires.within (omega arith) c.loop-col.col (omega arith) in
    omega (arith, lower, (grid_fits c.args.grid _ c.requires.ready).rows (start + c.loop-col.col) (omega arith))

-- the two places are in different rows
pub exchange_places-m-requires-clause-apart : goal.exchange_places-m-requires-clause-apart
exchange_places-m-requires-clause-apart g c e =
    let start = c.args.start in
    let row = c.loop-row.row in
    let col = c.loop-col.col in
    let upper = c.tile_rows-places.ensures start start c.requires.whole c.requires.within (omega arith) row (omega arith) in
    let lower = c.tile_rows-places.ensures start start c.requires.whole c.requires.within (omega arith) col (omega arith) in
    let same = one_place c.args.grid _ c.requires.ready (start + row) (start + col) (start + col) (start + row) (omega arith) (omega arith) (omega arith) (omega arith)
    (omega (arith, e, upper, lower)) in
    omega (arith, same.0)

pub exchange_places-m-requires-clause-first : goal.exchange_places-m-requires-clause-first
exchange_places-m-requires-clause-first g c =
    let start = c.args.start in
    let row = c.loop-row.row in
    let upper : slice_index c.tile_rows-places.result row + c.loop-col.col ≡ row_place c.args.grid (start + row) + (start + c.loop-col.col) = omega (arith, c.tile_rows-places.ensures c.args.start c.args.start c.requires.whole c.requires.within (omega arith) row (omega arith)) in
    let same = c.loop-col.invariant.exchanged.same_length ∙ c.loop-row.invariant.exchanged.same_length in
    rw (upper, same) (grid_room c.args.grid _ c.requires.ready (start + row) (start + c.loop-col.col) (omega arith) (omega arith))

pub exchange_places-m-requires-clause-second : goal.exchange_places-m-requires-clause-second
exchange_places-m-requires-clause-second g c =
    let start = c.args.start in
    let row = c.loop-row.row in
    let lower : slice_index c.tile_rows-places.result c.loop-col.col + row ≡ row_place c.args.grid (start + c.loop-col.col) + (start + row) = omega (arith, c.tile_rows-places.ensures c.args.start c.args.start c.requires.whole c.requires.within (omega arith) c.loop-col.col (omega arith)) in
    let same = c.loop-col.invariant.exchanged.same_length ∙ c.loop-row.invariant.exchanged.same_length in
    rw (lower, same) (grid_room c.args.grid _ c.requires.ready (start + c.loop-col.col) (start + row) (omega arith) (omega arith))

pub loop-row-preserved : goal.loop-row-preserved
loop-row-preserved g c =
    let start = c.args.start in
    let row = c.loop-row.row in
    let end : c.loop-col.col ≡ 8 = omega arith in
    let less : 8 - row ≡ suc (8 - (row + 1)) = omega arith in
    let next : start + (row + 1) ≡ start + row + 1 = omega arith in
    record {
      exchanged = rw next (SwapsInGrid-corner c.args.grid _ c.requires.ready start (start + row) (start + 8) _ _ _ (omega arith) (omega arith) c.loop-row.invariant.exchanged (rw end at c.loop-col.invariant.exchanged));
      count = c.loop-row.invariant.count + (8 - (row + 1));
      left = omega (arith, rw less at c.loop-row.invariant.left, square_swaps-next (8 - (row + 1)));
      holder = g.met.M.Places.same_holder_trans _ _ _ _ _ _ c.loop-row.invariant.holder (rw end at c.loop-col.invariant.holder) (omega arith);
    }

pub returns-clause-exchanged : goal.returns-clause-exchanged
returns-clause-exchanged g c = let all : c.loop-row.row ≡ 8 = omega arith in rw all at c.loop-row.invariant.exchanged

pub returns-clause-holder : goal.returns-clause-holder
returns-clause-holder g c =
    let none : 8 - c.loop-row.row ≡ 0 = omega arith in
    let all : c.loop-row.invariant.count ≡ square_swaps 8 = omega (arith, rw none at c.loop-row.invariant.left) in
    rw all at c.loop-row.invariant.holder

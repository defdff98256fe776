-- A patch is a region of the grid of its rows.
use Rattle.std.proofs.Common.{◌≡◌, ℕ, ◌-◌, ◌/◌, ◌%◌, List, arith}
use Rattle.std.proofs.lemmas.Grind.{common_steps}
use Rattle.p3_util_kernels.specs.declared.transpose.region.Region.{Region}
use Rattle.p3_util_dispatch.specs.Patches.{IsPatch}
use Rattle.p3_util_fast.specs.Crossing.{HoldsRows}
use Rattle.p3_util_fast.specs.Grid.{HoldsGrid, grid_of_rows}
use Rattle.p3_util_dispatch.proofs.PatchesLemmas.{patch-above}
use Rattle.p3_util_fast.proofs.GridLemmas.Rows.{HoldsGrid-rows}
use Rattle.p3_util_dispatch.proofs.parts.RowPairs.exchange.Goals as goal

-- the grid of a patch is one of those of the rows
ready : {A : Type 0} (digits part_len number middle width : ℕ) (region : Region) (items : List A) → IsPatch digits part_len number middle region → HoldsRows width digits items
    → HoldsGrid (grid_of_rows (digits / 2) (digits - digits / 2) width middle) items
ready digits part_len number middle width region items patch rows =
    let rest : digits - digits / 2 - digits / 2 ≡ digits % 2 = omega arith in
    HoldsGrid-rows (digits / 2) (digits - digits / 2) width middle (omega arith) (rw rest patch.middle_below) digits items (omega arith) rows

pub exchange_quadrants-requires-clause-ready : goal.exchange_quadrants-requires-clause-ready
exchange_quadrants-requires-clause-ready g c = rw c.grid-grid.ensures (ready _ _ _ _ _ _ _ c.patch-middle.ensures c.requires.rows)

pub exchange_region-requires-clause-ready : goal.exchange_region-requires-clause-ready
exchange_region-requires-clause-ready g c = rw c.grid-grid.ensures (ready _ _ _ _ _ _ _ c.patch-middle.ensures c.requires.rows)

pub exchange_region-requires-clause-above : goal.exchange_region-requires-clause-above
exchange_region-requires-clause-above g c = patch-above _ _ _ _ _ c.args.self.cut.some_part_len c.patch-middle.ensures c.if-region.false

pub returns-then-region : goal.returns-then-region
returns-then-region g c = grind (arith, common_steps)

pub returns-else-region : goal.returns-else-region
returns-else-region g c = grind (arith, common_steps)

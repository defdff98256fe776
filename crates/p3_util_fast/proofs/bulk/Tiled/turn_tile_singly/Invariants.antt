use Rattle.std.proofs.Common.{◌≡◌, ℕ, ◌+◌, ◌-◌, ◌*◌}
use Rattle.p3_util_fast.specs.Tiles.{TileTurned}
use Rattle.p3_util_kernels.specs.SwapCounts.{square_swaps}
use Rattle.p3_util_fast.proofs.bulk.Tiled.turn_tile_singly.Given as goal

-- the rows before this one are exchanged to the right of the diagonal, and the others still have the
-- exchanges of a smaller square
abbrev pub invariant-loop-row : goal.invariant-loop-row
invariant-loop-row g l = record {
  turned : TileTurned (8 * l.row) l.x (g.Self.Places.items l.fn.self) (g.Self.Places.items l.self);
  count : ℕ;
  left : count + square_swaps (8 - l.row) ≡ 28;
  holder : g.Self.Places.same_holder count l.fn.self l.self;
}

-- and in this row the items before `col`
abbrev pub invariant-loop-col : goal.invariant-loop-col
invariant-loop-col g l = record {
  turned : TileTurned (8 * l.row + l.col) l.x (g.Self.Places.items l.fn.self) (g.Self.Places.items l.self);
  holder : g.Self.Places.same_holder (l.col - (l.row + 1)) l.initial.self l.self;
}

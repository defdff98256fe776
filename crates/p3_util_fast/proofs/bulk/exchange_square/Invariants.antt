use Rattle.std.proofs.Common.{◌+◌, ◌*◌}
use Rattle.p3_util_fast.specs.Registers.{IsSquareOf, ItemsExchanged}
use Rattle.p3_util_fast.proofs.bulk.exchange_square.Given as goal

-- the diagonals before d of the square are exchanged, and of diagonal d the items in rows before r
abbrev pub invariant-loop-d : goal.invariant-loop-d
invariant-loop-d g l = record {
  exchanged : ItemsExchanged (IsSquareOf l.row l.col (4 * l.d)) l.x l.y (g.M.Places.items l.fn.list) (g.M.Places.items l.list);
  holder : g.M.Places.same_holder (4 * l.d) l.fn.list l.list;
}

abbrev pub invariant-loop-r : goal.invariant-loop-r
invariant-loop-r g l = record {
  exchanged : ItemsExchanged (IsSquareOf l.row l.col (4 * l.d + l.r)) l.x l.y (g.M.Places.items l.fn.list) (g.M.Places.items l.list);
  holder : g.M.Places.same_holder (4 * l.d + l.r) l.fn.list l.list;
}

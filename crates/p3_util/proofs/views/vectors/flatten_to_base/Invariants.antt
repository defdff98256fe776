use Rattle.std.proofs.Common.{◌≡◌, ◌*◌, take, drop, vec_len, vec_capacity}
use Rattle.p3_util.specs.Flat.{flat}
use Rattle.p3_util.proofs.views.vectors.flatten_to_base.Given as goal

-- the items of the rows so far are moved, and there is room for all items
abbrev pub invariant-loop-row : goal.invariant-loop-row
invariant-loop-row g l = record {
  moved : l.items.items ≡ flat (take l.row-index l.fn.vec.items);
  left : drop l.row-index l.row-items ≡ drop l.row-index l.fn.vec.items;
  full : vec_len l.items ≡ l.row-index * g.row.N;
  room : vec_capacity l.items ≡ vec_len l.fn.vec * g.row.N;
}

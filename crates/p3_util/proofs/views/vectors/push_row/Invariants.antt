use Rattle.std.proofs.Common.{◌≡◌, ◌+◌, ◌++◌, take, drop, vec_len, vec_capacity}
use Rattle.p3_util.proofs.views.vectors.push_row.Given as goal

-- the items so far are moved, and the capacity is as it was
abbrev pub invariant-loop-item : goal.invariant-loop-item
invariant-loop-item g l = record {
  moved : l.items.items ≡ l.initial.items.items ++ take l.item-index l.initial.row;
  left : drop l.item-index l.row ≡ drop l.item-index l.initial.row;
  full : vec_len l.items ≡ vec_len l.initial.items + l.item-index;
  room : vec_capacity l.items ≡ vec_capacity l.initial.items;
}

use Rattle.std.proofs.Common.{◌≡◌, ◌+◌, ◌*◌, ◌++◌, length, vec_len, vec_capacity}
use Rattle.std.specs.Vec.Iter.{into_iter_items}
use Rattle.p3_util.specs.Flat.{flat}
use Rattle.p3_util.proofs.views.vectors.reconstitute_from_base.Given as goal

-- the items so far are moved into whole rows, and there is room for all rows
abbrev pub invariant-loop : goal.invariant-loop
invariant-loop g l = record {
  moved : l.fn.vec.items ≡ flat l.rows.items ++ into_iter_items l.items;
  left : length (into_iter_items l.items) + l.counter * g.row.N ≡ vec_len l.fn.vec;
  made : vec_len l.rows ≡ l.counter;
  room : vec_capacity l.rows ≡ l.count;
}

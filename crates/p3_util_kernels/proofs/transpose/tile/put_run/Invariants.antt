use Rattle.std.proofs.Common.{◌≡◌, ℕ, ◌+◌, ◌<◌, ◌≤◌, ◌⊎◌, length, slice_get}
use Rattle.p3_util_kernels.proofs.transpose.tile.put_run.Given as goal

-- the items before `t` are put
abbrev pub invariant-loop-t : goal.invariant-loop-t
invariant-loop-t g l = record {
  same_length : length (g.C.Cells.items l.cells) ≡ length (g.C.Cells.items l.fn.cells);
  places : (s : ℕ) → s < l.t → slice_get (g.C.Cells.items l.cells) (l.to + s) ≡ slice_get l.items (l.from + s);
  others : (p : ℕ) → (p < l.to) ⊎ (l.to + l.t ≤ p) → slice_get (g.C.Cells.items l.cells) p ≡ slice_get (g.C.Cells.items l.fn.cells) p;
  holder : g.C.Cells.same_holder l.t l.fn.cells l.cells;
}

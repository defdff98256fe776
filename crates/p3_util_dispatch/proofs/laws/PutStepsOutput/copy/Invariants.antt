use Rattle.std.proofs.Common.{◌-◌, ◌≡◌, length, ℕ, ◌<◌, ◌≤◌, slice_get}
use Rattle.p3_util_kernels.specs.Least.{PutsLead}
use Rattle.p3_util_dispatch.proofs.laws.PutStepsOutput.copy.Given as goal

-- the first i items are copied
abbrev pub invariant-loop-i : goal.invariant-loop-i
invariant-loop-i g l = record {
  below : l.i ≤ l.len;
  same_length : length (g.C.Cells.items l.copied.cells) ≡ length (g.C.Cells.items l.fn.self.cells);
  copied : (p : ℕ) → p < l.i → slice_get (g.C.Cells.items l.copied.cells) p ≡ slice_get (g.R.Source.items l.source) p;
  holder : PutsLead l.i (g.C.Cells.items l.fn.self.cells) (g.C.Cells.items l.copied.cells);
}

abbrev pub decreases-loop-i : goal.decreases-loop-i
decreases-loop-i g l = l.len - l.i

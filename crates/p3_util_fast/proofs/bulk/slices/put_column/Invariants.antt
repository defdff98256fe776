use Rattle.std.proofs.Common.{◌≡◌, ℕ, ◌<◌, IfSome, length, slice_get}
use Rattle.p3_util_fast.proofs.bulk.slices.put_column.Given as goal

-- the items of the rows before r are put
abbrev pub invariant-loop-r : goal.invariant-loop-r
invariant-loop-r g l = record {
  same_length : length l.column ≡ length l.fn.column;
  put : (r : ℕ) → r < l.r → IfSome (slice_get l.rows r) (λ row. slice_get l.column r ≡ slice_get row.now l.col);
}

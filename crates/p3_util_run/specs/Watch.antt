-- A reader or a writer whose failures are counted. The count stops at the largest u64. Source: new.
use Rattle.std.specs.Prelude.{Bool, ℕ, ◌≡◌, ◌+◌, ◌-◌, ◌^◌, ◌<◌, ◌⊎◌, min, List, length, Result, Ok, Err, nat_lt, ◌&&◌, ◌==◌, if◌then◌else◌}
use Rattle.p3_util_run.specs.declared.watched.InputEnd.{InputEnd}
use Rattle.p3_util_run.specs.declared.watched.InputEnd.TheVariants.{Ahead, Reached, Passed}

-- what a contract sees of a `Watched`, which is a reader or a writer whose failures are counted: the reader or writer
-- inside, the number of its failures, how far a reader has read, and whether a writer is flushed
pub record Watch (T : Type 0) : Type 0 where
  pub inner : T
  pub failures : ℕ
  pub input_end : InputEnd
  pub is_flushed : Bool

-- the count of failures after one more. A count stops at the largest u64
abbrev pub noted : ℕ → ℕ
noted count = min (2 ^ 64 - 1) (count + 1)

-- the count after a call, which has failed if it returned an error
abbrev pub count_after_call : {T E : Type 0} → Result T E → ℕ → ℕ
count_after_call (Ok _) count = count
count_after_call (Err _) count = noted count

-- a call for at least one byte moved no byte
abbrev pub moves_none : ℕ → List ℕ → Bool
moves_none n bytes = n == 0 && nat_lt 0 (length bytes)

-- the count after a write of these bytes. It has failed if it returned an error, or took none though there were some
abbrev pub count_after_write : {E : Type 0} → Result ℕ E → List ℕ → ℕ → ℕ
count_after_write (Ok n) bytes count = if moves_none n bytes then noted count else count
count_after_write (Err _) bytes count = noted count

-- where the reader is after a read into these bytes. It is at its end when it yields no byte for at
-- least one, and each later read goes past the end
abbrev pub end_after_read : {E : Type 0} → Result ℕ E → List ℕ → InputEnd → InputEnd
end_after_read (Ok n) bytes Ahead = if moves_none n bytes then Reached else Ahead
end_after_read (Err _) bytes Ahead = Ahead
end_after_read r bytes Reached = Passed
end_after_read r bytes Passed = Passed

-- a `Watch` failed in between: its count rose, or is at its maximum
abbrev pub HasFailed : {T : Type 0} → Watch T → Watch T → Type 0
HasFailed old new = (old.failures < new.failures) ⊎ (new.failures ≡ 2 ^ 64 - 1)

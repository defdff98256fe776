-- What a call that checks its own precondition returns and does. Source: new.
use Rattle.std.specs.Prelude.{ℕ, ◌≡◌, ◌*◌, ◌↔◌, Bool, IsTrue, List, length}
use Rattle.std.specs.Bool.{OnTrue, OnFalse}
use Rattle.p3_util_kernels.specs.Reversal.{FitsRows, IsReversal, IsRowReversal, IsZeroOrPowerOfTwo}
use Rattle.p3_util_kernels.specs.Transpose.{IsTranspose}

-- `held` is true exactly if `condition` holds. If it is true, `done` holds: the call did its work.
-- If it is false, `unchanged` holds: the call changed nothing
abbrev pub IsTried : (held : Bool) → (condition done unchanged : Type 0) → Type 0
IsTried held condition done unchanged = (IsTrue held ↔ condition) × OnTrue held done × OnFalse held unchanged

-- `IsTried` for a reversal by index bits. The condition is that the length is zero or a power of two
abbrev pub IsTriedReversal : {A : Type 0} → (held : Bool) → (old new : List A) → Type 0
IsTriedReversal held old new = IsTried held (IsZeroOrPowerOfTwo (length old)) (IsReversal old new) (new ≡ old)

-- `IsTried` for a reversal of rows. The condition is that the length is the row width times zero or a power of two
abbrev pub IsTriedRowReversal : {A : Type 0} → (held : Bool) → (row_width : ℕ) → (old new : List A) → Type 0
IsTriedRowReversal held row_width old new =
    IsTried held (FitsRows (length old) row_width) (IsRowReversal row_width old new) (new ≡ old)

-- `IsTried` for a transpose of `input` into an output, which is `old` before the call and `new`
-- after it. The condition is that `input` and the output both have `width * height` items
abbrev pub IsTriedTranspose : {A : Type 0} → (held : Bool) → (width height : ℕ) → (input old new : List A) → Type 0
IsTriedTranspose held width height input old new =
    IsTried held ((length input ≡ width * height) × (length old ≡ width * height)) (IsTranspose width height input new)
    (new ≡ old)

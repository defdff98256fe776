-- What the program writes for its arguments and its input, and why it ends without a text. Source: new.
use Rattle.std.specs.Prelude.{ℕ, ◌≡◌, ◌⊎◌, ◌*◌, List, length, map, String, string_bytes, Option, Result, Ok, Err, IsSomeAnd, MatchOption, ⊤}
use Rattle.std.specs.declared.alloc.Global.{Global}
use Rattle.std.specs.Io.KnownBytes.{Consumes, IsAtEnd}
use Rattle.p3_util_kernels.specs.Reversal.{FitsRows, IsReversal, IsRowReversal, IsZeroOrPowerOfTwo}
use Rattle.p3_util_kernels.specs.Transpose.{IsTranspose}
use Rattle.p3_util_run.specs.Arrays.{IsArrayOf, line_of}
use Rattle.p3_util_run.specs.Words.{command_of}
use Rattle.p3_util_run.specs.declared.fault.RunFault.{RunFault}
use Rattle.p3_util_run.specs.declared.fault.RunFault.TheVariants.{UnknownCommand, Read, NotAnArray, BadLength, NotTheLength, Memory, Write, BadRows}
use Rattle.p3_util_run.specs.declared.words.Command.{Command}
use Rattle.p3_util_run.specs.declared.words.Command.TheVariants.{Revbits, Revrows, Transpose}

-- `Fits command len` says that the command can rearrange a list of `len` items. For `revbits`,
-- `len` is zero or a power of two. For `revrows`, it is the row width times zero or a power of two.
-- For `transpose`, it is the width times the height
abbrev pub Fits : Command → ℕ → Type 0
Fits Revbits len = IsZeroOrPowerOfTwo len
Fits (Revrows width) len = FitsRows len width
Fits (Transpose width height) len = len ≡ width * height

-- `IsRearranged command old new` says that the command turns the list `old` into `new`, by
-- `IsReversal`, `IsRowReversal` or `IsTranspose`
abbrev pub IsRearranged : Command → (old new : List ℕ) → Type 0
IsRearranged Revbits old new = IsReversal old new
IsRearranged (Revrows width) old new = IsRowReversal width old new
IsRearranged (Transpose width height) old new = IsTranspose width height old new

-- `misfit command len` is the fault if the command cannot rearrange a list of `len` items:
-- `BadLength`, `BadRows` or `NotTheLength`
abbrev pub misfit : Command → ℕ → RunFault
misfit Revbits len = BadLength len
misfit (Revrows width) len = BadRows width len
misfit (Transpose width height) len = NotTheLength width height len

-- The input is a JSON array of numbers whose length `Fits` the command. The text is the line with
-- the array of the rearranged numbers, as `IsRearranged` says
abbrev pub Answers : Command → (input text : List ℕ) → Type 0
Answers command input text = (old new : List ℕ) × IsArrayOf input old × Fits command (length old) × IsRearranged command old new × (text ≡ line_of new)

-- The command has no answer for the input, and the fault says why. It is `NotAnArray` if the input is not a JSON array
-- of numbers. If the length of the array does not fit the command, it is the `misfit`
abbrev pub Refuses : Command → List ℕ → RunFault → Type 0
Refuses command input fault = ((fault ≡ NotAnArray) × ((xs : List ℕ) → ¬ IsArrayOf input xs))
    ⊎ ((xs : List ℕ) × IsArrayOf input xs × ¬ Fits command (length xs) × (fault ≡ misfit command (length xs)))

-- The text is what the program writes for these arguments and this input. The arguments name a
-- command, which is their `command_of`, and the command `Answers` the input with the text
abbrev pub Out : (words : List (List ℕ)) (input text : List ℕ) → Type 0
Out words input text = IsSomeAnd (command_of words) (λ command. Answers command input text)

-- the fault with which the program ends if `Out` holds for no text. It is `UnknownCommand` if the arguments have no
-- `command_of`, and otherwise the fault with which the command `Refuses` the input
abbrev pub Fault : (words : List (List ℕ)) (input : List ℕ) → RunFault → Type 0
Fault words input fault = MatchOption (command_of words) (fault ≡ UnknownCommand) (λ command. Refuses command input fault)

-- there is a text to write: `Out` holds for it
abbrev pub IsDefined : (words : List (List ℕ)) (input : List ℕ) → Type 0
IsDefined words input = (text : List ℕ) × Out words input text

-- the fault depends on the bytes of the input
abbrev pub IsOfInput : RunFault → Type 0
IsOfInput UnknownCommand = ⊥
IsOfInput Read = ⊥
IsOfInput NotAnArray = ⊤
IsOfInput (BadLength len) = ⊤
IsOfInput (NotTheLength width height len) = ⊤
IsOfInput Memory = ⊥
IsOfInput Write = ⊥
IsOfInput (BadRows width len) = ⊤

-- the result is none of the faults `Read`, `Memory` and `Write`: the reader, the memory and the writer did not fail
abbrev pub IsSettled : {T : Type 0} → Result T RunFault → Type 0
IsSettled (Ok _) = ⊤
IsSettled (Err UnknownCommand) = ⊤
IsSettled (Err Read) = ⊥
IsSettled (Err NotAnArray) = ⊤
IsSettled (Err (BadLength len)) = ⊤
IsSettled (Err (NotTheLength width height len)) = ⊤
IsSettled (Err Memory) = ⊥
IsSettled (Err Write) = ⊥
IsSettled (Err (BadRows width len)) = ⊤

-- A reader had exactly the bytes of `input` left, and now it has none left. `old` and `new` are the
-- bytes that it had left before and after, or `None` if they are not known
abbrev pub ReadsAll : Option (List ℕ) → Option (List ℕ) → List ℕ → Type 0
ReadsAll old new input = Consumes old new input × IsAtEnd new

-- the bytes of each argument
abbrev pub texts_of : List (String Global) → List (List ℕ)
texts_of words = map string_bytes words

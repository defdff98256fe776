-- The command that the program's arguments name. Source: new.
use Rattle.std.specs.Prelude.{ℕ, ◌+◌, ◌-◌, ◌*◌, ◌^◌, List, [], ◌∷◌, length, codes, Option, Some, None, nat_lt, ◌&&◌, if◌then◌else◌}
use Rattle.std.specs.Char.{is_ascii_digit}
use Rattle.std.specs.List.{list_all}
use Rattle.std.specs.Str.{bytes_eq}
use Rattle.p3_util_run.specs.declared.words.Command.{Command}
use Rattle.p3_util_run.specs.declared.words.Command.TheVariants.{Revbits, Revrows, Transpose}

-- the number that decimal digits stand for
abbrev pub decimal_value : List ℕ → ℕ
decimal_value [] = 0
decimal_value (digit ∷ rest) = (digit - 48) * 10 ^ length rest + decimal_value rest

-- a side of a matrix, or the width of a row: one or more decimal digits, whose value is below `2 ^ 64`
abbrev pub side_of : List ℕ → Option ℕ
side_of word = if nat_lt 0 (length word) && list_all is_ascii_digit word && nat_lt (decimal_value word) (2 ^ 64) then Some (decimal_value word) else None

-- a matrix of two sides
abbrev pub transpose_of : Option ℕ → Option ℕ → Option Command
transpose_of (Some width) (Some height) = Some (Transpose width height)
transpose_of (Some width) None = None
transpose_of None height = None

-- rows of a width
abbrev pub revrows_of : Option ℕ → Option Command
revrows_of (Some width) = Some (Revrows width)
revrows_of None = None

-- `command_of words` is the command that the program's arguments name: `revbits` alone, `revrows`
-- and a width, or `transpose` and two sides, the width first. Each number has one or more digits
-- and is below `2 ^ 64`. If the arguments name no command, it is `None`
abbrev pub command_of : List (List ℕ) → Option Command
command_of [] = None
command_of (name ∷ []) = if bytes_eq name (codes "revbits") then Some Revbits else None
command_of (name ∷ width ∷ []) = if bytes_eq name (codes "revrows") then revrows_of (side_of width) else None
command_of (name ∷ width ∷ height ∷ []) = if bytes_eq name (codes "transpose") then transpose_of (side_of width) (side_of height) else None
command_of (name ∷ width ∷ height ∷ more ∷ rest) = None

-- Lists of numbers as JSON, defined by how `serde_json` reads and writes them. Source: new.
use Rattle.std.specs.Prelude.{ℕ, ◌≡◌, List, [], ◌∷◌, ◌++◌, map, Some, IsUtf8}
use Rattle.serde_json.specs.Data.{Data, number, array, unsigned}
use Rattle.serde_json.specs.Read.{read}
use Rattle.serde_json.specs.View.{items_of}
use Rattle.serde_json.specs.Written.{compact_text}

-- a number without a sign
abbrev pub number_of : ℕ → Data
number_of x = number (unsigned x)

-- the array of these numbers
abbrev pub array_of : List ℕ → Data
array_of xs = array (items_of (map number_of xs))

-- the bytes are a JSON array of these numbers
abbrev pub IsArrayOf : List ℕ → List ℕ → Type 0
IsArrayOf bytes xs = IsUtf8 bytes × (read bytes ≡ Some (array_of xs))

-- the compact text of the array of these numbers, followed by a line feed
abbrev pub line_of : List ℕ → List ℕ
line_of xs = compact_text (array_of xs) ++ 10 ∷ []

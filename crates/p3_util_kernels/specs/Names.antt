-- Short names of types. Source: the documentation and the code of `pretty_name` of p3-util 0.8.0.
use Rattle.std.specs.Prelude.{ℕ, Bool, ◌==◌, ◌&&◌, ◌||◌, if◌then◌else◌, List, [], ◌∷◌}
use Rattle.std.specs.List.{flat_map}

-- a mark after which a name is cut: `<`, `>` or `,`
abbrev pub is_mark : ℕ → Bool
is_mark b = b == 60 || b == 62 || b == 44

-- the list of pieces with b in front of the first one
unfoldable pub in_front : ℕ → List (List ℕ) → List (List ℕ)
in_front b [] = (b ∷ []) ∷ []
in_front b (piece ∷ rest) = (b ∷ piece) ∷ rest

-- the pieces of a name that is cut after each mark
unfoldable pub name_pieces : List ℕ → List (List ℕ)
name_pieces [] = [] ∷ []
name_pieces (b ∷ t) = if is_mark b then (b ∷ []) ∷ name_pieces t else in_front b (name_pieces t)

-- the part after the last `::` of the text, or `whole` if there is none. The search for `::` goes from left to right
unfoldable pub after_colons : (whole text : List ℕ) → List ℕ
after_colons whole [] = whole
after_colons whole (b ∷ []) = whole
after_colons whole (b ∷ c ∷ t) = if b == 58 && c == 58 then after_colons t t else after_colons whole (c ∷ t)

-- the part after the last `::` of the text, or all of the text if there is none
abbrev pub last_part : List ℕ → List ℕ
last_part t = after_colons t t

-- The text t is cut into pieces after each `<`, `>` and `,`. Of each piece only the part after its
-- last `::` is kept, and a piece without `::` is kept whole. What is kept is joined in order. The
-- search for `::` goes from left to right, so `a:::b` gives `:b`
unfoldable pub short_name : List ℕ → List ℕ
short_name t = flat_map last_part (name_pieces t)

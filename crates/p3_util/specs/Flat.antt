-- A list of rows, seen as one list.
-- Source: the documentation of `as_base_slice` and `flatten_to_base` of p3-util 0.8.0.
use Rattle.std.specs.Prelude.{ℕ, ◌≡◌, ◌*◌, ◌/◌, ◌%◌, ◌^◌, ◌<◌, if◌then◌else◌, nat_lt, List, [], length, slice_get, slice_index_or}
use Rattle.std.specs.List.{flat_map}

-- the items of the rows as one list, row after row
abbrev pub flat : {A : Type 0} → List (List A) → List A
flat rows = flat_map (λ row. row) rows

-- `flat rows` if a `usize` can count its items, and otherwise the empty list
abbrev pub countable_items : {A : Type 0} → List (List A) → List A
countable_items rows = if nat_lt (length (flat rows)) (2 ^ 64) then flat rows else []

-- `items` has the items of the rows in order, for rows of n items each: item i is item `i % n` of row `i / n`
pub record IsFlat {A : Type 0} (n : ℕ) (rows : List (List A)) (items : List A) : Type 0 where
  pub len : length items ≡ length rows * n
  pub places : (i : ℕ) → i < length items → slice_get items i ≡ slice_get (slice_index_or rows (i / n) []) (i % n)

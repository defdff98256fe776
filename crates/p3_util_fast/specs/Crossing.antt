-- Rows that a reversal exchanges. These definitions serve private contracts: those of the kernels in
-- `src/reverse/rows.rt`.
--
-- There are `2 ^ (half + c)` rows of `row_width` items, where c is `half` or `half + 1`. As `src/reverse/rows.rt`
-- explains, the index of a row has three parts: `half` high binary digits, whose reverse is x; then `c - half` digits
-- `middle`; and then `half` low digits y. The row is exchanged with the row for which x and y are swapped. Source: new.
use Rattle.std.specs.Prelude.{ℕ, ◌≡◌, ◌+◌, ◌-◌, ◌*◌, ◌^◌, ◌<◌, List, length}
use Rattle.p3_util_kernels.specs.Digits.{rev}

-- the index of the row with these three parts: x reversed, `middle` and y
abbrev pub row_of : (half c middle x y : ℕ) → ℕ
row_of half c middle x y = rev half x * 2 ^ c + (middle * 2 ^ half + y)

-- m, x and y are the parts of the index of a row, and t is the index of an item in the row
pub record IsRowItem (half c row_width m t x y : ℕ) : Type 0 where
  pub middle : m < 2 ^ (c - half)
  pub item : t < row_width
  pub high : x < 2 ^ half
  pub low : y < 2 ^ half

-- the list has `2 ^ digits` rows of `row_width` items, its length fits in a usize, and `row_width` is at least 1
pub record HoldsRows {A : Type 0} (row_width digits : ℕ) (items : List A) : Type 0 where
  pub wide : 0 < row_width
  pub few : digits < 64
  pub rows : length items ≡ row_width * 2 ^ digits
  pub len_fits : length items < 2 ^ 64

-- How many swaps a bit reversal makes, as closed forms. Source: a closed form.
use Rattle.std.specs.Prelude.{ℕ, ◌+◌, ◌-◌, ◌*◌, ◌/◌, ◌^◌, nat_le, if◌then◌else◌}
use Rattle.p3_util_kernels.specs.Logarithms.{clog}

-- the number of pairs of different k-bit numbers that are each other's reverse. Of the `2 ^ k` numbers,
-- `2 ^ ceil(k / 2)` are their own reverse, so there are `(2 ^ k - 2 ^ ceil(k / 2)) / 2` pairs
abbrev pub short_swaps : ℕ → ℕ
short_swaps k = (2 ^ k - 2 ^ ((k + 1) / 2)) / 2

-- the number of swaps for reversing `items` items in rows of `row_width` items. Each pair of rows
-- takes `row_width` swaps, so this is `row_width * short_swaps (clog (items / row_width))`
abbrev pub row_swaps : (items row_width : ℕ) → ℕ
row_swaps items row_width = row_width * short_swaps (clog (items / row_width))

-- the number of swaps for transposing a square of `side` rows, one for each pair of places that
-- mirror each other across the diagonal: `side * (side - 1) / 2`
abbrev pub square_swaps : ℕ → ℕ
square_swaps side = side * (side - 1) / 2

-- the number of swaps for reversing `2 ^ k` items on the long path. It reverses the order of
-- chunks, transposes squares, and reverses the order of chunks again. With `h = k / 2` and
-- `c = k - h` this takes `2 * short_swaps h * 2 ^ c + 2 ^ (c - h) * square_swaps (2 ^ h)` swaps
abbrev pub long_swaps : ℕ → ℕ
long_swaps k = 2 * (short_swaps (k / 2) * 2 ^ (k - k / 2)) + 2 ^ (k - k / 2 - k / 2) * square_swaps (2 ^ (k / 2))

-- the number of swaps for reversing `items` items, where `items` is zero or a power of two:
-- `short_swaps (clog items)` up to 8192 items, and `long_swaps (clog items)` beyond
abbrev pub reversal_swaps : ℕ → ℕ
reversal_swaps items = if nat_le items 8192 then short_swaps (clog items) else long_swaps (clog items)

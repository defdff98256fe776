-- Consecutive numbers cut into parts. These definitions serve private contracts: those of
-- `src/parts.rt` and of the files below it. Source: new.
use Rattle.std.specs.Prelude.{ℕ, Bool, ◌≡◌, ◌+◌, ◌-◌, ◌*◌, ◌/◌, ◌<◌, ◌≤◌, max, min, nat_le, if◌then◌else◌}
use Rattle.std.specs.Int.{div_ceil}
use Rattle.p3_util_kernels.specs.declared.transpose.region.Region.{Region}

-- The numbers below `len` are cut into `count` parts. Part k has the numbers from `start k` up to, but not including,
-- `start (k + 1)`. The first part begins at 0, the last one ends at `len`, and none is empty.
pub record FollowEachOther (count len : ℕ) (start : ℕ → ℕ) : Type 0 where
  pub first : start 0 ≡ 0
  pub last : start count ≡ len
  pub rising : (k : ℕ) → k < count → start k < start (k + 1)

-- the number of parts when the numbers below `len` are cut into parts of `part_len` numbers. The
-- last part may have fewer
abbrev pub parts_in : (len part_len : ℕ) → ℕ
parts_in len part_len = div_ceil len part_len

-- Parts of `part_len` numbers are no longer than necessary. Take any positive multiple L of `unit`.
-- If parts of L numbers cut the numbers below `len` into at most `parts` parts, then L is at least
-- `part_len`. If `parts` is 0, it counts as 1.
abbrev pub IsLeastPartLen : (parts unit len part_len : ℕ) → Type 0
IsLeastPartLen parts unit len part_len = (units : ℕ) → 0 < units → parts_in len (units * unit) ≤ max parts 1 → part_len ≤ units * unit

-- where part k begins when the numbers below `len` are cut into parts of `part_len` numbers: at
-- `k * part_len`, or at `len` if that is less
abbrev pub start_of : (len part_len k : ℕ) → ℕ
start_of len part_len k = min (k * part_len) len

-- the region of part k when a matrix of `height` rows of `width` items is cut. If `by_rows` is
-- true, its `len` rows are cut into parts of `part_len` rows, and the region has all columns.
-- Otherwise its `len` columns are cut in the same way, and the region has all rows
abbrev pub part_of_matrix : (width height : ℕ) (by_rows : Bool) (len part_len k : ℕ) → Region
part_of_matrix width height by_rows len part_len k =
    if by_rows then record { row_start = start_of len part_len k; row_end = start_of len part_len (k + 1); col_start = 0; col_end = width }
    else record { row_start = 0; row_end = height; col_start = start_of len part_len k; col_end = start_of len part_len (k + 1) }

-- the number of pairs of n parts, if each part makes a pair with itself and with each later part: `n * (n + 1) / 2`
abbrev pub pairs_of : ℕ → ℕ
pairs_of n = n * (n + 1) / 2

-- The number of the pair of parts i and j of n parts, for i ≤ j. Let the parts be numbered in a circle, so that part 0
-- follows part n - 1. If part j is s steps after part i, part i is n - s steps after part j. The pair is called (i, s)
-- if 2 s ≤ n, and (j, n - s) otherwise. The number of the pair (p, s) is s n + p less than that of the last pair. So
-- the pairs of a part with itself, which are called (p, 0), have the greatest numbers.
abbrev pub number_of_pair : (n i j : ℕ) → ℕ
number_of_pair n i j = pairs_of n - 1 - (if nat_le (2 * (j - i)) n then (j - i) * n + i else (n - (j - i)) * n + j)

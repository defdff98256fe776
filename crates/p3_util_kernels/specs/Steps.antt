-- How counts add up: a count stops at the largest u128. Source: new.
use Rattle.std.specs.Prelude.{ℕ, ◌+◌, ◌-◌, ◌^◌, min}

-- the count c after s more steps. A count stops at the largest u128, so this is `min (2 ^ 128 - 1) (c + s)`
abbrev pub counted : (c s : ℕ) → ℕ
counted c s = min (2 ^ 128 - 1) (c + s)

-- How deep the splits of a transpose nest, as closed forms of the region's sides. Source: a closed form.
use Rattle.std.specs.Prelude.{ℕ, ◌+◌, ◌-◌, ◌&&◌, nat_lt, if◌then◌else◌}
use Rattle.p3_util_kernels.specs.Logarithms.{clog}

-- how often a region of r rows and c columns can be halved at its longer side until both sides are at most 128, which
-- is 2 ^ 7: `(clog r - 7) + (clog c - 7)`, where a negative difference counts as 0
abbrev pub lev : (r c : ℕ) → ℕ
lev r c = (clog r - 7) + (clog c - 7)

-- how deep the splits of a region of r rows and c columns nest: `lev r c`, or 0 if one side is at
-- most 2 from the start, because such a region is not split
abbrev pub nest : (r c : ℕ) → ℕ
nest r c = if nat_lt 2 r && nat_lt 2 c then lev r c else 0

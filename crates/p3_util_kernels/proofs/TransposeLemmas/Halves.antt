-- The halves of a region, and how deep their splits nest.
use Rattle.std.proofs.Common.{◌≡◌, ℕ, ◌+◌, ◌-◌, ◌*◌, ◌/◌, ◌^◌, ◌<◌, ◌≤◌, mul_comm, arith}
use Rattle.std.proofs.lemmas.Bool.Decides.{nat_tests}
use Rattle.std.proofs.lemmas.Nat.{mul-le}
use Rattle.p3_util_kernels.specs.declared.transpose.region.Region.{Region}
use Rattle.p3_util_kernels.specs.Halves.{AreHalves}
use Rattle.p3_util_kernels.specs.Logarithms.{clog}
use Rattle.p3_util_kernels.specs.Levels.{lev}
use Rattle.p3_util_kernels.specs.Region.{LiesInMatrix, cols_of, rows_of}
use Rattle.p3_util_kernels.proofs.BitsLemmas.Logarithms.{clog-above, clog-half, clog-le}
use Rattle.p3_util_kernels.proofs.TransposeLemmas.Levels.{lev_le, nest_le}
use Rattle.p3_util_kernels.proofs.TransposeLemmas.Region.{IsCut-rows, IsCut-cols}

-- the splits of a region nest at most 57 levels deep if the places of its matrix fit in a usize
pub region_levels : (region : Region) (width height : ℕ) → LiesInMatrix region width height → width < 2 ^ 64 → height < 2 ^ 64 → width * height < 2 ^ 64
    → lev (rows_of region) (cols_of region) ≤ 57
region_levels region width height lies wide tall fits =
    let items = mul-le (rows_of region) (cols_of region) height width (omega (arith, lies)) (omega (arith, lies)) in
    lev_le (rows_of region) (cols_of region) (omega (arith, lies)) (omega (arith, lies)) (omega (arith, items, mul_comm width height))

-- A side above 128 in two parts: its half, rounded down, and the rest of it.
clog-cut_in_half : (side half rest : ℕ) → 128 < side → half ≡ side / 2 → rest ≡ side - side / 2
    → (7 < clog side) × (clog rest + 1 ≡ clog side) × (clog half ≤ clog rest)
clog-cut_in_half side half rest h e f = (clog-above side 7 h, rw f (clog-half side (omega arith)), clog-le half rest (omega arith))

pub AreHalves-rows : (whole : Region) → 2 < cols_of whole → 128 < rows_of whole → whole.row_start ≤ whole.row_end
    → let middle = whole.row_start + rows_of whole / 2 in AreHalves whole (record whole { row_end = middle }) (record whole { row_start = middle })
AreHalves-rows whole deep high order =
    let middle = whole.row_start + rows_of whole / 2 in
    let sides = clog-cut_in_half (rows_of whole) (middle - whole.row_start) (whole.row_end - middle) high (omega arith) (omega arith) in
    grind (arith, nat_tests, sides, IsCut-rows whole middle (omega arith) (omega arith))

pub AreHalves-cols : (whole : Region) → 2 < rows_of whole → 128 < cols_of whole → whole.col_start ≤ whole.col_end
    → let middle = whole.col_start + cols_of whole / 2 in AreHalves whole (record whole { col_end = middle }) (record whole { col_start = middle })
AreHalves-cols whole deep wide order =
    let middle = whole.col_start + cols_of whole / 2 in
    let sides = clog-cut_in_half (cols_of whole) (middle - whole.col_start) (whole.col_end - middle) wide (omega arith) (omega arith) in
    grind (arith, nat_tests, sides, IsCut-cols whole middle (omega arith) (omega arith))

-- a region halved by its rows, and one halved by its columns
pub ruleset halved = (AreHalves-rows, AreHalves-cols)

-- how deep the splits of a region nest is at most 57
pub ruleset enough_levels = (nest_le, region_levels)

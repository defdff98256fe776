-- A length that is cut into parts: where each part begins, the regions of a matrix that the cut
-- makes, and the numbers of pairs of parts.
use Rattle.std.proofs.Common.{◌≡◌, ℕ, suc, ◌+◌, ◌-◌, ◌*◌, ◌/◌, ◌%◌, ◌^◌, ◌<◌, ◌≤◌, Bool, true, false, if◌then◌else◌, min, max, nat_le, refl, ap, ◌∙◌, inl, inr, arith}
use Rattle.std.specs.Int.{div_ceil}
use Rattle.std.proofs.lemmas.Bool.{cases_lt, false_from_ne_true, le-leb, leb-true}
use Rattle.std.proofs.lemmas.Bool.Decides.{nat_tests}
use Rattle.std.proofs.lemmas.Grind.{div_ceil_times}
use Rattle.std.proofs.lemmas.Nat.{div-add-mod', mod_below, same_from_place}
use Rattle.std.proofs.Math.Nat.{lt_of_mul-lt-mul_right, mod-eq_of_lt, mod-eq-sub-mod, mul-le-mul, mul-le-mul_left, mul-le-mul_right, mul-mod_left, pos_of_ne-zero}
use Rattle.p3_util_dispatch.specs.Parts.{number_of_pair, pairs_of, part_of_matrix, parts_in, start_of}
use Rattle.p3_util_kernels.specs.Region.{LiesInMatrix}

-- a part begins below the length, and there are no more parts than the length has numbers
pub start-below : (len part_len : ℕ) → 0 < part_len → (k : ℕ) → k < parts_in len part_len → k * part_len < len
start-below len part_len some k below =
    let next : suc k * part_len ≤ parts_in len part_len * part_len = mul-le-mul_right part_len below in
    omega (arith, (div_ceil_times len part_len some).1, next)

-- if there is a part, the length is not 0
pub side-cut : (len part_len : ℕ) → 0 < part_len → (k : ℕ) → k < parts_in len part_len → 0 < len
side-cut len part_len some k below = omega (arith, start-below len part_len some k below)

pub parts-within : (len part_len : ℕ) → 0 < part_len → parts_in len part_len ≤ len
parts-within len part_len some =
    let whole : len / part_len * part_len + len % part_len ≡ len = div-add-mod' len part_len in
    let each : len / part_len * 1 ≤ len / part_len * part_len = mul-le-mul_left (len / part_len) some in
    omega arith

-- a quotient that is rounded up is the least number that is enough
div_ceil-least : (a b n : ℕ) → 0 < b → a ≤ n * b → div_ceil a b ≤ n
div_ceil-least a b n some enough =
    let next : div_ceil a b * b < (n + 1) * b = omega (arith, (div_ceil_times a b some).1, enough) in
    let less : div_ceil a b < n + 1 = lt_of_mul-lt-mul_right b next in
    omega arith

module _ (len unit units part_len : ℕ) (some : 0 < unit) (most : 0 < units) (fits : len < 2 ^ 64) (part_len_is : part_len ≡ min (units * unit) (2 ^ 64 - 1)) where
  step-some : 0 < part_len
  step-some = let positive : 1 * 1 ≤ units * unit = mul-le-mul most some in omega (arith, positive)

  -- if `part_len` is a multiple of `unit` or at least the length, all parts begin at multiples of `unit`
  pub start-aligned : (k : ℕ) → k < parts_in len part_len → start_of len part_len k % unit ≡ 0
  start-aligned k below =
      let inside : k * part_len < len = start-below len part_len step-some k below in
      elim (cases_lt (units * unit) (2 ^ 64)) [
        | inl small ↦
            let whole : part_len ≡ units * unit = omega arith in
            let start : start_of len part_len k ≡ k * units * unit = omega (arith, ap (λ s. k * s) whole) in
            rw start (mul-mod_left (k * units) unit)
        | inr large ↦
            let alone : k * part_len < 1 * part_len = omega arith in
            let before : k < 1 = lt_of_mul-lt-mul_right part_len alone in
            let first : k ≡ 0 = omega arith in
            let start : start_of len part_len k ≡ 0 * unit = omega (arith, ap (λ j. j * part_len) first) in
            rw start (mul-mod_left 0 unit)
      ]

  -- there are at most as many parts as the caller asked for
  pub parts-few : (parts : ℕ) → 0 < parts → units ≡ max (div_ceil (div_ceil len unit) parts) 1 → parts_in len part_len ≤ parts
  parts-few parts asked units_are =
      let a : len ≤ div_ceil len unit * unit = (div_ceil_times len unit some).0 in
      let b : div_ceil len unit ≤ div_ceil (div_ceil len unit) parts * parts = (div_ceil_times (div_ceil len unit) parts asked).0 in
      let c : div_ceil (div_ceil len unit) parts * parts ≤ units * parts = mul-le-mul_right parts (omega arith) in
      let d : div_ceil len unit * unit ≤ units * parts * unit = mul-le-mul_right unit (omega arith) in
      let enough : len ≤ parts * part_len =
      elim (cases_lt (units * unit) (2 ^ 64)) [
        | inl small ↦ let whole : part_len ≡ units * unit = omega arith in rw whole (omega arith)
        | inr large ↦ let one : 1 * part_len ≤ parts * part_len = mul-le-mul_right part_len asked in omega arith
      ] in
      div_ceil-least len part_len parts step-some enough

  -- a `part_len` of fewer whole units would make too many parts
  pub parts-least : (parts : ℕ) → 0 < parts → units ≡ max (div_ceil (div_ceil len unit) parts) 1
      → (n : ℕ) → 0 < n → parts_in len (n * unit) ≤ parts → part_len ≤ n * unit
  parts-least parts asked units_are n whole few =
      let positive : 1 * 1 ≤ n * unit = mul-le-mul whole some in
      let a : len ≤ parts_in len (n * unit) * (n * unit) = (div_ceil_times len (n * unit) (omega arith)).0 in
      let b : parts_in len (n * unit) * (n * unit) ≤ parts * (n * unit) = mul-le-mul_right (n * unit) few in
      let c : div_ceil len unit ≤ n * parts = div_ceil-least len unit (n * parts) some (omega (arith, a, b)) in
      let d : div_ceil (div_ceil len unit) parts ≤ n = div_ceil-least (div_ceil len unit) parts n asked c in
      let e : units * unit ≤ n * unit = mul-le-mul_right unit (omega (arith, d, units_are)) in
      omega (arith, e)

-- a part ends before a later part begins, or where it begins
pub start-rising : (len part_len k l : ℕ) → k < l → start_of len part_len (k + 1) ≤ start_of len part_len l
start-rising len part_len k l less = let rows : suc k * part_len ≤ l * part_len = mul-le-mul_right part_len less in omega (arith, rows)

-- a number is in only one part
pub part-same : (len part_len k l v : ℕ) → start_of len part_len k ≤ v → v < start_of len part_len (k + 1) → start_of len part_len l ≤ v → v < start_of len part_len (l + 1) → k ≡ l
part-same len part_len k l v k_from k_to l_from l_to = grind (arith, start-rising len part_len k l, start-rising len part_len l k)

-- each number below the length is in a part
pub number-covered : (len part_len v : ℕ) → 0 < part_len → v < len
    → (v / part_len < parts_in len part_len) × (start_of len part_len (v / part_len) ≤ v) × (v < start_of len part_len (v / part_len + 1))
number-covered len part_len v some below =
    let whole : v / part_len * part_len + v % part_len ≡ v = div-add-mod' v part_len in
    let low : v % part_len < part_len = mod_below v part_len some in
    let inside : v / part_len * part_len < parts_in len part_len * part_len = omega (arith, (div_ceil_times len part_len some).0, whole) in
    (lt_of_mul-lt-mul_right part_len inside, omega arith, omega arith)

-- a part of a matrix lies in it
pub part-inside : (width height : ℕ) (by_rows : Bool) (len part_len k : ℕ) → len ≡ (if by_rows then height else width)
    → LiesInMatrix (part_of_matrix width height by_rows len part_len k) width height
part-inside width height true len part_len k side =
    record { rows_in_order = omega arith; rows_inside = omega arith; cols_in_order = omega arith; cols_inside = omega arith }
part-inside width height false len part_len k side =
    record { rows_in_order = omega arith; rows_inside = omega arith; cols_in_order = omega arith; cols_inside = omega arith }

-- the number of a pair, counted from the last pair
abbrev rank : (n i j : ℕ) → ℕ
rank n i j = if nat_le (2 * (j - i)) n then (j - i) * n + i else (n - (j - i)) * n + j

-- which of the two ways around the circle of parts is the shorter one
pair-near : (n i j : ℕ) → 2 * (j - i) ≤ n → rank n i j ≡ (j - i) * n + i
pair-near n i j near = rw (le-leb (2 * (j - i)) n near) refl

pair-far : (n i j : ℕ) → n < 2 * (j - i) → rank n i j ≡ (n - (j - i)) * n + j
pair-far n i j far =
    let not_near : nat_le (2 * (j - i)) n ≡ false = false_from_ne_true (nat_le (2 * (j - i)) n) (λ near. omega (arith, far, leb-true (2 * (j - i)) n near)) in
    rw not_near refl

-- The rank of a pair is below the number of pairs. It is made of the length of the shorter way and of
-- the part where that way begins.
module _ (n i j : ℕ) (in_order : i ≤ j) (below : j < n) where
  rank-below : rank n i j < pairs_of n
  rank-below =
      let times : (m : ℕ) → m ≤ n → m * n ≤ n * n = λ m most. mul-le-mul_right n most in
      grind (arith, nat_tests, in_order, below, times (suc (2 * (n - (j - i)))), times (suc (2 * (j - i))), times (2 * (j - i)))

  pub pair-below : number_of_pair n i j < pairs_of n
  pair-below = omega (arith, rank-below)

rank-alone : (n i j k l : ℕ) → i ≤ j → j < n → k ≤ l → l < n → rank n i j ≡ rank n k l → (i ≡ k) × (j ≡ l)
rank-alone n i j k l ij jn kl ln same =
    grind (
      arith,
      nat_tests,
      same,
      same_from_place (j - i) i (l - k) k n,
      same_from_place (j - i) i (n - (l - k)) l n,
      same_from_place (n - (j - i)) j (l - k) k n,
      same_from_place (n - (j - i)) j (n - (l - k)) l n,
    )

-- no two pairs have the same number
pub pair-alone : (n i j k l : ℕ) → i ≤ j → j < n → k ≤ l → l < n → number_of_pair n i j ≡ number_of_pair n k l → (i ≡ k) × (j ≡ l)
pair-alone n i j k l ij jn kl ln same =
    rank-alone n i j k l ij jn kl ln (omega (arith, same, rank-below n i j ij jn, rank-below n k l kl ln))

-- a pair that is computed from a rank has that rank
rank-of : (n number first last : ℕ) → number < pairs_of n → first ≡ min (number % n) ((number % n + number / n) % n)
    → last ≡ max (number % n) ((number % n + number / n) % n) → rank n first last ≡ number
rank-of n number first last below first_is last_is =
    let some : 0 < n = pos_of_ne-zero (λ none. omega (arith, below, ap pairs_of none)) in
    let distance : ℕ = number / n in
    let start : ℕ = number % n in
    let whole : distance * n + start ≡ number = div-add-mod' number n in
    let low : start < n = mod_below number n some in
    let twice : 2 * distance * n < (n + 1) * n = omega (arith, below, whole) in
    let near : 2 * distance < n + 1 = lt_of_mul-lt-mul_right n twice in
    elim (cases_lt (start + distance) n) [
      | inl inner ↦
          let end : (start + distance) % n ≡ start + distance = mod-eq_of_lt inner in
          let i : first ≡ start = omega (arith, first_is, end) in
          let j : last ≡ start + distance = omega (arith, last_is, end) in
          let way : start + distance - start ≡ distance = omega arith in
          rw (i, j) (pair-near n start (start + distance) (omega arith) ∙ rw way whole)
      | inr around ↦
          let end : (start + distance) % n ≡ start + distance - n = mod-eq-sub-mod around ∙ mod-eq_of_lt (omega arith) in
          let i : first ≡ start + distance - n = omega (arith, first_is, end, near) in
          let j : last ≡ start = omega (arith, last_is, end, near) in
          let way : n - (start - (start + distance - n)) ≡ distance = omega arith in
          let half : 2 * distance ≡ n → ⊥ = λ e. omega (arith, below, whole, around, ap (λ m. m * n) e, e) in
          rw (i, j) (pair-far n (start + distance - n) start (omega (arith, half)) ∙ rw way whole)
    ]

-- a pair that is computed from a number has that number
pub pair-number : (n number back first last : ℕ) → number < pairs_of n → back ≡ pairs_of n - 1 - number → first ≡ min (back % n) ((back % n + back / n) % n)
    → last ≡ max (back % n) ((back % n + back / n) % n) → number_of_pair n first last ≡ number
pair-number n number back first last below back_is first_is last_is =
    omega (arith, below, back_is, rank-of n back first last (omega arith) first_is last_is)

-- Rows of bytes, for `src/parts/reversal.rt`.
use Rattle.std.proofs.Common.{ℕ, ◌≡◌, ◌∙◌, ◌*◌, ◌/◌, ◌%◌, ◌^◌, ◌<◌, ap, inl, refl, sym, div-add-mod', arith}
use Rattle.std.proofs.Math.Nat.{le-mul_of_pos_right, mul-div_cancel_left, mul_assoc, mul_comm, mul_right_comm, pos_of_ne-zero}
use Rattle.p3_util_kernels.specs.Reversal.{FitsRows}

-- a number is its quotient by a divisor, times the divisor
pub places_whole : (n k : ℕ) → n % k ≡ 0 → n / k * k ≡ n
places_whole n k whole = omega (arith, div-add-mod' n k, whole)

rows_product : (len width rows size : ℕ) → len ≡ width * rows → len * size ≡ width * size * rows
rows_product len width rows size e = ap (λ n. n * size) e ∙ mul_right_comm width rows size

-- the bytes of a row are not more than those of the list
pub row_fits : (len width size : ℕ) → FitsRows len width → 0 < len * size → len * size < 2 ^ 64 → width * size < 2 ^ 64
row_fits len width size (rows, _, e) some fits =
    let product = rows_product len width rows size e in
    let one : 0 < rows = pos_of_ne-zero (λ none. omega (arith, some, product ∙ ap (λ r. width * size * r) none)) in
    omega (arith, fits, product, le-mul_of_pos_right (width * size) one)

rows_in_places : (len width size bytes rows : ℕ) → len ≡ width * rows → width * size % bytes ≡ 0 → len * size ≡ bytes * (width * size / bytes * rows)
rows_in_places len width size bytes rows e whole =
    let row : width * size ≡ bytes * (width * size / bytes) = sym (places_whole (width * size) bytes whole) ∙ mul_comm (width * size / bytes) bytes in
    rows_product len width rows size e ∙ ap (λ n. n * rows) row ∙ mul_assoc bytes (width * size / bytes) rows

-- rows of whole places fit in the list of these places
pub rows_of_places : (len width size bytes : ℕ) → FitsRows len width → 0 < bytes → width * size % bytes ≡ 0 → FitsRows (len * size / bytes) (width * size / bytes)
rows_of_places len width size bytes (rows, power, e) some whole =
    (rows, power, ap (λ n. n / bytes) (rows_in_places len width size bytes rows e whole) ∙ mul-div_cancel_left (width * size / bytes * rows) some)

-- and these places have all bytes of the list
pub list_whole : (len width size bytes : ℕ) → FitsRows len width → 0 < bytes → width * size % bytes ≡ 0 → len * size / bytes * bytes ≡ len * size
list_whole len width size bytes (rows, power, e) some whole =
    let all = rows_in_places len width size bytes rows e whole in
    ap (λ n. n / bytes * bytes) all ∙ ap (λ n. n * bytes) (mul-div_cancel_left (width * size / bytes * rows) some)
    ∙ mul_comm (width * size / bytes * rows) bytes ∙ sym all

-- a list without bytes has no rows
pub no_rows : FitsRows 0 0
no_rows = (0, inl refl, refl)

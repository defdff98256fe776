-- A list has only one transpose, and transposing twice gives the list back.
use Rattle.std.proofs.Common.{◌≡◌, ℕ, ◌+◌, ◌*◌, ◌/◌, ◌%◌, ◌<◌, List, length, slice_get, sym, ap, ◌∙◌, mul_comm, pos_of_ne-zero, arith}
use Rattle.std.proofs.lemmas.Nat.{div-add-mod', div_below, mod_below}
use Rattle.p3_util_kernels.specs.Transpose.{IsTranspose}
use Rattle.p3_util_kernels.proofs.PlacesLemmas.SameList.{same_places}

-- a number below a product has a row and a column, and no other number has the same row and column
pub row_and_column : (i rows cols : ℕ) → i < rows * cols → (i / cols < rows) × (i % cols < cols)
row_and_column i rows cols h =
    let some : 0 < cols = pos_of_ne-zero (λ none. omega (arith, h, ap (λ n. rows * n) none)) in
    (div_below i cols rows some h, mod_below i cols some)

pub same_number : (i j cols : ℕ) → i / cols ≡ j / cols → i % cols ≡ j % cols → i ≡ j
same_number i j cols row column = sym (div-add-mod' i cols) ∙ rw (row, column) (div-add-mod' j cols)

-- a property of each row and column is a property of each place
pub each_place : (P : ℕ → Type 0) (rows cols p : ℕ) → p < rows * cols → ((r c : ℕ) → r < rows → c < cols → P (r * cols + c)) → P p
each_place P rows cols p h all = let at = row_and_column p rows cols h in rw div-add-mod' at (all (p / cols) (p % cols) at.0 at.1)

pub IsTranspose-unique : {A : Type 0} (width height : ℕ) (old a b : List A) → IsTranspose width height old a → IsTranspose width height old b → a ≡ b
IsTranspose-unique width height old a b at bt =
    same_places a b (at.same_length ∙ sym bt.same_length)
    (λ i h. each_place (λ p. slice_get a p ≡ slice_get b p) width height i (rw at.same_length at h)
    (λ x y hx hy. at.places x y hx hy ∙ sym (bt.places x y hx hy)))

pub transpose_turned : {A : Type 0} (width height : ℕ) (old new : List A) → length old ≡ width * height → IsTranspose width height old new
    → IsTranspose height width new old
transpose_turned width height old new fits there = record {
  same_length = fits ∙ mul_comm width height;
  places = λ y x hy hx. sym (there.places x y hx hy);
}

-- Reversal of rows and of items: that it is its own inverse, and that a list has only one reversal.
use Rattle.std.proofs.Common.{◌≡◌, ℕ, ◌+◌, ◌*◌, ◌^◌, ◌<◌, List, length, slice_get, inl, inr, refl, sym, ap, ◌∙◌, mul-pos, pow_pos, arith}
use Rattle.p3_util_kernels.specs.Digits.{rev}
use Rattle.p3_util_kernels.specs.Reversal.{FitsRows, IsReversal, IsRowReversal, IsZeroOrPowerOfTwo}
use Rattle.p3_util_kernels.proofs.BitsLemmas.Digits.{rev-lt, rev-rev-below}
use Rattle.p3_util_kernels.proofs.ReverseLemmas.Lengths.{FitsRows-one}
use Rattle.p3_util_kernels.proofs.TransposeLemmas.Matrix.{each_place}
use Rattle.p3_util_kernels.proofs.BitsLemmas.Powers.{exponent-same}
use Rattle.p3_util_kernels.proofs.PlacesLemmas.SameList.{same_places}

-- a list of 2 ^ k items is reversed if each place has the item that was at the reverse of the place
pub IsReversal-from_power : {A : Type 0} (k : ℕ) (old new : List A) → length old ≡ 2 ^ k → length new ≡ length old
    → ((i : ℕ) → i < length old → slice_get new i ≡ slice_get old (rev k i)) → IsReversal old new
IsReversal-from_power k old new e same at = record {
  same_length = same;
  places = λ n r j en h first.
      let power : n ≡ k = exponent-same n k (omega arith) in
      let from : r * 1 + j ≡ r = omega arith in
      let to : rev k r * 1 + j ≡ rev k r = omega arith in
      rw (power, from, to) (at r (omega arith));
}

-- place i of a reversal of 2 ^ k items
pub reversed_place : {A : Type 0} (k i : ℕ) (old new : List A) → IsReversal old new → length old ≡ 2 ^ k → i < 2 ^ k → slice_get new i ≡ slice_get old (rev k i)
reversed_place k i old new reversal e h =
    let from : i * 1 + 0 ≡ i = omega arith in
    let to : rev k i * 1 + 0 ≡ rev k i = omega arith in
    rw (from, to) at (reversal.places k i 0 (omega arith) h (omega arith))

-- a list without items is its own reversal
pub IsRowReversal-none : {A : Type 0} (row_width : ℕ) (old new : List A) → length old ≡ 0 → length new ≡ length old → IsRowReversal row_width old new
IsRowReversal-none row_width old new none same = record {
  same_length = same;
  places = λ k r j e h inside. absurd (omega (arith, none, e, mul-pos {m = row_width} {n = 2 ^ k} (omega (arith, inside)) (pow_pos k)));
}

-- reversing a list twice gives it back
pub row_reversed_back : {A : Type 0} (row_width : ℕ) (old new : List A) → IsRowReversal row_width old new → IsRowReversal row_width new old
row_reversed_back row_width old new reversal = record {
  same_length = sym reversal.same_length;
  places = λ k r j e h inside.
      let length_is : length old ≡ row_width * 2 ^ k = sym reversal.same_length ∙ e in
      sym (reversal.places k (rev k r) j length_is (rev-lt k r) inside ∙ ap (λ q. slice_get old (q * row_width + j)) (rev-rev-below k r h));
}

-- a list has only one reversal
pub IsRowReversal-unique : {A : Type 0} (row_width : ℕ) (old a b : List A) → FitsRows (length old) row_width
    → IsRowReversal row_width old a → IsRowReversal row_width old b → a ≡ b
IsRowReversal-unique row_width old a b (rows, inl none, e) at bt =
    let empty : length old ≡ 0 = e ∙ ap (λ n. row_width * n) none ∙ omega arith in
    same_places a b (at.same_length ∙ sym bt.same_length) (λ i h. absurd (omega (arith, at.same_length)))
IsRowReversal-unique row_width old a b (rows, inr (k, is), e) at bt =
    let length_is : length old ≡ row_width * 2 ^ k = rw is at e in
    same_places a b (at.same_length ∙ sym bt.same_length)
    (λ i h.
    each_place (λ p. slice_get a p ≡ slice_get b p) (2 ^ k) row_width i (omega (arith, at.same_length))
    (λ r j row within. at.places k r j length_is row within ∙ sym (bt.places k r j length_is row within)))

pub IsReversal-unique : {A : Type 0} (old a b : List A) → IsZeroOrPowerOfTwo (length old) → IsReversal old a → IsReversal old b → a ≡ b
IsReversal-unique old a b fits = IsRowReversal-unique 1 old a b ((FitsRows-one (length old) 1 refl).1 fits)

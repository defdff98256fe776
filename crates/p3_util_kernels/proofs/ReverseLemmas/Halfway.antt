-- Rows of a list on their way to bit-reversed order: the rows that belong to a row below i have changed places.
use Rattle.std.proofs.Common.{◌≡◌, ◌≢◌, ℕ, ◌+◌, ◌*◌, ◌^◌, ◌<◌, ◌≤◌, ◌⊎◌, List, length, slice_get, inl, inr, refl, sym, ap, ◌∙◌, mul-le-mul_right, arith}
use Rattle.p3_util_kernels.specs.Digits.{rev}
use Rattle.p3_util_kernels.specs.Exchanged.{RunsExchanged}
use Rattle.p3_util_kernels.specs.Reversal.{IsRowReversal}
use Rattle.p3_util_kernels.proofs.BitsLemmas.Digits.{rev-lt, rev-rev-below}
use Rattle.p3_util_kernels.proofs.ReverseLemmas.Lengths.{rows-same}

-- the rows whose index or reversed index is below i have the items of their reverse, and all others their own
pub record RowsHalfway {A : Type 0} (width k i : ℕ) (old now : List A) : Type 0 where
  pub same_length : length now ≡ length old
  pub moved : (r j : ℕ) → r < 2 ^ k → j < width → (r < i) ⊎ (rev k r < i) → slice_get now (r * width + j) ≡ slice_get old (rev k r * width + j)
  pub still : (r j : ℕ) → r < 2 ^ k → j < width → i ≤ r → i ≤ rev k r → slice_get now (r * width + j) ≡ slice_get old (r * width + j)

pub RowsHalfway-start : {A : Type 0} (width k : ℕ) (old : List A) → RowsHalfway width k 0 old old
RowsHalfway-start width k old = record {
  same_length = refl;
  moved = λ r j h hj s. absurd (elim s [ inl l ↦ omega arith | inr m ↦ omega arith ]);
  still = λ r j h hj a b. refl;
}

-- row i is its own reverse, or it was exchanged before
pub RowsHalfway-skip : {A : Type 0} (width k i : ℕ) (old now : List A) → i < 2 ^ k → rev k i ≤ i
    → RowsHalfway width k i old now → RowsHalfway width k (i + 1) old now
RowsHalfway-skip width k i old now h late at = record {
  same_length = at.same_length;
  moved = λ r j hr hj s. grind (arith, s, rev-rev-below k r hr, at.moved r j hr hj, at.still r j hr hj);
  still = λ r j hr hj a b. at.still r j hr hj (omega arith) (omega arith);
}

-- a place of another row is before or after this row
outside : (width r i t : ℕ) → r ≢ i → t < width → (r * width + t < i * width) ⊎ (i * width + width ≤ r * width + t)
outside width r i t ne h = grind (arith, mul-le-mul_right {m = r + 1} {n = i} width, mul-le-mul_right {m = i + 1} {n = r} width)

-- row i is exchanged with a later one
pub RowsHalfway-swap : {A : Type 0} (width k i p : ℕ) (old now next : List A) → i < 2 ^ k → p ≡ rev k i → i < p
    → RunsExchanged (i * width) (p * width) width now next
    → RowsHalfway width k i old now → RowsHalfway width k (i + 1) old next
RowsHalfway-swap width k i p old now next h is early swapped at =
    let back : rev k p ≡ i = ap (rev k) is ∙ rev-rev-below k i h in
    let hp : p < 2 ^ k = omega (arith, rev-lt k i) in
    let other : (r j : ℕ) → j < width → r ≢ i → r ≢ p → slice_get next (r * width + j) ≡ slice_get now (r * width + j) =
    λ r j hj ne ne'. swapped.others (r * width + j) (outside width r i j ne hj) (outside width r p j ne' hj) in
    record {
      same_length = swapped.same_length ∙ at.same_length;
      moved = λ r j hr hj s.
          grind (arith, s, is, back, rev-rev-below k r hr, swapped.first j hj, swapped.second j hj, at.moved r j hr hj, at.still p j hp hj, at.still i j h hj, other r j hj);
      still = λ r j hr hj a b. grind (arith, is, back, rev-rev-below k r hr, other r j hj, at.still r j hr hj);
    }

-- all rows came up
pub IsRowReversal-from_halfway : {A : Type 0} (width k i : ℕ) (old now : List A) → 0 < width → length old ≡ width * 2 ^ k → i ≡ 2 ^ k
    → RowsHalfway width k i old now → IsRowReversal width old now
IsRowReversal-from_halfway width k i old now wide all done at = record {
  same_length = at.same_length;
  places = λ n r j en hr hj.
      let same : n ≡ k = rows-same width n k wide (sym en ∙ all) in
      rw same (at.moved r j (rw same at hr) hj (inl (omega (arith, rw same at hr))));
}

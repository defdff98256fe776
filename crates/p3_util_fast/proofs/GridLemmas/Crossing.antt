-- Rows and the parts of their indices. If all pairs of rows are exchanged, the rows are reversed.
use Rattle.std.proofs.Common.{◌≡◌, ◌≢◌, ℕ, ◌+◌, ◌-◌, ◌*◌, ◌^◌, ◌<◌, ◌≤◌, ◌⊎◌, List, length, slice_get, sym, ap, ◌∙◌, mul-le-mul_right, arith}
use Rattle.std.proofs.lemmas.Nat.{same_from_place}
use Rattle.p3_util_fast.specs.Crossing.{IsRowItem, row_of}
use Rattle.p3_util_kernels.specs.Digits.{rev}
use Rattle.p3_util_fast.specs.Mirrored.{Mirrored}
use Rattle.p3_util_kernels.specs.Reversal.{IsRowReversal}
use Rattle.p3_util_kernels.proofs.BitsLemmas.Digits.{rev-lt, rev-rev-below, rev-around}
use Rattle.p3_util_kernels.proofs.ReverseLemmas.Lengths.{rows-same}
use Rattle.p3_util_kernels.proofs.ReverseLemmas.SideBySide.{each_part, in_row}

-- the places of two different rows do not overlap
pub runs-apart : (row_width i j : ℕ) → i ≢ j → (i * row_width + row_width ≤ j * row_width) ⊎ (j * row_width + row_width ≤ i * row_width)
runs-apart row_width i j apart = grind (arith, mul-le-mul_right {m = i + 1} {n = j} row_width, mul-le-mul_right {m = j + 1} {n = i} row_width)

-- a place that is not in a run is before it or after it
pub outside : (p i len : ℕ) → ((t : ℕ) → t < len → p ≢ i + t) → (p < i) ⊎ (i + len ≤ p)
outside p i len out = grind (arith, out (p - i))

-- the pairs in the grids of the middle parts below n are exchanged, item by item
abbrev pub AreCrossed : {A : Type 0} → (half c row_width n : ℕ) (old new : List A) → Type 0
AreCrossed half c row_width n =
    Mirrored {M = ℕ × ℕ} (λ m x y. row_of half c m.0 x y * row_width + m.1) (λ m x y. IsRowItem half c row_width m.0 m.1 x y × (m.0 < n))

module _ (half c : ℕ) (within : half ≤ c) where
  -- equal rows have equal parts
  pub row-same : (middle x y middle' x' y' : ℕ) → middle < 2 ^ (c - half) → x < 2 ^ half → y < 2 ^ half → middle' < 2 ^ (c - half) → x' < 2 ^ half → y' < 2 ^ half
      → row_of half c middle x y ≡ row_of half c middle' x' y' → (middle ≡ middle') × (x ≡ x') × (y ≡ y')
  row-same middle x y middle' x' y' hm hx hy hm' hx' hy' e =
      let outer = same_from_place (rev half x) (middle * 2 ^ half + y) (rev half x') (middle' * 2 ^ half + y') (2 ^ c) (in_row c half within middle y hm hy) (in_row c half within middle' y' hm' hy') e in
      let inner = same_from_place middle y middle' y' (2 ^ half) hy hy' outer.1 in
      (inner.0, sym (rev-rev-below half x hx) ∙ ap (rev half) outer.0 ∙ rev-rev-below half x' hx', inner.1)

  module _ (row_width : ℕ) where
    pub turned : (m : ℕ × ℕ) (x y : ℕ) → IsRowItem half c row_width m.0 m.1 x y → IsRowItem half c row_width m.0 m.1 y x
    turned m x y h = record { middle = h.middle; item = h.item; high = h.low; low = h.high }

    pub same_item : (m n : ℕ × ℕ) (x y v w : ℕ) → IsRowItem half c row_width m.0 m.1 x y → IsRowItem half c row_width n.0 n.1 v w
        → row_of half c m.0 x y * row_width + m.1 ≡ row_of half c n.0 v w * row_width + n.1 → ((m.0 ≡ n.0) × (m.1 ≡ n.1)) × (x ≡ v) × (y ≡ w)
    same_item m n x y v w h k e =
        let rows = same_from_place (row_of half c m.0 x y) m.1 (row_of half c n.0 v w) n.1 row_width h.item k.item e in
        let same = row-same m.0 x y n.0 v w h.middle h.high h.low k.middle k.high k.low rows.0 in
        ((same.0, rows.1), same.1, same.2)

    module _ {A : Type 0} where
      -- if all pairs are exchanged, each row is the one whose index was its reverse
      pub IsRowReversal-crossed : (old new : List A) → c ≤ half + 1 → length old ≡ row_width * 2 ^ (half + c) → length new ≡ length old
          → ((m : ℕ × ℕ) (x y : ℕ) → IsRowItem half c row_width m.0 m.1 x y
          → slice_get new (row_of half c m.0 x y * row_width + m.1) ≡ slice_get old (row_of half c m.0 y x * row_width + m.1))
          → IsRowReversal row_width old new
      IsRowReversal-crossed old new few fits same_length crossed = record {
        same_length = same_length;
        places = λ k r j e h hj.
            let same : k ≡ half + c = rows-same row_width k (half + c) (omega arith) (sym e ∙ fits) in
            let at = each_part c half within (λ r. slice_get new (r * row_width + j) ≡ slice_get old (rev (half + c) r * row_width + j))
            (λ a middle y ha hm hy.
            let x = rev half a in
            let back : rev half x ≡ a = rev-rev-below half a ha in
            let parts : c - half + half ≡ c = omega arith in
            let turned = rw parts at (rev-around half (c - half) a middle y (omega arith) hm hy) in
            rw back at (crossed (middle, j) x y (record { middle = hm; item = hj; high = rev-lt half a; low = hy }))
            ∙ ap (λ n. slice_get old (n * row_width + j)) (sym turned)) in
            at r (rw same at h) ∙ ap (λ n. slice_get old (rev n r * row_width + j)) (sym same);
      }

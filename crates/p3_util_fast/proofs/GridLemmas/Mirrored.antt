-- Items are exchanged with their mirror images, first one part of the pairs and then the other.
use Rattle.std.proofs.Common.{◌≡◌, ℕ, min, max, List, inl, inr, refl, ◌∙◌, arith}
use Rattle.p3_util_kernels.specs.declared.transpose.region.Region.{Region}
use Rattle.p3_util_kernels.specs.Halves.{IsCut}
use Rattle.p3_util_fast.specs.Mirrored.{Mirrored}
use Rattle.p3_util_kernels.specs.Region.{IsInRegion}
use Rattle.p3_util_kernels.proofs.TransposeLemmas.Region.{inside}

-- A pair is on the line of its greater number, and its smaller number is its row on that line. Each
-- place has only one line and one row.
module _ {A M : Type 0} (place : M → ℕ → ℕ → ℕ) (Within : M → ℕ → ℕ → Type 0) (line : M → ℕ → ℕ)
    (turned : (m : M) (x y : ℕ) → Within m x y → Within m y x)
    (same : (m n : M) (x y v w : ℕ) → Within m x y → Within n v w → place m x y ≡ place n v w
    → (line m (max x y) ≡ line n (max v w)) × (min x y ≡ min v w)) where
  -- if each pair is a place and itself, nothing is exchanged
  pub Mirrored-none : (region : Region) (xs : List A)
      → ((m : M) (x y : ℕ) → Within m x y → IsInRegion region (line m (max x y)) (min x y) → x ≡ y)
      → Mirrored place (λ m x y. Within m x y × IsInRegion region (line m (max x y)) (min x y)) xs xs
  Mirrored-none region xs own = record {
    same_length = refl;
    crossed = λ m x y s. let same : x ≡ y = own m x y s.0 s.1 in rw same refl;
    others = λ k out. refl;
  }

  -- one part of the pairs, and then the other
  pub Mirrored-cut : (whole first second : Region) (xs ys zs : List A) → IsCut whole first second
      → Mirrored place (λ m x y. Within m x y × IsInRegion first (line m (max x y)) (min x y)) xs ys
      → Mirrored place (λ m x y. Within m x y × IsInRegion second (line m (max x y)) (min x y)) ys zs
      → Mirrored place (λ m x y. Within m x y × IsInRegion whole (line m (max x y)) (min x y)) xs zs
  Mirrored-cut whole first second xs ys zs cut s t = record {
    same_length = t.same_length ∙ s.same_length;
    crossed = λ m x y h.
        elim (cut.parts _ _ h.1) [
          | inl in_first ↦
              t.others (place m x y)
              (λ n v w k e. let one = same m n x y v w h.0 k.0 e in cut.apart _ _ in_first (rw (← one.0, ← one.1) at k.1))
              ∙ s.crossed m x y (h.0, in_first)
          | inr in_second ↦
              t.crossed m x y (h.0, in_second)
              ∙ s.others (place m y x)
              (λ n v w k e.
              let one = same m n y x v w (turned m x y h.0) k.0 e in
              let greater : max y x ≡ max x y = omega arith in
              let smaller : min y x ≡ min x y = omega arith in
              cut.apart _ _ (rw (← one.0, ← one.1, greater, smaller) at k.1) in_second)
        ];
    others = λ k out.
        t.others k (λ m x y h. out m x y (h.0, inside _ _ _ _ cut.second_inside h.1))
        ∙ s.others k (λ m x y h. out m x y (h.0, inside _ _ _ _ cut.first_inside h.1));
  }

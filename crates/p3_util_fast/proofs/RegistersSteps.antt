-- Equal steps of a holder, one after another.
use Rattle.std.proofs.Common.{◌≡◌, ℕ, ◌+◌, ◌*◌, ◌<◌, below_more, below_none, arith}

module _ (H : Type 0) (same : ℕ → H → H → Type 0) (trans : (m n all : ℕ) (a b c : H) → same m a b → same n b c → m + n ≡ all → same all a c) (n : ℕ) where
  pub four_times : (all : ℕ) (a b c d e : H) → same n a b → same n b c → same n c d → same n d e → 4 * n ≡ all → same all a e
  four_times all a b c d e one two three four sum =
      trans (2 * n) (2 * n) all a c e (trans n n (2 * n) a b c one two (omega arith)) (trans n n (2 * n) c d e three four (omega arith)) (omega (arith, sum))

-- what holds of each number below 8
pub below_eight : (P : ℕ → Type 0) → P 0 → P 1 → P 2 → P 3 → P 4 → P 5 → P 6 → P 7 → (i : ℕ) → i < 8 → P i
below_eight P a b d e f g h j = below_more P 7 (below_more P 6 (below_more P 5 (below_more P 4 (below_more P 3 (below_more P 2 (below_more P 1 (below_more P 0 (below_none P) a) b) d) e) f) g) h) j

-- Squares that lie side by side are transposed one after another.
use Rattle.std.proofs.Common.{◌≡◌, ℕ, ◌+◌, ◌-◌, ◌*◌, ◌^◌, ◌<◌, ◌≤◌, List, slice_get, refl, sym, ap, ◌∙◌, arith}
use Rattle.std.proofs.lemmas.Nat.{pow-add, pow_pos, mul-add-lt, same_from_place}
use Rattle.p3_util_kernels.proofs.BitsLemmas.Digits.{middle-below}
use Rattle.p3_util_kernels.proofs.TransposeLemmas.Matrix.{each_place}
use Rattle.p3_util_kernels.specs.Square.{IsSquareTransposed}
use Rattle.p3_util_kernels.specs.SideBySide.{AreTransposed}

module _ (log_stride log_size : ℕ) (within : log_size ≤ log_stride) where
  -- the squares fill the rows
  pub row_length : 2 ^ (log_stride - log_size) * 2 ^ log_size ≡ 2 ^ log_stride
  row_length = sym (pow-add 2 (log_stride - log_size) log_size) ∙ ap (λ e. 2 ^ e) (omega arith)

  -- a column of a square is a column of the whole row
  pub in_row : (s b : ℕ) → s < 2 ^ (log_stride - log_size) → b < 2 ^ log_size → s * 2 ^ log_size + b < 2 ^ log_stride
  in_row s b hs hb = let whole : log_stride - log_size + log_size ≡ log_stride = omega arith in rw whole at (middle-below log_size (log_stride - log_size) s b hs hb)

  -- a property of each row, square and column is a property of each place
  pub each_part : (P : ℕ → Type 0)
      → ((a s b : ℕ) → a < 2 ^ log_size → s < 2 ^ (log_stride - log_size) → b < 2 ^ log_size → P (a * 2 ^ log_stride + (s * 2 ^ log_size + b)))
      → (p : ℕ) → p < 2 ^ (log_size + log_stride) → P p
  each_part P all p h =
      each_place P (2 ^ log_size) (2 ^ log_stride) p (rw (pow-add 2 log_size log_stride) at h)
      (λ a q ha hq.
      each_place (λ q. P (a * 2 ^ log_stride + q)) (2 ^ (log_stride - log_size)) (2 ^ log_size) q (rw (← row_length) at hq)
      (λ s b hs hb. all a s b ha hs hb))

  -- the list has the last place of each square
  pub square_room : (s n : ℕ) → n ≡ 2 ^ (log_size + log_stride) → s < 2 ^ (log_stride - log_size)
      → s * 2 ^ log_size + (2 ^ log_size - 1) * 2 ^ log_stride + (2 ^ log_size - 1) < n
  square_room s n whole hs =
      let last : 2 ^ log_size - 1 < 2 ^ log_size = omega (arith, pow_pos log_size) in
      let column : s * 2 ^ log_size + (2 ^ log_size - 1) < 2 ^ log_stride = in_row s (2 ^ log_size - 1) hs last in
      omega (arith, pow-add 2 log_size log_stride, mul-add-lt (2 ^ log_size - 1) (2 ^ log_stride) (s * 2 ^ log_size + (2 ^ log_size - 1)) (2 ^ log_size) last column)

  module _ {A : Type 0} where
    -- the places of the other squares stay as they are
    elsewhere : (i s a b : ℕ) (now next : List A) → i < 2 ^ (log_stride - log_size) → s < 2 ^ (log_stride - log_size) → (s ≡ i → ⊥)
        → b < 2 ^ log_size → IsSquareTransposed (i * 2 ^ log_size) log_stride log_size now next
        → slice_get next (a * 2 ^ log_stride + (s * 2 ^ log_size + b)) ≡ slice_get now (a * 2 ^ log_stride + (s * 2 ^ log_size + b))
    elsewhere i s a b now next hi hs apart hb square =
        square.others (a * 2 ^ log_stride + (s * 2 ^ log_size + b))
        (λ c d hc hd e.
        let row = same_from_place a (s * 2 ^ log_size + b) c (i * 2 ^ log_size + d) (2 ^ log_stride) (in_row s b hs hb) (in_row i d hi hd) (omega arith) in
        apart (same_from_place s b i d (2 ^ log_size) hb hd row.1).0)

    -- no square is transposed yet
    AreTransposed-none : (xs : List A) → AreTransposed 0 log_stride log_size xs xs
    AreTransposed-none xs = record {
      same_length = refl;
      crossed = λ s a b hs ha hb. absurd (omega arith);
      kept = λ s a b from hs ha hb. refl;
    }

    -- one more square is transposed
    pub AreTransposed-more : (i : ℕ) (old now next : List A) → i < 2 ^ (log_stride - log_size)
        → AreTransposed i log_stride log_size old now → IsSquareTransposed (i * 2 ^ log_size) log_stride log_size now next
        → AreTransposed (i + 1) log_stride log_size old next
    AreTransposed-more i old now next hi at square = record {
      same_length = square.same_length ∙ at.same_length;
      crossed = λ s a b hs ha hb.
          grind (arith, elsewhere i s a b now next hi, at.crossed s a b, at.kept i b a, square, square.places a b);
      kept = λ s a b from hs ha hb. elsewhere i s a b now next hi hs (λ e. omega arith) hb square ∙ at.kept s a b (omega arith) hs ha hb;
    }

    -- the first square is transposed
    pub AreTransposed-one : (old new : List A) → IsSquareTransposed 0 log_stride log_size old new → AreTransposed 1 log_stride log_size old new
    AreTransposed-one old new square =
        let base : 0 * 2 ^ log_size ≡ 0 = omega arith in
        AreTransposed-more 0 old old new (pow_pos (log_stride - log_size)) (AreTransposed-none old) (rw base square)

    -- the first square is transposed, and then the second one, which begins at place `base`
    pub AreTransposed-two : (base : ℕ) (old now new : List A) → 1 < 2 ^ (log_stride - log_size) → base ≡ 2 ^ log_size
        → IsSquareTransposed 0 log_stride log_size old now → IsSquareTransposed base log_stride log_size now new
        → AreTransposed 2 log_stride log_size old new
    AreTransposed-two base old now new more is first second =
        let from : base ≡ 1 * 2 ^ log_size = omega (arith, is) in
        AreTransposed-more 1 old now new more (AreTransposed-one old now first) (rw from at second)

-- Blocks of a square exchanged across its diagonal, one after another.
use Rattle.std.proofs.Common.{◌≡◌, ℕ, ◌+◌, ◌-◌, ◌*◌, ◌/◌, ◌%◌, ◌^◌, ◌<◌, ◌≤◌, List, length, inl, inr, refl, ◌∙◌, swap, arith}
use Rattle.std.proofs.Math.Nat.{pow-le-pow_right}
use Rattle.std.proofs.lemmas.Bool.{cases_lt}
use Rattle.std.proofs.lemmas.Nat.{same_from_place, pow_pos, mod_below, div-add-mod'}
use Rattle.std.proofs.lemmas.List.Edits.{length-swap}
use Rattle.p3_util_kernels.specs.Diagonal.{IsInBlock, SwapsAcross}
use Rattle.p3_util_kernels.specs.Square.{IsSquareTransposed}
use Rattle.p3_util_kernels.proofs.PlacesLemmas.Exchange.{slice_get-swap_first, slice_get-swap_second, slice_get-swap_other}

module _ {A : Type 0} (base stride : ℕ) where
  -- no pair
  pub SwapsAcross-none : (row row_end col col_end : ℕ) (xs : List A) → ((a b : ℕ) → IsInBlock row row_end col col_end a b → ⊥)
      → SwapsAcross base stride row row_end col col_end xs xs
  SwapsAcross-none row row_end col col_end xs none = record {
    same_length = refl;
    crossed = λ a b ha hb h. absurd (none a b h);
    kept = λ a b hb out. refl;
    before = λ k h. refl;
  }

  -- the rows below `mid`, then those from `mid` on
  pub SwapsAcross-rows : (row mid row_end col col_end : ℕ) (xs ys zs : List A) → row ≤ mid → mid ≤ row_end
      → SwapsAcross base stride row mid col col_end xs ys → SwapsAcross base stride mid row_end col col_end ys zs
      → SwapsAcross base stride row row_end col col_end xs zs
  SwapsAcross-rows row mid row_end col col_end xs ys zs h1 h2 s t = record {
    same_length = t.same_length ∙ s.same_length;
    crossed = λ a b ha hb h. grind (arith, h, s.crossed a b ha hb, s.kept b a ha, t.crossed a b ha hb, t.kept a b hb);
    kept = λ a b hb out. grind (arith, out, s.kept a b hb, t.kept a b hb);
    before = λ k h. t.before k h ∙ s.before k h;
  }

  -- the columns below `mid`, then those from `mid` on
  pub SwapsAcross-cols : (row row_end col mid col_end : ℕ) (xs ys zs : List A) → col ≤ mid → mid ≤ col_end
      → SwapsAcross base stride row row_end col mid xs ys → SwapsAcross base stride row row_end mid col_end ys zs
      → SwapsAcross base stride row row_end col col_end xs zs
  SwapsAcross-cols row row_end col mid col_end xs ys zs h1 h2 s t = record {
    same_length = t.same_length ∙ s.same_length;
    crossed = λ a b ha hb h. grind (arith, h, s.crossed a b ha hb, s.kept b a ha, t.crossed a b ha hb, t.kept a b hb);
    kept = λ a b hb out. grind (arith, out, s.kept a b hb, t.kept a b hb);
    before = λ k h. t.before k h ∙ s.before k h;
  }

  -- one exchange
  pub SwapsAcross-swap : (a b : ℕ) (xs : List A) → a < b → b < stride
      → base + a * stride + b < length xs → base + b * stride + a < length xs
      → SwapsAcross base stride a (a + 1) b (b + 1) xs (swap xs (base + b * stride + a) (base + a * stride + b))
  SwapsAcross-swap a b xs h hb upper lower =
      let i = base + b * stride + a in
      let j = base + a * stride + b in
      record {
        same_length = length-swap xs i j;
        crossed = λ c d hc hd k. grind (arith, k, slice_get-swap_second xs i j lower upper, slice_get-swap_first xs i j lower upper);
        kept = λ c d hd out.
            grind (arith, out, slice_get-swap_other xs i j (base + c * stride + d), same_from_place c d b a stride hd (omega arith), same_from_place c d a b stride hd hb);
        before = λ k h. slice_get-swap_other xs i j k (λ e. omega arith) (λ e. omega arith);
      }

  -- the upper left quadrant, the upper right one with its mirror image, and the lower right one make the square
  pub SwapsAcross-quadrants : (start mid end : ℕ) (xs ys zs ws : List A) → start ≤ mid → mid ≤ end
      → SwapsAcross base stride start mid start mid xs ys → SwapsAcross base stride start mid mid end ys zs
      → SwapsAcross base stride mid end mid end zs ws → SwapsAcross base stride start end start end xs ws
  SwapsAcross-quadrants start mid end xs ys zs ws h1 h2 s t u =
      SwapsAcross-rows start mid end start end xs zs ws h1 h2
      (SwapsAcross-cols start mid start mid end xs ys zs h1 h2 s t)
      (record { same_length = u.same_length; crossed = λ a b ha hb h. grind (arith, h, u.crossed a b ha hb); kept = λ a b hb out. grind (arith, out, u.kept a b hb); before = u.before })

  -- one more line of a square
  pub SwapsAcross-line : (start line : ℕ) (xs ys zs : List A) → start ≤ line
      → SwapsAcross base stride start line start line xs ys → SwapsAcross base stride start line line (line + 1) ys zs
      → SwapsAcross base stride start (line + 1) start (line + 1) xs zs
  SwapsAcross-line start line xs ys zs h s t =
      SwapsAcross-quadrants start line (line + 1) xs ys zs zs h (omega arith) s t
      (SwapsAcross-none line (line + 1) line (line + 1) zs (λ a b k. omega arith))

-- the whole square
pub IsSquareTransposed-from_across : {A : Type 0} (base log_stride log_size : ℕ) (old new : List A) → log_size ≤ log_stride
    → SwapsAcross base (2 ^ log_stride) 0 (2 ^ log_size) 0 (2 ^ log_size) old new
    → IsSquareTransposed base log_stride log_size old new
IsSquareTransposed-from_across base log_stride log_size old new h s =
    let side : 2 ^ log_size ≤ 2 ^ log_stride = pow-le-pow_right (omega arith) h in
    let wide : 0 < 2 ^ log_stride = pow_pos log_stride in
    record {
      same_length = s.same_length;
      places = λ a b ha hb. grind (arith, s.kept a b (omega arith), s.crossed a b (omega arith) (omega arith));
      others = λ k out.
          elim (cases_lt k base) [
            | inl before ↦ s.before k before
            | inr from ↦
                let a : ℕ = (k - base) / 2 ^ log_stride in
                let b : ℕ = (k - base) % 2 ^ log_stride in
                let low : b < 2 ^ log_stride = mod_below (k - base) (2 ^ log_stride) wide in
                let is : k ≡ base + a * 2 ^ log_stride + b = omega (arith, div-add-mod' (k - base) (2 ^ log_stride)) in
                rw is (s.kept a b low (λ m. out a b (omega arith) (omega arith) is))
          ];
    }

-- The long path of bit reversal: chunks, squares, and chunks again.
use Rattle.std.proofs.Common.{◌≡◌, ℕ, ◌+◌, ◌-◌, ◌*◌, ◌^◌, ◌<◌, ◌≤◌, List, length, slice_get, refl, sym, ap, ◌∙◌, pow-add, arith}
use Rattle.p3_util_kernels.specs.Digits.{rev}
use Rattle.p3_util_kernels.specs.Reversal.{IsReversal, IsRowReversal}
use Rattle.p3_util_kernels.specs.SideBySide.{AreTransposed}
use Rattle.p3_util_kernels.proofs.BitsLemmas.Digits.{rev-lt, rev-around}
use Rattle.p3_util_kernels.proofs.ReverseLemmas.Reversal.{IsReversal-from_power}
use Rattle.p3_util_kernels.proofs.ReverseLemmas.SideBySide.{each_part, in_row}

-- A list of 2 ^ size chunks of 2 ^ stride items, which form one square or two. If its chunks are reversed, then each
-- square is transposed, and then the chunks are reversed again, the list is reversed by index bits.
module _ {A : Type 0} (size stride : ℕ) (within : size ≤ stride) (few : stride ≤ size + 1) (old first second new : List A)
    (fits : length old ≡ 2 ^ (size + stride))
    (chunks : IsRowReversal (2 ^ stride) old first)
    (squares : AreTransposed (2 ^ (stride - size)) stride size first second)
    (again : IsRowReversal (2 ^ stride) second new) where
  same : length second ≡ length old
  same = squares.same_length ∙ chunks.same_length

  chunk_count : (xs : List A) → length xs ≡ length old → length xs ≡ 2 ^ stride * 2 ^ size
  chunk_count xs e = e ∙ fits ∙ ap (λ e. 2 ^ e) (omega arith) ∙ pow-add 2 stride size

  at_place : (a s y : ℕ) → a < 2 ^ size → s < 2 ^ (stride - size) → y < 2 ^ size
      → slice_get new (a * 2 ^ stride + (s * 2 ^ size + y)) ≡ slice_get old (rev (size + stride) (a * 2 ^ stride + (s * 2 ^ size + y)))
  at_place a s y ha hs hy =
      let parts : stride - size + size ≡ stride = omega arith in
      let extra : stride - size ≤ 1 = omega arith in
      let reversed = rw parts at (rev-around size (stride - size) a s y extra hs hy) in
      let back : rev size a < 2 ^ size = rev-lt size a in
      again.places size a (s * 2 ^ size + y) (chunk_count second same) ha (in_row stride size within s y hs hy)
      ∙ squares.crossed s (rev size a) y hs back hy
      ∙ chunks.places size y (s * 2 ^ size + rev size a) (chunk_count old refl) hy (in_row stride size within s (rev size a) hs back)
      ∙ ap (slice_get old) (sym reversed)

  pub IsReversal-composed : IsReversal old new
  IsReversal-composed =
      let k = size + stride in
      IsReversal-from_power k old new fits (again.same_length ∙ same)
      (λ p h. each_part stride size within (λ p. slice_get new p ≡ slice_get old (rev k p)) at_place p (rw fits at h))

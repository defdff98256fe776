-- The loop that fills a buffer: the items that came so far are at its front, and the rest of it is as it was.
use Rattle.std.proofs.Common.{◌≡◌, ℕ, ◌+◌, ◌-◌, ◌<◌, ◌≤◌, Bool, true, false, true≢false, List, ◌++◌, Option, Some, None, length, take, drop, set, refl, sym, ap, ◌∙◌, replicate, ◌==◌, arith}
use Rattle.std.proofs.lemmas.Grind.{take-set_at}
use Rattle.std.proofs.lemmas.List.{length-take-le, length-set, drop-replicate, take-append-drop}
use Rattle.std.proofs.iter.Next.{Yields-more}
use Rattle.std.specs.Iterator.{Yields, Count, IsFinite, size, MakesProgress, count_map, count_unless}
use Rattle.p3_util.specs.declared.chunks.ArrayChunksPadded.{ArrayChunksPadded}
use Rattle.p3_util.specs.Pieces.{padded, piece_count}
use Rattle.p3_util.specs.PaddedPieces.{TakesPiece, padded_source, padded_done, padded_can, padded_left}
use Rattle.p3_util.proofs.Moved.{left-more}
use Rattle.p3_util.proofs.PiecesLemmas.{eq_zero-false, piece_count-falls, piece_count-none, piece_count-some}

-- Calls from s gave the first `len` items of a buffer of n and led to t. The rest of the buffer is as it was in
-- `old`, and a finite count of items has fallen by at least `len`.
pub record Fills {S A : Type 0} (can : S → Type 0) (steps : S → Option A → S → Type 0) (left : S → Count) (n : ℕ) (old : List A) (s : S) (buf : List A) (len : ℕ) (t : S) : Type 0 where
  pub within : len ≤ n
  pub long : length buf ≡ n
  pub came : Yields steps s (take len buf) t
  pub rest : drop len buf ≡ drop len old
  pub may : 0 < n → can t
  pub fewer : IsFinite (left s) → IsFinite (left t) × (size (left t) + len ≤ size (left s))

module _ {S A : Type 0} {can : S → Type 0} {steps : S → Option A → S → Type 0} {left : S → Count} {n : ℕ} {s : S} where
  pub Fills-push : {old buf : List A} {len : ℕ} {t : S} → Fills can steps left n old s buf len t → {x : A} {u : S} → len < n → steps t (Some x) u → MakesProgress can left t (Some x) u
      → Fills can steps left n old s (set buf len x) (len + 1) u
  Fills-push {old} {buf} {len} {t} h {x} {u} room step goes =
      let place : len < length buf = omega (arith, h.long) in
      record {
        within = omega arith;
        long = length-set buf len x ∙ h.long;
        came = rw (take-set_at buf len (len + 1) x refl place) (Yields-more steps s (take len buf) t x u h.came step);
        rest = left-more buf old len x h.rest;
        may = λ _. goes.keeps;
        fewer = λ finite. let before = h.fewer finite in let after = goes.on before.0 in (after.1, omega (arith, before.1, after.2));
      }

  module _ (fill : A) {chunk : List A} {len : ℕ} {t : S} (h : Fills can steps left n (replicate n fill) s chunk len t) where
    long-front : length (take len chunk) ≡ len
    long-front = length-take-le len chunk (omega (arith, h.within, h.long))

    is-padded : chunk ≡ padded n fill (take len chunk)
    is-padded = rw long-front (sym (take-append-drop len chunk) ∙ ap (λ l. take len chunk ++ l) (h.rest ∙ drop-replicate len n fill))

    -- a chunk that is completely filled, and one that is not
    pub Fills-full : 0 < len → n ≤ len → (xs : List A) × TakesPiece steps n s xs false t × (chunk ≡ padded n fill xs)
    Fills-full some full = (take len chunk, (omega (arith, long-front), (omega (arith, long-front, h.within), h.came)), is-padded)

    pub Fills-short : {u : S} → 0 < len → len < n → steps t None u → (xs : List A) × TakesPiece steps n s xs true u × (chunk ≡ padded n fill xs)
    Fills-short some short step = (take len chunk, (omega (arith, long-front), (omega (arith, long-front), (t, h.came, step))), is-padded)

-- if the count of items falls by at least n, the count of pieces falls, and so it does if no item
-- is left after the last piece
full-falls : (none a b : Bool) (n : ℕ) (c d : Count) → none ≡ false → a ≡ false → b ≡ false → 0 < n → (IsFinite c → IsFinite d × (size d + n ≤ size c))
    → IsFinite (count_unless none (count_map (piece_count n) (count_unless a c)))
    → IsFinite (count_unless none (count_map (piece_count n) (count_unless b d)))
    × (size (count_unless none (count_map (piece_count n) (count_unless b d))) < size (count_unless none (count_map (piece_count n) (count_unless a c))))
full-falls none a b n c d e f g some fall = rw (e, f, g) (λ finite. let h = fall finite in (h.0, piece_count-falls n (size d) (size c) some h.1))

last-falls : (none a b : Bool) (n : ℕ) (c d : Count) → none ≡ false → a ≡ false → b ≡ true → 0 < n → (IsFinite c → 0 < size c)
    → IsFinite (count_unless none (count_map (piece_count n) (count_unless a c)))
    → IsFinite (count_unless none (count_map (piece_count n) (count_unless b d)))
    × (size (count_unless none (count_map (piece_count n) (count_unless b d))) < size (count_unless none (count_map (piece_count n) (count_unless a c))))
last-falls none a b n c d e f g some left = rw (e, f, g) (λ finite. (tt, rw (piece_count-none n) (piece_count-some n (size c) some (left finite))))

module _ {S A : Type 0} (can : S → Type 0) (left : S → Count) {n : ℕ} {steps : S → Option A → S → Type 0} {s t : ArrayChunksPadded S A n} {chunk : List A} {len : ℕ} (fill : A) where
  pub Fills-full_progress : Fills can steps left n (replicate n fill) (padded_source s) chunk len (padded_source t) → padded_done s ≡ false → padded_done t ≡ false → 0 < n → n ≤ len
      → MakesProgress (padded_can can) (padded_left left) s (Some chunk) t
  Fills-full_progress h before after some full =
      let fall = full-falls (n == 0) (padded_done s) (padded_done t) n (left (padded_source s)) (left (padded_source t)) (eq_zero-false n some) before after some
      (λ finite. let f = h.fewer finite in (f.0, omega (arith, f.1, full))) in
      record { on = λ finite. let f = fall finite in ((λ more _. h.may more), f.0, f.1); keeps = λ more _. h.may more; rests = λ _. tt }

  pub Fills-last_progress : {u : S} → Fills can steps left n (replicate n fill) (padded_source s) chunk len u → padded_done s ≡ false → padded_done t ≡ true → 0 < n → 0 < len
      → MakesProgress (padded_can can) (padded_left left) s (Some chunk) t
  Fills-last_progress h before after some items =
      let fall = last-falls (n == 0) (padded_done s) (padded_done t) n (left (padded_source s)) (left (padded_source t)) (eq_zero-false n some) before after some
      (λ finite. let f = h.fewer finite in omega (arith, f.1, items)) in
      let over : 0 < n → padded_done t ≡ false → can (padded_source t) = λ _ e. absurd (true≢false (sym after ∙ e)) in
      record { on = λ finite. let f = fall finite in (over, f.0, f.1); keeps = over; rests = λ _. tt }

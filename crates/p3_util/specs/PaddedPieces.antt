-- What an iterator over padded pieces takes from its source, and what it yields.
-- Source: the documentation and the tests of `iter_array_chunks_padded` of p3-util 0.8.0.
use Rattle.std.specs.Prelude.{◌≡◌, ℕ, ◌-◌, ◌*◌, ◌<◌, ◌==◌, if◌then◌else◌, Bool, true, false, List, ◌++◌, length, replicate, Option, None, MatchBool, MatchOption}
use Rattle.std.specs.Iterator.{Yields, YieldsThen, Count, count_map, count_unless}
use Rattle.std.specs.Iterator.Runs.{Run, SomeRun, EachRunFrom}
use Rattle.std.specs.List.{flat_map}
use Rattle.p3_util.specs.Pieces.{piece_count, padded, padded_pieces}
use Rattle.p3_util.specs.declared.chunks.ArrayChunksPadded.{ArrayChunksPadded}

-- Calls from state s yielded the items xs of one piece, at least one and at most n of them, and led
-- to state t. If they are fewer than n, a further call yielded `None`, which ends the iteration.
abbrev pub TakesPiece : {S A : Type 0} → (S → Option A → S → Type 0) → (n : ℕ) → S → List A → (ended : Bool) → S → Type 0
TakesPiece steps n s xs ended t = (0 < length xs) × MatchBool ended ((length xs < n) × YieldsThen steps s xs None t) ((length xs ≡ n) × Yields steps s xs t)

module _ {S A : Type 0} {n : ℕ} where
  -- the iterator inside an `ArrayChunksPadded`
  abbrev pub padded_source : ArrayChunksPadded S A n → S
  padded_source s = s.iter

  -- whether the iterator inside has returned `None`. After that it is not called again
  abbrev pub padded_done : ArrayChunksPadded S A n → Bool
  padded_done s = s.done

  -- the item with which the last piece is filled
  abbrev pub padded_fill : ArrayChunksPadded S A n → A
  padded_fill s = s.default

  -- `can` allows a call of the iterator inside. Nothing is required if pieces have no items or if
  -- the iterator inside has ended, because then it is not called
  abbrev pub padded_can : (S → Type 0) → ArrayChunksPadded S A n → Type 0
  padded_can can s = 0 < n → padded_done s ≡ false → can (padded_source s)

  -- There is no further piece: the iterator inside is not called, or it returns `None` and ends
  abbrev pub HasNoPiece : (S → Option A → S → Type 0) → ArrayChunksPadded S A n → ArrayChunksPadded S A n → Type 0
  HasNoPiece steps s t = MatchBool (if n == 0 then true else padded_done s) (t ≡ s) (steps (padded_source s) None (padded_source t) × (padded_done t ≡ true))

  -- A call of `next` in state s may return r and leave state t: r is the next piece, filled to n
  -- items, or `None` if there is no further piece. `steps` says the same of the iterator inside
  abbrev pub padded_steps : (S → Option A → S → Type 0) → ArrayChunksPadded S A n → Option (List A) → ArrayChunksPadded S A n → Type 0
  padded_steps steps s r t = (padded_fill t ≡ padded_fill s) × MatchOption r (HasNoPiece steps s t)
      (λ piece. (padded_done s ≡ false) × ((xs : List A) × TakesPiece steps n (padded_source s) xs (padded_done t) (padded_source t) × (piece ≡ padded n (padded_fill s) xs)))

  -- how many pieces are left at most, if there is a bound. It follows from how many items the
  -- iterator inside has left at most, which `left` gives
  abbrev pub padded_left : (S → Count) → ArrayChunksPadded S A n → Count
  padded_left left s = count_unless (n == 0) (count_map (piece_count n) (count_unless (padded_done s) (left (padded_source s))))

-- The run p of padded pieces comes from the run q of the iterator inside: p yielded the pieces of
-- the items of q, each filled to n items. So the number of pieces is the quotient rounded up, and
-- their items are those of q and then `fill`. If p went on to `None`, so did q, unless n is 0.
pub record IsPaddedRun {S T A : Type 0} {steps : S → Option (List A) → S → Type 0} {source : T → Option A → T → Type 0} (n : ℕ) (fill : A) (p : Run steps) (q : Run source) : Type 0 where
  pub items : p.items ≡ padded_pieces n fill q.items
  pub whole : p.whole ≡ true → 0 < n → q.whole ≡ true
  pub count : p.len ≡ piece_count n q.len
  pub joined : flat_map (λ piece. piece) p.items ≡ q.items ++ replicate (p.len * n - q.len) fill

-- For every sequence of calls of `next` from state s on, there is one of the iterator inside, and
-- the pieces that were returned are `padded_pieces` of the items that it returned
abbrev pub PadsRuns : {S A : Type 0} {n : ℕ} → (S → Option A → S → Type 0) → A → ArrayChunksPadded S A n → Type 0
PadsRuns {n = n} steps fill s = EachRunFrom (padded_steps steps) s (λ p. SomeRun steps (padded_source s) (IsPaddedRun n fill p))

-- after `None`, every further call returns `None`
abbrev pub EndsForGood : {S A : Type 0} → (S → Option A → S → Type 0) → Type 0
EndsForGood {S} {A} steps = (s t u : S) (r : Option A) → steps s None t → steps t r u → r ≡ None

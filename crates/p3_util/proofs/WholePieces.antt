-- The loop of `apply_to_chunks`: the items so far are whole pieces, and the function was called on each.
use Rattle.std.proofs.Common.{Bor, Option, None, ◌≡◌, ℕ, ◌+◌, ◌*◌, ◌<◌, ◌≤◌, List, [], ◌++◌, length, refl, arith, length-append, append-nil}
use Rattle.std.proofs.lemmas.Fn.{FoldsTo-push}
use Rattle.std.proofs.iter.runs.Made.{run_of_exit}
use Rattle.std.proofs.iter.runs.Lists.{Yields-both}
use Rattle.std.specs.Fn.{Mut, CalledAt}
use Rattle.std.specs.Iterator.{Yields, YieldsThen}
use Rattle.std.specs.Iterator.Runs.{WholeRun}
use Rattle.std.specs.List.{FoldsTo}
use Rattle.p3_util.specs.Pieces.{pieces, CallsOnPieces}
use Rattle.p3_util.proofs.PiecesLemmas.{pieces-nil, pieces-more}

-- An iterator was made from `input`. Calls of it gave `items`, which are `count` whole pieces, and led to s. R led from p to q
-- over these pieces.
pub record Cuts {U S P A : Type 0} (made : U → S → Type 0) (steps : S → Option A → S → Type 0) (R : P → List A → P → Type 0) (n : ℕ) (input : U) (p : P) (s : S) (q : P) : Type 0 where
  pub first : S
  pub from : made input first
  pub items : List A
  pub came : Yields steps first items s
  pub count : ℕ
  pub whole : length items ≡ count * n
  pub folded : FoldsTo R p (pieces n items) q

module _ {U S P A : Type 0} {made : U → S → Type 0} {steps : S → Option A → S → Type 0} {R : P → List A → P → Type 0} {n : ℕ} {input : U} {p : P} where
  pub Cuts-start : (s : S) → made input s → Cuts made steps R n input p s p
  Cuts-start s from = record { first = s; from = from; items = []; came = refl; count = 0; whole = omega arith; folded = rw (pieces-nil {A = A} n) refl }

  module _ {s : S} {q : P} (h : Cuts made steps R n input p s q) where
    -- one more piece, which may be shorter
    pub folds-more : {r : P} (piece : List A) → 0 < length piece → length piece ≤ n → R q piece r → FoldsTo R p (pieces n (h.items ++ piece)) r
    folds-more {r} piece some fits took = rw (pieces-more n h.count h.items piece h.whole some fits) (FoldsTo-push R p (pieces n h.items) q piece r h.folded took)

    -- no more piece
    pub folds-all : (piece : List A) → piece ≡ [] → FoldsTo R p (pieces n (h.items ++ piece)) q
    folds-all piece none = rw (none, append-nil h.items) h.folded

    -- one more whole piece
    pub Cuts-more : {piece : List A} {t : S} {r : P} → 0 < n → length piece ≡ n → Yields steps s piece t → R q piece r → Cuts made steps R n input p t r
    Cuts-more {piece} {t} some long came took = record {
      first = h.first;
      from = h.from;
      items = h.items ++ piece;
      came = Yields-both steps h.items piece h.first s t h.came came;
      count = h.count + 1;
      whole = rw (length-append h.items piece) (omega (arith, h.whole, long));
      folded = folds-more piece (omega (arith, some, long)) (omega (arith, long)) took;
    }

-- the whole run of the iterator, with the calls on all pieces of its items
pub calls-whole : {U S F A : Type 0} (g : Mut F (Bor (List A) × Unit {0}) (Unit {0})) {made : U → S → Type 0} {steps : S → Option A → S → Type 0} {n : ℕ} {input : U} {f q : F} {s t : S} (piece : List A) (last : F)
    (h : Cuts made steps (λ p piece r. CalledAt g p piece tt r) n input f s q) → YieldsThen steps s piece None t → FoldsTo (λ p piece r. CalledAt g p piece tt r) f (pieces n (h.items ++ piece)) last
    → (it : S) × made input it × WholeRun steps it (λ p. CallsOnPieces g n f p.items)
calls-whole g {steps = steps} {s = s} {t = t} piece last h ended calls =
    let r = run_of_exit steps h.first (h.items ++ piece) ended.0 (Yields-both steps h.items piece h.first s ended.0 h.came ended.1) t ended.2 in
    (h.first, h.from, (r.0, r.1, r.2, (last, rw r.3.0 calls)))

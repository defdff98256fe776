-- What a run of an iterator over padded pieces gives, derived from what each of its steps gives.
use Rattle.std.proofs.Common.{◌≡◌, ℕ, zero, suc, ◌+◌, ◌-◌, ◌*◌, ◌<◌, ◌≤◌, ◌⊎◌, inl, inr, Bool, true, false, true≢false, List, [], ◌∷◌, ◌++◌, map, Option, None, length, refl, sym, ap, subst, ◌∙◌, length-append, append_assoc, append-nil, replicate, MatchBool, ◌==◌, if◌then◌else◌, flat_map, arith}
use Rattle.std.specs.Iterator.{Yields, YieldsThen, DrainsIf}
use Rattle.std.specs.Iterator.Runs.{Run, SomeRun, EachRunFrom}
use Rattle.std.proofs.iter.runs.Made.{run, took}
use Rattle.std.proofs.iter.runs.Lists.{Yields-both}
use Rattle.std.proofs.lemmas.Bool.{cases_Bool}
use Rattle.std.proofs.lemmas.List.{map-append, length-map}
use Rattle.std.proofs.lemmas.List.Folds.{flat_map-map}
use Rattle.p3_util.specs.Pieces.{piece_count, padded, pieces, padded_pieces}
use Rattle.p3_util.specs.PaddedPieces.{TakesPiece, padded_source, padded_done, padded_fill, padded_steps, IsPaddedRun}
use Rattle.p3_util.specs.declared.chunks.ArrayChunksPadded.{ArrayChunksPadded}
use Rattle.p3_util.proofs.PiecesLemmas.{eq_zero-false, in-pieces, joined-more, joined-whole, piece_count-more, piece_count-whole, piece_count-none, pieces-nil, pieces-zero, pieces-more, length-pieces}

module _ {A : Type 0} where
  abbrev join : List (List A) → List A
  join xs = flat_map (λ piece. piece) xs

  -- one more padded piece after k whole ones
  padded_pieces-more : (n k : ℕ) (fill : A) (xs ys : List A) → length xs ≡ k * n → 0 < length ys → length ys ≤ n → padded_pieces n fill (xs ++ ys) ≡ padded_pieces n fill xs ++ padded n fill ys ∷ []
  padded_pieces-more n k fill xs ys whole some fits = rw (pieces-more n k xs ys whole some fits) (map-append (padded n fill) (pieces n xs) (ys ∷ []))

  padded-full : (n : ℕ) (fill : A) (xs : List A) → length xs ≡ n → padded n fill xs ≡ xs
  padded-full n fill xs full =
      let none : n - length xs ≡ 0 = omega arith in
      rw none (append-nil xs)

  length-padded_pieces : (n : ℕ) (fill : A) (xs : List A) → length (padded_pieces n fill xs) ≡ piece_count n (length xs)
  length-padded_pieces n fill xs = length-map (pieces n xs) (padded n fill) ∙ length-pieces n xs

  padded_pieces-none : (n : ℕ) (fill : A) (xs : List A) → n ≡ 0 → padded_pieces n fill xs ≡ []
  padded_pieces-none zero fill xs none = rw (pieces-zero xs) refl
  padded_pieces-none (suc n) fill xs none = absurd (omega arith)

  -- all padded pieces, joined, are the list and then the filler of the last piece
  joined-by : (n k : ℕ) (fill : A) (front back : List A) → 0 < n → length front ≡ k * n → length back < n
      → flat_map (padded n fill) (pieces n (front ++ back)) ≡ (front ++ back) ++ replicate (piece_count n (length (front ++ back)) * n - length (front ++ back)) fill
  joined-by n k fill front [] some whole short =
      let none : piece_count n (length front) * n - length front ≡ 0 = rw (whole, piece_count-whole k n some) (omega arith) in
      rw (append-nil front, none, append-nil front) (joined-whole (padded n fill) n (padded-full n fill) k front some whole)
  joined-by n k fill front (y ∷ ys) some whole short =
      let count : piece_count n (length (front ++ y ∷ ys)) ≡ k + 1 = rw (length-append front (y ∷ ys), whole) (piece_count-more k n (length (y ∷ ys)) (omega arith) (omega arith)) in
      let rest : (k + 1) * n - length (front ++ y ∷ ys) ≡ n - length (y ∷ ys) = omega (arith, length-append front (y ∷ ys)) in
      rw (count, rest) (
      joined-more (padded n fill) n (padded-full n fill) k front (y ∷ ys) whole (omega arith) (omega arith)
      ∙ sym (append_assoc front (y ∷ ys) (replicate (n - length (y ∷ ys)) fill))
      )

  pub joined-padded_pieces : (n : ℕ) (fill : A) (xs : List A) → 0 < n → join (padded_pieces n fill xs) ≡ xs ++ replicate (piece_count n (length xs) * n - length xs) fill
  joined-padded_pieces n fill xs some =
      flat_map-map (λ piece. piece) (padded n fill) (pieces n xs)
      ∙ in-pieces (λ l. flat_map (padded n fill) (pieces n l) ≡ l ++ replicate (piece_count n (length l) * n - length l) fill) n some
      (λ k front back whole short. joined-by n k fill front back some whole short) xs

zero_or_some : (n : ℕ) → (n ≡ 0) ⊎ (0 < n)
zero_or_some zero = inl refl
zero_or_some (suc n) = inr (omega arith)

-- calls from s returned xs, then `None` if `ended` is true, and left t
Pulled : {S A : Type 0} → (S → Option A → S → Type 0) → S → List A → Bool → S → Type 0
Pulled steps s xs ended t = MatchBool ended (YieldsThen steps s xs None t) (Yields steps s xs t)

pulled-behind : {S A : Type 0} (steps : S → Option A → S → Type 0) (s j t : S) (xs ys : List A) (ended : Bool) → Yields steps s xs j → Pulled steps j ys ended t → Pulled steps s (xs ++ ys) ended t
unfolding Pulled
pulled-behind steps s j t xs ys false a b = Yields-both steps xs ys s j t a b
pulled-behind steps s j t xs ys true a b = (b.0, Yields-both steps xs ys s j b.0 a b.1, b.2)

drains-behind : {S A : Type 0} (steps : S → Option A → S → Type 0) (ended : Bool) (w : Type 0) (s t : S) (xs : List A) → Pulled steps s xs ended t → (ended ≡ false → w → (u : S) × steps t None u) → DrainsIf steps w s xs
unfolding Pulled
drains-behind steps false w s t xs came ends = (t, came, ends refl)
drains-behind steps true w s t xs came ends = (came.0, came.1, λ _. (t, came.2))

no-piece-asks : (zero d e : Bool) (X Y : Type 0) → zero ≡ false → d ≡ false → MatchBool (if zero then true else d) X (Y × (e ≡ true)) → Y
no-piece-asks true d e X Y some begun h = absurd (true≢false some)
no-piece-asks false true e X Y some begun h = absurd (true≢false begun)
no-piece-asks false false e X Y some begun h = h.0

module _ {S A : Type 0} {n : ℕ} (steps : S → Option A → S → Type 0) where
  nothing-more : (s t : ArrayChunksPadded S A n) (ps : List (List A)) → padded_done s ≡ true → Yields (padded_steps steps) s ps t → (ps ≡ []) × (s ≡ t)
  nothing-more s t [] e y = (refl, y)
  nothing-more s t (p ∷ ps) e y = absurd (true≢false (sym e ∙ y.1.1.0))

  -- `xs` are the items that the source gave. Put after `front`, whole pieces, they make the pieces
  -- of `front` followed by the pieces ps.
  Behind : ArrayChunksPadded S A n → ArrayChunksPadded S A n → List (List A) → List A → Type 0
  Behind s t ps front = (xs : List A) × (padded_pieces n (padded_fill s) (front ++ xs) ≡ padded_pieces n (padded_fill s) front ++ ps) × Pulled steps (padded_source s) xs (padded_done t) (padded_source t)

  behind-none : (s : ArrayChunksPadded S A n) (front : List A) → padded_done s ≡ false → Behind s s [] front
  unfolding Behind Pulled
  behind-none s front begun = ([], rw (append-nil front) (sym (append-nil (padded_pieces n (padded_fill s) front))), rw begun refl)

  behind-full : (s j t : ArrayChunksPadded S A n) (ps : List (List A)) (front xs : List A) (k : ℕ) → padded_fill j ≡ padded_fill s → length front ≡ k * n
      → TakesPiece steps n (padded_source s) xs false (padded_source j) → Behind j t ps (front ++ xs) → Behind s t (padded n (padded_fill s) xs ∷ ps) front
  unfolding Behind
  behind-full s j t ps front xs k same whole took h = (
    xs ++ h.0,
    rw (← append_assoc front xs h.0) (rw same at h.1)
        ∙ ap (λ l. l ++ ps) (padded_pieces-more n k (padded_fill s) front xs whole took.0 (omega (arith, took.1.0)))
        ∙ append_assoc (padded_pieces n (padded_fill s) front) (padded n (padded_fill s) xs ∷ []) ps,
    pulled-behind steps (padded_source s) (padded_source j) (padded_source t) xs h.0 (padded_done t) took.1.1 h.2,
  )

  behind-short : (s j : ArrayChunksPadded S A n) (front xs : List A) (k : ℕ) → length front ≡ k * n → padded_done j ≡ true
      → TakesPiece steps n (padded_source s) xs true (padded_source j) → Behind s j (padded n (padded_fill s) xs ∷ []) front
  unfolding Behind Pulled
  behind-short s j front xs k whole over took = (xs, padded_pieces-more n k (padded_fill s) front xs whole took.0 (omega (arith, took.1.0)), rw over took.1.1)

  behind : (s t : ArrayChunksPadded S A n) (ps : List (List A)) (front : List A) (k : ℕ) → padded_done s ≡ false → length front ≡ k * n → Yields (padded_steps steps) s ps t → Behind s t ps front
  behind s t [] front k begun whole y = subst (λ u. Behind s u [] front) y (behind-none s front begun)
  behind s t (p ∷ ps) front k begun whole y =
      let step = y.1.1.1 in
      rw step.2 (elim (cases_Bool (padded_done y.0)) [
        | inl over ↦
            let last = nothing-more y.0 t ps over y.2 in
            subst (λ l. Behind s t (padded n (padded_fill s) step.0 ∷ l) front) (sym last.0)
            (subst (λ u. Behind s u (padded n (padded_fill s) step.0 ∷ []) front) last.1 (behind-short s y.0 front step.0 k whole over (rw over at step.1)))
        | inr on ↦
            let took : TakesPiece steps n (padded_source s) step.0 false (padded_source y.0) = rw on at step.1 in
            behind-full s y.0 t ps front step.0 k y.1.0 whole took (behind y.0 t ps (front ++ step.0) (k + 1) on (rw (length-append front step.0) (omega (arith, whole, took.1.0))) y.2)
      ])

  made : (p : Run (padded_steps {n = n} steps)) (xs : List A) → 0 < n → p.items ≡ padded_pieces n (padded_fill p.from) xs → DrainsIf steps (p.whole ≡ true) (padded_source p.from) xs
      → SomeRun steps (padded_source p.from) (λ q. IsPaddedRun n (padded_fill p.from) p q)
  made p xs some e d =
      let count : p.len ≡ piece_count n (length xs) = p.long ∙ ap length e ∙ length-padded_pieces n (padded_fill p.from) xs in (
        run steps (padded_source p.from) xs p.whole d,
        refl,
        record {
          items = e;
          whole = λ w _. w;
          count = count;
          joined = rw count (ap join e ∙ joined-padded_pieces n (padded_fill p.from) xs some);
        },
      )

  made-none : (p : Run (padded_steps {n = n} steps)) (xs : List A) → n ≡ 0 → p.items ≡ padded_pieces n (padded_fill p.from) xs → SomeRun steps (padded_source p.from) (λ q. IsPaddedRun n (padded_fill p.from) p q)
  made-none p xs none e =
      let f = padded_fill p.from in
      let empty : p.items ≡ [] = e ∙ padded_pieces-none n f xs none in
      let past : p.len * n - 0 ≡ 0 = rw none (omega arith) in (
        run steps (padded_source p.from) [] false (padded_source p.from, refl, λ k. absurd (true≢false (sym k))),
        refl,
        record {
          items = empty ∙ sym (padded_pieces-none n f [] none);
          whole = λ w some. absurd (omega arith);
          count = p.long ∙ ap length empty ∙ sym (piece_count-none n);
          joined = rw (empty, past) refl;
        },
      )

  -- for each run of padded pieces there is a run of the source that gave their items
  run-behind : (p : Run (padded_steps {n = n} steps)) → padded_done p.from ≡ false → SomeRun steps (padded_source p.from) (λ q. IsPaddedRun n (padded_fill p.from) p q)
  unfolding Behind
  run-behind p begun =
      let t = took p in
      let b = behind p.from t.0 p.items [] 0 begun (omega arith) t.1 in
      let e : p.items ≡ padded_pieces n (padded_fill p.from) b.0 = sym (b.1 ∙ ap (λ l. map (padded n (padded_fill p.from)) l ++ p.items) (pieces-nil {A = A} n)) in
      elim (zero_or_some n) [
        | inl none ↦ made-none p b.0 none e
        | inr some ↦ made p b.0 some e (drains-behind steps (padded_done t.0) (p.whole ≡ true) (padded_source p.from) (padded_source t.0) b.0 b.2
            (λ on w. let last = t.2 w in
            (padded_source last.0, no-piece-asks (n == 0) (padded_done t.0) (padded_done last.0) (last.0 ≡ t.0) (steps (padded_source t.0) None (padded_source last.0)) (eq_zero-false n some) on last.1.1)))
      ]

  pub padded-runs : (s : ArrayChunksPadded S A n) → padded_done s ≡ false → EachRunFrom (padded_steps steps) s (λ p. SomeRun steps (padded_source s) (λ q. IsPaddedRun n (padded_fill s) p q))
  padded-runs s begun p seen from = subst (λ u. SomeRun steps (padded_source u) (λ q. IsPaddedRun n (padded_fill u) p q)) from (run-behind p (ap padded_done from ∙ begun))

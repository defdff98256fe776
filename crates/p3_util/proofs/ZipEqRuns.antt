-- What a run of an iterator over pairs gives, and that the length it states is true.
use Rattle.std.proofs.Common.{◌≡◌, ◌+◌, ◌⊎◌, inl, inr, Bool, true, false, true≢false, List, [], ◌∷◌, ◌++◌, map, Option, Some, None, length, refl, sym, ap, subst, ◌∙◌, zip, option_map, arith}
use Rattle.std.specs.Iterator.{Yields, Count, size}
use Rattle.std.proofs.iter.runs.Made.{run, took, at-is, run_of_turn}
use Rattle.std.proofs.lemmas.Bool.{cases_Bool}
use Rattle.std.proofs.lemmas.List.{length-map}
use Rattle.std.proofs.lemmas.Option.{slice_get-map}
use Rattle.p3_util.specs.ZipEq.{HasTrueLength, zip_eq_first, zip_eq_second, zip_eq_left, zip_eq_steps, AskedRuns, PairsRuns}
use Rattle.p3_util.specs.declared.zip_eq.ZipEq.{ZipEq}

module _ {S A : Type 0} {steps : S → Option A → S → Type 0} {left : S → Count} where
  -- if the stated length is true, it is still true after a call
  HasTrueLength-next : {s t : S} {x : A} → HasTrueLength steps left s → steps s (Some x) t → HasTrueLength steps left t
  HasTrueLength-next {s} {t} {x} h step = record {
    item = λ xs j y u came next. h.item (x ∷ xs) j y u (t, step, came) next;
    none = λ xs j u came next. h.none (x ∷ xs) j u (t, step, came) next;
  }

  -- and each item lowers it by 1
  HasTrueLength-falls : (xs : List A) (s t : S) → HasTrueLength steps left s → Yields steps s xs t → size (left s) ≡ length xs + size (left t)
  HasTrueLength-falls [] s t h came = ap (λ k. size (left k)) came ∙ (let e : size (left t) ≡ 0 + size (left t) = omega arith in e)
  HasTrueLength-falls (x ∷ xs) s t h came =
      let one : size (left s) ≡ size (left came.0) + 1 = h.item [] s x came.0 refl came.1 in
      let more : size (left came.0) ≡ length xs + size (left t) = HasTrueLength-falls xs came.0 t (HasTrueLength-next h came.1) came.2 in
      omega arith

module _ {S T A B : Type 0} (steps : S → Option A → S → Type 0) (others : T → Option B → T → Type 0) where
  -- a call that returned a pair called both sides, and each side returned its part of the pair
  both-came : (s t : ZipEq S T) (p : A × B) → zip_eq_steps steps others s (Some p) t → steps (zip_eq_first s) (Some p.0) (zip_eq_first t) × others (zip_eq_second s) (Some p.1) (zip_eq_second t)
  both-came s t p h = (subst (λ o. steps (zip_eq_first s) o (zip_eq_first t)) h.4.0 h.2, subst (λ o. others (zip_eq_second s) o (zip_eq_second t)) h.4.1 h.3)

  first-came : (ps : List (A × B)) (s t : ZipEq S T) → Yields (zip_eq_steps steps others) s ps t → Yields steps (zip_eq_first s) (map (λ p. p.0) ps) (zip_eq_first t)
  first-came [] s t came = ap zip_eq_first came
  first-came (p ∷ ps) s t came = (zip_eq_first came.0, (both-came s came.0 p came.1).0, first-came ps came.0 t came.2)

  second-came : (ps : List (A × B)) (s t : ZipEq S T) → Yields (zip_eq_steps steps others) s ps t → Yields others (zip_eq_second s) (map (λ p. p.1) ps) (zip_eq_second t)
  second-came [] s t came = ap zip_eq_second came
  second-came (p ∷ ps) s t came = (zip_eq_second came.0, (both-came s came.0 p came.1).1, second-came ps came.0 t came.2)

  -- how each side answered if the calls ended at t
  abbrev Ended : Bool → ZipEq S T → Type 0
  Ended b t = (c : Bool) × (d : Bool) × (c ≡ true → (u : S) × steps (zip_eq_first t) None u) × (d ≡ true → (u : T) × others (zip_eq_second t) None u)
      × (b ≡ true → ((c ≡ true) × (d ≡ true)) ⊎ ((c ≡ true) × ((y : B) × (u : T) × others (zip_eq_second t) (Some y) u)) ⊎ ((d ≡ true) × ((x : A) × (u : S) × steps (zip_eq_first t) (Some x) u)))

  answered : (t u : ZipEq S T) (o : Option A) (p : Option B) → steps (zip_eq_first t) o (zip_eq_first u) → others (zip_eq_second t) p (zip_eq_second u) → (o ≡ None) ⊎ (p ≡ None) → Ended true t
  answered t u None None a b e = (true, true, (λ _. (zip_eq_first u, a)), (λ _. (zip_eq_second u, b)), λ _. inl (refl, refl))
  answered t u None (Some y) a b e = (true, false, (λ _. (zip_eq_first u, a)), (λ k. absurd (true≢false (sym k))), λ _. inr (inl (refl, (y, zip_eq_second u, b))))
  answered t u (Some x) None a b e = (false, true, (λ k. absurd (true≢false (sym k))), (λ _. (zip_eq_second u, b)), λ _. inr (inr (refl, (x, zip_eq_first u, a))))
  answered t u (Some x) (Some y) a b (inl e) = absurd cc
  answered t u (Some x) (Some y) a b (inr e) = absurd cc

  pairs-end : (b : Bool) (t : ZipEq S T) → (b ≡ true → (u : ZipEq S T) × zip_eq_steps steps others t None u) → Ended b t
  pairs-end false t h = (false, false, (λ e. absurd (true≢false (sym e))), (λ e. absurd (true≢false (sym e))), λ e. absurd (true≢false (sym e)))
  pairs-end true t h = let last = h refl in answered t last.0 last.1.0 last.1.1 last.1.2 last.1.3 last.1.4

  zip-maps : (ps : List (A × B)) → ps ≡ zip (map (λ p. p.0) ps) (map (λ p. p.1) ps)
  zip-maps [] = refl
  zip-maps (p ∷ ps) = ap (λ l. p ∷ l) (zip-maps ps)

  pub pairs-runs : (z : ZipEq S T) → PairsRuns steps others z
  pairs-runs z p seen from =
      let t = took p in
      let xs = map (λ x. x.0) p.items in
      let ys = map (λ x. x.1) p.items in
      let c : Ended p.whole t.0 = pairs-end p.whole t.0 t.2 in
      let a = first-came p.items p.from t.0 t.1 in
      let b = second-came p.items p.from t.0 t.1 in (
        run steps (zip_eq_first p.from) xs c.0 (zip_eq_first t.0, a, c.2),
        ap zip_eq_first from,
        (
          run others (zip_eq_second p.from) ys c.1 (zip_eq_second t.0, b, c.3),
          ap zip_eq_second from,
          record {
            items = zip-maps p.items;
            firsts = (length-map p.items (λ x. x.0) ∙ sym p.long, refl, λ k. slice_get-map (λ x. x.0) p.items k ∙ ap (option_map (λ x. x.0)) (sym (at-is p k)));
            seconds = (length-map p.items (λ x. x.1) ∙ sym p.long, refl, λ k. slice_get-map (λ x. x.1) p.items k ∙ ap (option_map (λ x. x.1)) (sym (at-is p k)));
            ends = λ whole. elim (c.4 whole) [
              | inl both ↦ inl both
              | inr one ↦ elim one [
                | inl m ↦ inr (inl (m.0, let r = run_of_turn others (zip_eq_second p.from) ys (zip_eq_second t.0) b m.1.0 m.1.1 m.1.2 in (r.0, r.1, r.2.1)))
                | inr m ↦ inr (inr (m.0, let r = run_of_turn steps (zip_eq_first p.from) xs (zip_eq_first t.0) a m.1.0 m.1.1 m.1.2 in (r.0, r.1, r.2.1)))
              ]
            ];
          },
        ),
      )

  -- an additional item on one side is in no pair
  zip-more : (ps : List (A × B)) (b : B) → ps ≡ zip (map (λ p. p.0) ps) (map (λ p. p.1) ps ++ b ∷ [])
  zip-more [] b = refl
  zip-more (p ∷ ps) b = ap (λ l. p ∷ l) (zip-more ps b)

  more-zip : (ps : List (A × B)) (a : A) → ps ≡ zip (map (λ p. p.0) ps ++ a ∷ []) (map (λ p. p.1) ps)
  more-zip [] a = refl
  more-zip (p ∷ ps) a = ap (λ l. p ∷ l) (more-zip ps a)

  -- the same with everything that the run of the pairs asked for
  pub asked-runs : (z : ZipEq S T) → AskedRuns steps others z
  asked-runs z p seen from =
      let t = took p in
      let xs = map (λ x. x.0) p.items in
      let ys = map (λ x. x.1) p.items in
      let c : Ended p.whole t.0 = pairs-end p.whole t.0 t.2 in
      let a = first-came p.items p.from t.0 t.1 in
      let b = second-came p.items p.from t.0 t.1 in
      let u = run steps (zip_eq_first p.from) xs c.0 (zip_eq_first t.0, a, c.2) in
      let v = run others (zip_eq_second p.from) ys c.1 (zip_eq_second t.0, b, c.3) in
      let lens : length xs ≡ length ys = length-map p.items (λ x. x.0) ∙ sym (length-map p.items (λ x. x.1)) in
      elim (cases_Bool p.whole) [
        | inr on ↦ (u, ap zip_eq_first from, (v, ap zip_eq_second from, record { items = zip-maps p.items; ends = λ whole. absurd (true≢false (sym whole ∙ on)) }))
        | inl over ↦ elim (c.4 over) [
          | inl both ↦ (u, ap zip_eq_first from, (v, ap zip_eq_second from, record { items = zip-maps p.items; ends = λ whole. inl both }))
          | inr one ↦ elim one [
            | inl m ↦
                let more = run_of_turn others (zip_eq_second p.from) ys (zip_eq_second t.0) b m.1.0 m.1.1 m.1.2 in (
                  u,
                  ap zip_eq_first from,
                  (
                    more.0,
                    more.1 ∙ ap zip_eq_second from,
                    record {
                      items = zip-more p.items m.1.0 ∙ ap (λ l. zip xs l) (sym more.2.0);
                      ends = λ whole. inr (inl (m.0, more.2.1 ∙ ap (λ n. n + 1) (sym lens)));
                    },
                  ),
                )
            | inr m ↦
                let more = run_of_turn steps (zip_eq_first p.from) xs (zip_eq_first t.0) a m.1.0 m.1.1 m.1.2 in (
                  more.0,
                  more.1 ∙ ap zip_eq_first from,
                  (
                    v,
                    ap zip_eq_second from,
                    record {
                      items = more-zip p.items m.1.0 ∙ ap (λ l. zip l ys) (sym more.2.0);
                      ends = λ whole. inr (inr (m.0, more.2.1 ∙ ap (λ n. n + 1) lens));
                    },
                  ),
                )
          ]
        ]
      ]

  module _ (left : S → Count) (others_left : T → Count) where
    -- if both sides state true lengths, and the two are equal, the pairs end when the length that they state is 0
    none-at : (ps : List (A × B)) (z t u : ZipEq S T) (o : Option A) (p : Option B) → HasTrueLength steps left (zip_eq_first z) → HasTrueLength others others_left (zip_eq_second z)
        → size (left (zip_eq_first z)) ≡ size (others_left (zip_eq_second z)) → Yields (zip_eq_steps steps others) z ps t → steps (zip_eq_first t) o (zip_eq_first u) → others (zip_eq_second t) p (zip_eq_second u)
        → (o ≡ None) ⊎ (p ≡ None) → size (zip_eq_left left t) ≡ 0
    none-at ps z t u o p first second same came a b (inl e) = first.none (map (λ p. p.0) ps) (zip_eq_first t) (zip_eq_first u) (first-came ps z t came) (subst (λ k. steps (zip_eq_first t) k (zip_eq_first u)) e a)
    none-at ps z t u o p first second same came a b (inr e) =
        let f : size (left (zip_eq_first z)) ≡ length (map (λ p. p.0) ps) + size (left (zip_eq_first t)) = HasTrueLength-falls (map (λ p. p.0) ps) (zip_eq_first z) (zip_eq_first t) first (first-came ps z t came) in
        let g : size (others_left (zip_eq_second z)) ≡ length (map (λ p. p.1) ps) + size (others_left (zip_eq_second t)) = HasTrueLength-falls (map (λ p. p.1) ps) (zip_eq_second z) (zip_eq_second t) second (second-came ps z t came) in
        let d : size (others_left (zip_eq_second t)) ≡ 0 = second.none (map (λ p. p.1) ps) (zip_eq_second t) (zip_eq_second u) (second-came ps z t came) (subst (λ k. others (zip_eq_second t) k (zip_eq_second u)) e b) in
        omega (arith, length-map ps (λ p. p.0), length-map ps (λ p. p.1), f, g, d, same)

    pub pairs-length : (z : ZipEq S T) → size (left (zip_eq_first z)) ≡ size (others_left (zip_eq_second z)) → HasTrueLength steps left (zip_eq_first z) → HasTrueLength others others_left (zip_eq_second z)
        → HasTrueLength (zip_eq_steps steps others) (zip_eq_left left) z
    pairs-length z same first second = record {
      item = λ ps t p u came next. first.item (map (λ p. p.0) ps) (zip_eq_first t) p.0 (zip_eq_first u) (first-came ps z t came) (both-came t u p next).0;
      none = λ ps t u came next. none-at ps z t u next.0 next.1 first second same came next.2 next.3 next.4;
    }

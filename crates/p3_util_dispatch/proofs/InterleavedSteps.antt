-- Steps of several lists that are interleaved, where no two lists have a place in common.
use Rattle.std.proofs.Common.{◌≡◌, ◌≢◌, ℕ, ◌⊎◌, ◌<◌, List, [], ◌∷◌, Some, get_or, length, slice_get, slice_set, inl, inr, refl, sym, ◌∙◌, ap, swap, arith}
use Rattle.std.proofs.lemmas.Bool.{cases_eq, cases_lt}
use Rattle.std.proofs.lemmas.List.{get_or-set_other, get_or-set_same, get_or_past, length-set}
use Rattle.std.proofs.lemmas.List.Edits.{length-swap}
use Rattle.std.proofs.lemmas.Option.{get_or_from_slice_get, same_Some, slice_get_within}
use Rattle.p3_util_dispatch.specs.Interleaved.{IsInterleaved}
use Rattle.p3_util_kernels.specs.Least.{AreOnceAmong, after_puts, after_swaps, places_put, places_swapped}
use Rattle.p3_util_dispatch.specs.PlacesOfParts.{NoPlaceInCommon}
use Rattle.p3_util_kernels.proofs.PlacesLemmas.Exchange.{slice_get-set_other, slice_get-set_same, slice_get-swap_first, slice_get-swap_other, slice_get-swap_second}
use Rattle.p3_util_kernels.proofs.PlacesLemmas.WrittenPlaces.{AreOnceAmong-cons, AreOnceAmong-nil, AreOnceAmong-split, AreOnceAmong-weaker}

-- What writes and exchanges have in common: a step has some places, changes no other place, and what it leaves at its
-- places depends only on what was at them. `once` says that it names no place twice.
pub record AreSteps {A S : Type 0} (after : List A → List S → List A) (places : List S → List ℕ) : Type 1 where
  pub one : List A → S → List A
  pub at : S → ℕ → Type 0
  pub once : S → Type 0
  pub hit : (s : S) (p : ℕ) → at s p ⊎ (at s p → ⊥)
  pub none : (xs : List A) → after xs [] ≡ xs
  pub more : (xs : List A) (s : S) (steps : List S) → after xs (s ∷ steps) ≡ after (one xs s) steps
  pub no_places : (P : ℕ → Type 0) → AreOnceAmong P (places [])
  pub split : (P : ℕ → Type 0) (s : S) (steps : List S) → AreOnceAmong P (places (s ∷ steps))
      → once s × ((p : ℕ) → at s p → P p) × AreOnceAmong (λ q. P q × ((p : ℕ) → at s p → p ≢ q)) (places steps)
  pub join : (P : ℕ → Type 0) (s : S) (steps : List S) → once s → ((p : ℕ) → at s p → P p)
      → AreOnceAmong (λ q. P q × ((p : ℕ) → at s p → p ≢ q)) (places steps) → AreOnceAmong P (places (s ∷ steps))
  pub same_length : (xs : List A) (s : S) → length (one xs s) ≡ length xs
  pub others : (xs : List A) (s : S) (p : ℕ) → (at s p → ⊥) → slice_get (one xs s) p ≡ slice_get xs p
  pub own : (xs ys : List A) (s : S) → length ys ≡ length xs → ((p : ℕ) → at s p → (p < length xs) × (slice_get xs p ≡ slice_get ys p))
      → (p : ℕ) → at s p → slice_get (one xs s) p ≡ slice_get (one ys s) p

pub puts-are : {A : Type 0} → AreSteps {A = A} after_puts places_put
unfolding after_puts places_put
puts-are = record {
  one = λ xs put. slice_set xs put.0 put.1;
  at = λ put p. p ≡ put.0;
  once = λ put. Unit {0};
  hit = λ put p. cases_eq p put.0;
  none = λ xs. refl;
  more = λ xs put steps. refl;
  no_places = AreOnceAmong-nil;
  split = λ P put steps h.
      let (here, rest) = AreOnceAmong-split P put.0 (places_put steps) h in
      (tt, λ p e. rw e here, AreOnceAmong-weaker _ _ (places_put steps) (λ q (is, away). (is, λ p e same. away (sym e ∙ same))) rest);
  join = λ P put steps once here rest.
      AreOnceAmong-cons P put.0 (places_put steps) (here put.0 refl) (AreOnceAmong-weaker _ _ (places_put steps) (λ q (is, away). (is, away put.0 refl)) rest);
  same_length = λ xs put. length-set xs put.0 put.1;
  others = λ xs put p away. slice_get-set_other xs put.0 p put.1 away;
  own = λ xs ys put len same p e.
      let inside : put.0 < length xs = (same put.0 refl).0 in
      rw e (slice_get-set_same xs put.0 put.1 inside ∙ sym (slice_get-set_same ys put.0 put.1 (omega (arith, len, inside))));
}

pub swaps-are : {A : Type 0} → AreSteps {A = A} after_swaps places_swapped
unfolding after_swaps places_swapped
swaps-are = record {
  one = λ xs pair. swap xs pair.0 pair.1;
  at = λ pair p. (p ≡ pair.0) ⊎ (p ≡ pair.1);
  once = λ pair. pair.0 ≢ pair.1;
  hit = λ pair p.
      elim (cases_eq p pair.0) [
        | inl first ↦ inl (inl first)
        | inr away ↦ elim (cases_eq p pair.1) [ inl second ↦ inl (inr second) | inr none ↦ inr (elim [ inl e ↦ away e | inr e ↦ none e ]) ]
      ];
  none = λ xs. refl;
  more = λ xs pair steps. refl;
  no_places = AreOnceAmong-nil;
  split = λ P pair steps h.
      let (first, then) = AreOnceAmong-split P pair.0 (pair.1 ∷ places_swapped steps) h in
      let ((second, differ), rest) = AreOnceAmong-split (λ q. P q × (pair.0 ≢ q)) pair.1 (places_swapped steps) then in (
        differ,
        λ p. elim [ inl e ↦ rw e first | inr e ↦ rw e second ],
        AreOnceAmong-weaker _ _ (places_swapped steps)
            (λ q ((is, away), away'). (is, λ p. elim [ inl e ↦ λ same. away (sym e ∙ same) | inr e ↦ λ same. away' (sym e ∙ same) ])) rest,
      );
  join = λ P pair steps differ here rest.
      AreOnceAmong-cons P pair.0 (pair.1 ∷ places_swapped steps) (here pair.0 (inl refl))
      (AreOnceAmong-cons (λ q. P q × (pair.0 ≢ q)) pair.1 (places_swapped steps) (here pair.1 (inr refl), differ)
      (AreOnceAmong-weaker _ _ (places_swapped steps) (λ q (is, away). ((is, away pair.0 (inl refl)), away pair.1 (inr refl))) rest));
  same_length = λ xs pair. length-swap xs pair.0 pair.1;
  others = λ xs pair p away. slice_get-swap_other xs pair.0 pair.1 p (λ e. away (inl e)) (λ e. away (inr e));
  own = λ xs ys pair len same.
      let (i, j) = pair in
      let first = same i (inl refl) in
      let second = same j (inr refl) in
      let hi : i < length ys = omega (arith, len, first.0) in
      let hj : j < length ys = omega (arith, len, second.0) in
      λ p. elim [
        | inl e ↦ rw e (slice_get-swap_first xs i j first.0 second.0 ∙ second.1 ∙ sym (slice_get-swap_first ys i j hi hj))
        | inr e ↦ rw e (slice_get-swap_second xs i j first.0 second.0 ∙ first.1 ∙ sym (slice_get-swap_second ys i j hi hj))
      ];
}

module _ {A S : Type 0} {after : List A → List S → List A} {places : List S → List ℕ} (are : AreSteps after places) where
  pub after-length : (steps : List S) (xs : List A) → length (after xs steps) ≡ length xs
  after-length [] xs = ap length (are.none xs)
  after-length (s ∷ steps) xs = ap length (are.more xs s steps) ∙ after-length steps (are.one xs s) ∙ are.same_length xs s

  -- all places of list k belong to part k, and each is named once
  abbrev pub StayIn : (part : ℕ → ℕ → Type 0) → List (List S) → Type 0
  StayIn part lists = (k : ℕ) (steps : List S) → slice_get lists k ≡ Some steps → AreOnceAmong (part k) (places steps)

  -- no place belongs to two parts
  abbrev pub HaveOwnPlaces : (part : ℕ → ℕ → Type 0) → Type 0
  HaveOwnPlaces part = (k l : ℕ) → k ≢ l → NoPlaceInCommon (part k) (part l)

  -- the first step of list k is taken; the lists without it have none of its places
  first-taken : (part : ℕ → ℕ → Type 0) → HaveOwnPlaces part → (lists : List (List S)) (k : ℕ) (s : S) (rest : List S) → StayIn part lists → slice_get lists k ≡ Some (s ∷ rest)
      → are.once s × ((p : ℕ) → are.at s p → part k p) × StayIn (λ l q. part l q × ((p : ℕ) → are.at s p → p ≢ q)) (slice_set lists k rest)
  first-taken part apart lists k s rest own e =
      let (once, here, then) = are.split (part k) s rest (own k (s ∷ rest) e) in (
        once,
        here,
        λ l steps f.
            elim (cases_eq l k) [
              | inl same ↦
                  let is : rest ≡ steps = same_Some rest steps (sym (slice_get-set_same lists k rest (slice_get_within lists k (s ∷ rest) e)) ∙ rw same at f) in
                  rw (same, ← is) then
              | inr other ↦
                  AreOnceAmong-weaker (part l) _ (places steps) (λ q at. (at, λ p own_place same. apart k l (λ e. other (sym e)) p (here p own_place) (rw same at)))
                  (own l steps (sym (slice_get-set_other lists k l rest other) ∙ f))
            ],
      )

  weaker : (part stronger : ℕ → ℕ → Type 0) (lists : List (List S)) → ((k p : ℕ) → stronger k p → part k p) → StayIn stronger lists → StayIn part lists
  weaker part stronger lists into own k steps e = AreOnceAmong-weaker (stronger k) (part k) (places steps) (into k) (own k steps e)

  -- an interleaving names each place once, too
  pub once-interleaved : (all : List S) (lists : List (List S)) (part : ℕ → ℕ → Type 0) → HaveOwnPlaces part → StayIn part lists → IsInterleaved lists all
      → AreOnceAmong (λ p. (k : ℕ) × part k p) (places all)
  unfolding IsInterleaved
  once-interleaved [] lists part apart own done = are.no_places (λ p. (k : ℕ) × part k p)
  once-interleaved (s ∷ all) lists part apart own (k, rest, e, next) =
      let (once, here, then) = first-taken part apart lists k s rest own e in
      are.join (λ p. (k : ℕ) × part k p) s all once (λ p at. (k, here p at))
      (AreOnceAmong-weaker _ _ (places all) (λ q (l, (at, away)). ((l, at), away))
      (once-interleaved all (slice_set lists k rest) (λ l q. part l q × ((p : ℕ) → are.at s p → p ≢ q)) (λ i j other p at at'. apart i j other p at.0 at'.0) then next))

  -- At the places of part k an interleaving leaves what list k alone would leave there.
  module _ (part : ℕ → ℕ → Type 0) (apart : HaveOwnPlaces part) (k n : ℕ) (below : (p : ℕ) → part k p → p < n) where
    same-at : (all : List S) (lists : List (List S)) (xs ys : List A) → length xs ≡ n → length ys ≡ n → StayIn part lists → IsInterleaved lists all
        → ((p : ℕ) → part k p → slice_get xs p ≡ slice_get ys p) → (p : ℕ) → part k p → slice_get (after xs all) p ≡ slice_get (after ys (get_or lists k [])) p
    unfolding IsInterleaved
    same-at [] lists xs ys len_xs len_ys own done same p h =
        let none : get_or lists k [] ≡ [] = elim (cases_lt k (length lists)) [ inl less ↦ done k [] less | inr past ↦ get_or_past lists k [] past ] in
        rw (none, are.none xs, are.none ys) (same p h)
    same-at (s ∷ all) lists xs ys len_xs len_ys own (j, rest, f, next) same p h =
        let (once, at_s, then) = first-taken part apart lists j s rest own f in
        let then_own = weaker part _ (slice_set lists j rest) (λ l q at. at.0) then in
        let then_len = are.same_length xs s ∙ len_xs in
        ap (λ zs. slice_get zs p) (are.more xs s all)
        ∙ elim (cases_eq j k) [
          | inl here ↦
              let of_k : (q : ℕ) → are.at s q → part k q = λ q a. rw here at (at_s q a) in
              let agree : (q : ℕ) → part k q → slice_get (are.one xs s) q ≡ slice_get (are.one ys s) q = λ q g.
              elim (are.hit s q) [
                | inl own_place ↦ are.own xs ys s (len_ys ∙ sym len_xs) (λ r a. (rw len_xs (below r (of_k r a)), same r (of_k r a))) q own_place
                | inr away ↦ are.others xs s q away ∙ same q g ∙ sym (are.others ys s q away)
              ] in
              let before : get_or lists k [] ≡ s ∷ rest = get_or_from_slice_get lists k (s ∷ rest) [] (rw here at f) in
              let then : get_or (slice_set lists j rest) k [] ≡ rest = rw here (get_or-set_same lists k rest [] (slice_get_within lists k (s ∷ rest) (rw here at f))) in
              rw (before, are.more ys s rest)
              (rw then at (same-at all (slice_set lists j rest) (are.one xs s) (are.one ys s) then_len (are.same_length ys s ∙ len_ys) then_own next agree p h))
          | inr other ↦
              let then : get_or (slice_set lists j rest) k [] ≡ get_or lists k [] = get_or-set_other lists j k rest [] (λ e. other (sym e)) in
              rw then at
              (same-at all (slice_set lists j rest) (are.one xs s) ys then_len len_ys then_own next (λ q g. are.others xs s q (λ a. apart j k other q (at_s q a) g) ∙ same q g) p h)
        ]

  -- The places of list k belong to part k, and its steps alone change them.
  module _ (part : ℕ → ℕ → Type 0) (apart : HaveOwnPlaces part) (xs : List A) (below : (k p : ℕ) → part k p → p < length xs) (lists : List (List S))
      (own : StayIn (λ k p. part k p × (slice_get xs p ≢ slice_get (after xs (get_or lists k [])) p)) lists) (all : List S) (is : IsInterleaved lists all) where
    pub of-part : (k p : ℕ) → part k p → slice_get (after xs all) p ≡ slice_get (after xs (get_or lists k [])) p
    of-part k = same-at part apart k (length xs) (below k) all lists xs xs refl refl (weaker part _ lists (λ k p at. at.0) own) is (λ q g. refl)

    -- so the interleaving changes each place that it names
    pub all-changed : AreOnceAmong (λ p. slice_get xs p ≢ slice_get (after xs all) p) (places all)
    all-changed =
        AreOnceAmong-weaker _ _ (places all) (λ p (k, (at, changed)) same. changed (same ∙ of-part k p at))
        (once-interleaved all lists (λ k p. part k p × (slice_get xs p ≢ slice_get (after xs (get_or lists k [])) p)) (λ i j other p at at'. apart i j other p at.0 at'.0) own is)

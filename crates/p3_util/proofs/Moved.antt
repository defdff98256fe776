-- Items are moved out of a list one after another: those before place k are gone, and those from
-- place k on are as they were.
use Rattle.std.proofs.Common.{ℕ, ◌≡◌, ◌+◌, ◌<◌, List, [], ◌∷◌, ◌++◌, length, get_or, set, take, drop, sym, ap, ◌∙◌, arith, append_assoc}
use Rattle.std.proofs.lemmas.List.{drop-drop, drop-set-lt, flat_map_more, get_or-drop, take_more}
use Rattle.p3_util.specs.Flat.{flat}

module _ {A : Type 0} where
  -- the item at place k is still the one of the original list
  same_item : (l old : List A) (k : ℕ) (d : A) → drop k l ≡ drop k old → get_or l k d ≡ get_or old k d
  same_item l old k d same =
      let at : k + 0 ≡ k = omega arith in
      ap (λ i. get_or l i d) (sym at) ∙ sym (get_or-drop k l 0 d) ∙ ap (λ t. get_or t 0 d) same ∙ get_or-drop k old 0 d ∙ ap (λ i. get_or old i d) at

  -- one more item has been moved
  pub left-more : (l old : List A) (k : ℕ) (y : A) → drop k l ≡ drop k old → drop (k + 1) (set l k y) ≡ drop (k + 1) old
  left-more l old k y same = drop-set-lt (k + 1) l k y (omega arith) ∙ sym (drop-drop 1 k l) ∙ ap (λ t. drop 1 t) same ∙ drop-drop 1 k old

  pub moved-more : (done before l old : List A) (k : ℕ) (x d : A) → drop k l ≡ drop k old → k < length old → done ≡ before ++ take k old → x ≡ get_or l k d
      → done ++ x ∷ [] ≡ before ++ take (k + 1) old
  moved-more done before l old k x d same within is item =
      let here : x ≡ get_or old k d = item ∙ same_item l old k d same in
      ap (λ t. t ++ x ∷ []) is ∙ append_assoc before (take k old) (x ∷ []) ∙
      ap (λ y. before ++ (take k old ++ y ∷ [])) here ∙ ap (λ t. before ++ t) (sym (take_more old k d within))

pub moved-more-rows : {A : Type 0} (done : List A) (l old : List (List A)) (k : ℕ) → drop k l ≡ drop k old → k < length old → done ≡ flat (take k old)
    → done ++ get_or l k [] ≡ flat (take (k + 1) old)
moved-more-rows done l old k same within is =
    let here : get_or l k [] ≡ get_or old k [] = same_item l old k [] same in
    ap (λ t. t ++ get_or l k []) is ∙ ap (λ y. flat (take k old) ++ y) here ∙ flat_map_more (λ row. row) [] (take k old) (get_or old k []) ∙
    ap flat (sym (take_more old k [] within))

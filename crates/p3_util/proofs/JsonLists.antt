-- The items of a JSON list that are read as elements, place by place, and that a value has only one
-- answer if `wants_memory` is false.
use Rattle.std.proofs.Common.{◌≡◌, ℕ, zero, suc, ◌+◌, ◌<◌, ◌≤◌, min, List, [], ◌∷◌, ◌++◌, length, get_or, set, take, map, Bool, Some, Ok, Err, Result, refl, sym, ap, ◌∙◌, slice_get, IsTrue, Option, None, subst, inl, inr, MatchOption, option_map, arith}
use Rattle.std.proofs.lemmas.List.{map_push, map_more, take_more_set, take_min, take_all}
use Rattle.std.proofs.lemmas.Option.{slice_get-map, slice_get_read, slice_get_within, get_or_from_slice_get}
use Rattle.serde_json.specs.Data.{Data, array}
use Rattle.serde_json.specs.Find.{as_array}
use Rattle.serde_json.specs.View.{view, items_of, items_view}
use Rattle.serde_json.specs.declared.value.Value.{Value}
use Rattle.std.proofs.lemmas.Bool.{cases_lt}
use Rattle.p3_util.specs.declared.array_serialization.ElementError.TheVariants.{Kind, Range, Float, Memory}
use Rattle.p3_util.specs.declared.array_serialization.ArrayError.{ArrayError}
use Rattle.p3_util.specs.declared.array_serialization.ArrayError.TheVariants.{NotArray, Element, Length}
use Rattle.p3_util.specs.JsonArray.{Refusal, listed, AreReadAs, IsListAnswer, IsArrayAnswer, IsSameOrMemory, IsCause}
use Rattle.p3_util.specs.declared.array_serialization.ElementError.{ElementError}
use Rattle.p3_util_kernels.proofs.PlacesLemmas.ListParts.{slice_get-take}

-- a list of data, made into the items of a value and back into a list
pub listed-items_of : (ds : List Data) → listed (items_of ds) ≡ ds
listed-items_of [] = refl
listed-items_of (d ∷ ds) = ap (λ es. d ∷ es) (listed-items_of ds)

-- the data of an item of a list
pub slice_get-view : (vs : List Value) (i : ℕ) (v : Value) → i < length vs → v ≡ get_or vs i v → slice_get (map view vs) i ≡ Some (view v)
slice_get-view vs i v within here = rw (slice_get-map view vs i, slice_get_read vs (length vs) i v refl within here)

-- if two lists of `Ok` values are equal, so are the values
pub same_elements : {T : Type 0} (xs ys : List T) → map {B = Result T Refusal} Ok xs ≡ map Ok ys → xs ≡ ys
same_elements [] [] e = refl
same_elements [] (y ∷ ys) e = cc
same_elements (x ∷ xs) [] e = cc
same_elements (x ∷ xs) (y ∷ ys) e = let h : xs ≡ ys = same_elements xs ys cc in cc

module _ {T : Type 0} (reading : Data → Result T Refusal) where
  -- one more item is read, and its element is stored at its place
  pub AreReadAs-more : (ds : List Data) (xs : List T) (i : ℕ) (d : Data) (x : T) → slice_get ds i ≡ Some d → i < length xs → AreReadAs reading (take i ds) (take i xs) → reading d ≡ Ok x → AreReadAs reading (take (i + 1) ds) (take (i + 1) (set xs i x))
  AreReadAs-more ds xs i d x here in_xs so_far now =
      let at_i = get_or_from_slice_get ds i d d here in
      let left = map_more reading ds i d (slice_get_within ds i d here) in
      let right : map {B = Result T Refusal} Ok (take (i + 1) (set xs i x)) ≡ map Ok (take i xs) ++ Ok x ∷ [] = ap (map Ok) (take_more_set xs i x in_xs) ∙ map_push Ok (take i xs) x in
      cc

  -- a loop that stops at n items or at the list's end
  pub AreReadAs-first : (ds : List Data) (xs : List T) (i n : ℕ) → i ≡ min n (length ds) → AreReadAs reading (take i ds) xs → AreReadAs reading (take n ds) xs
  AreReadAs-first ds xs i n is_min h = let same = ap (λ k. take k ds) is_min ∙ take_min n ds in ap (map reading) (sym same) ∙ h

  -- a loop that ran over the whole list and all places
  pub AreReadAs-whole : (ds : List Data) (xs : List T) (i : ℕ) → length ds ≤ i → length xs ≤ i → AreReadAs reading (take i ds) (take i xs) → AreReadAs reading ds xs
  AreReadAs-whole ds xs i all_items all_places h = let items = take_all i ds all_items in let places = take_all i xs all_places in cc

  -- an item that is among those that were read
  pub read_at : (ds : List Data) (xs : List T) (i : ℕ) (d : Data) → AreReadAs reading ds xs → slice_get ds i ≡ Some d → (x : T) × (reading d ≡ Ok x)
  read_at [] xs i d all here = absurd cc
  read_at (e ∷ ds) [] i d all here = absurd cc
  read_at (e ∷ ds) (x ∷ xs) zero d all here = (x, cc)
  read_at (e ∷ ds) (x ∷ xs) (suc i) d all here = read_at ds xs i d (cc) here

  -- If all items are read and there are as many of them as elements, the answer is either these
  -- elements or that memory ran out.
  IsSameOrMemory-from_answer : (wants_memory : Bool) (n : ℕ) (ds : List Data) (xs : List T) (r : Result (List T) ArrayError) → AreReadAs reading ds xs → length ds ≡ n → IsListAnswer reading wants_memory n ds r → IsSameOrMemory wants_memory xs r
  IsSameOrMemory-from_answer wants_memory n ds xs (Ok ys) all long answer = same_elements ys xs cc
  IsSameOrMemory-from_answer wants_memory n ds xs (Err NotArray) all long answer = answer
  IsSameOrMemory-from_answer wants_memory n ds xs (Err (Length got)) all long answer = answer.2 cc
  IsSameOrMemory-from_answer wants_memory n ds xs (Err (Element i Memory)) all long answer = answer.2.2
  IsSameOrMemory-from_answer wants_memory n ds xs (Err (Element i Kind)) all long answer = let read = read_at ds xs i answer.2.0 all answer.2.1 in let e = read.1 in let refused = answer.2.2 in cc
  IsSameOrMemory-from_answer wants_memory n ds xs (Err (Element i Range)) all long answer = let read = read_at ds xs i answer.2.0 all answer.2.1 in let e = read.1 in let refused = answer.2.2 in cc
  IsSameOrMemory-from_answer wants_memory n ds xs (Err (Element i Float)) all long answer = let read = read_at ds xs i answer.2.0 all answer.2.1 in let e = read.1 in let refused = answer.2.2 in cc

  -- the answer for a value that is a list
  pub IsArrayAnswer-at_list : (wants_memory : Bool) (n : ℕ) (d : Data) (vs : List Value) (r : Result (List T) ArrayError) → Some (items_view vs) ≡ as_array d → IsListAnswer reading wants_memory n (map view vs) r → IsArrayAnswer reading wants_memory n d r
  IsArrayAnswer-at_list wants_memory n d vs r is_list answer = rw (← is_list, listed-items_of (map view vs)) answer

  -- the same, stated for the value whose items are the list
  pub IsSameOrMemory-from_array : (wants_memory : Bool) (n : ℕ) (d : Data) (ds : List Data) (xs : List T) (r : Result (List T) ArrayError) → d ≡ array (items_of ds) → AreReadAs reading ds xs → length ds ≡ n → IsArrayAnswer reading wants_memory n d r → IsSameOrMemory wants_memory xs r
  IsSameOrMemory-from_array wants_memory n d ds xs r is_list all long answer =
      IsSameOrMemory-from_answer wants_memory n ds xs r all long (rw (is_list, listed-items_of ds) at answer)

-- `wants_memory` is false
module _ {T : Type 0} (reading : Data → Result T Refusal) (wants_memory : Bool) (never : IsTrue wants_memory → ⊥) where
  -- an item that is read gives no cause for a refusal
  no_cause : (r : Result T Refusal) (x : T) (e : ElementError) → r ≡ Ok x → IsCause wants_memory r e → ⊥
  no_cause r x Kind is_read h = cc
  no_cause r x Range is_read h = cc
  no_cause r x Float is_read h = cc
  no_cause r x Memory is_read h = never h

  -- one reading gives at most one cause for a refusal
  one_cause : (r : Result T Refusal) (e f : ElementError) → IsCause wants_memory r e → IsCause wants_memory r f → e ≡ f
  one_cause r Kind Kind h k = refl
  one_cause r Range Range h k = refl
  one_cause r Float Float h k = refl
  one_cause r Kind Range h k = cc
  one_cause r Kind Float h k = cc
  one_cause r Range Kind h k = cc
  one_cause r Range Float h k = cc
  one_cause r Float Kind h k = cc
  one_cause r Float Range h k = cc
  one_cause r Memory f h k = absurd (never h)
  one_cause r Kind Memory h k = absurd (never k)
  one_cause r Range Memory h k = absurd (never k)
  one_cause r Float Memory h k = absurd (never k)

  -- if the first m items are read, none of them is refused
  not_before : (ds : List Data) (xs : List T) (m i : ℕ) (d : Data) (e : ElementError) → AreReadAs reading (take m ds) xs → i < m → slice_get ds i ≡ Some d → IsCause wants_memory (reading d) e → ⊥
  not_before ds xs m i d e all below here h =
      let read = read_at reading (take m ds) xs i d all (slice_get-take m ds i below ∙ here) in
      no_cause (reading d) read.0 e read.1 h

  module _ (n : ℕ) where
    -- two refusals are of the same item, since all items before a refused one are read
    one_refusal : (ds : List Data) (i j : ℕ) (e f : ElementError) → IsListAnswer reading wants_memory n ds (Err (Element i e)) → IsListAnswer reading wants_memory n ds (Err (Element j f)) → ◌≡◌ {A = Result (List T) ArrayError} (Err (Element i e)) (Err (Element j f))
    one_refusal ds i j e f h k =
        elim (cases_lt i j) [
          | inl before ↦ absurd (not_before ds k.1.0 j i h.2.0 e k.1.1 before h.2.1 h.2.2)
          | inr after ↦
              elim (cases_lt j i) [
                | inl before ↦ absurd (not_before ds h.1.0 i j k.2.0 f h.1.1 before k.2.1 k.2.2)
                | inr also_after ↦
                    let same_index : i ≡ j = omega arith in
                    let there : slice_get ds i ≡ Some k.2.0 = rw same_index k.2.1 in
                    let same_item : k.2.0 ≡ h.2.0 = (let found = h.2.1 in cc) in
                    let refused : IsCause wants_memory (reading h.2.0) f = subst (λ (d : Data). IsCause wants_memory (reading d) f) same_item k.2.2 in
                    let same_error = one_cause (reading h.2.0) e f h.2.2 refused in
                    cc
              ]
        ]

    one_list_answer : (ds : List Data) (r s : Result (List T) ArrayError) → IsListAnswer reading wants_memory n ds r → IsListAnswer reading wants_memory n ds s → r ≡ s
    one_list_answer ds (Ok xs) (Ok ys) h k = ap Ok (same_elements xs ys cc)
    one_list_answer ds (Ok xs) (Err (Length got)) h k = absurd (k.2 cc)
    one_list_answer ds (Ok xs) (Err (Element i e)) h k =
        let read = read_at reading ds xs i k.2.0 h.0 k.2.1 in
        absurd (no_cause (reading k.2.0) read.0 e read.1 k.2.2)
    one_list_answer ds (Err (Length got)) (Ok ys) h k = absurd (h.2 cc)
    one_list_answer ds (Err (Length got)) (Err (Length also)) h k = ap (λ l. Err (Length l)) (h.1 ∙ sym k.1)
    one_list_answer ds (Err (Length got)) (Err (Element i e)) h k = absurd (not_before ds h.0.0 n i k.2.0 e h.0.1 k.0 k.2.1 k.2.2)
    one_list_answer ds (Err (Element i e)) (Ok ys) h k =
        let read = read_at reading ds ys i h.2.0 k.0 h.2.1 in
        absurd (no_cause (reading h.2.0) read.0 e read.1 h.2.2)
    one_list_answer ds (Err (Element i e)) (Err (Length got)) h k = absurd (not_before ds k.0.0 n i h.2.0 e k.0.1 h.0 h.2.1 h.2.2)
    one_list_answer ds (Err (Element i e)) (Err (Element j f)) h k = one_refusal ds i j e f h k
    one_list_answer ds (Err NotArray) s h k = absurd h
    one_list_answer ds (Ok xs) (Err NotArray) h k = absurd k
    one_list_answer ds (Err (Length got)) (Err NotArray) h k = absurd k
    one_list_answer ds (Err (Element i e)) (Err NotArray) h k = absurd k

    one_match : (o : Option (List Data)) (r s : Result (List T) ArrayError) → MatchOption o (r ≡ Err NotArray) (λ ds. IsListAnswer reading wants_memory n ds r) → MatchOption o (s ≡ Err NotArray) (λ ds. IsListAnswer reading wants_memory n ds s) → r ≡ s
    one_match None r s h k = h ∙ sym k
    one_match (Some ds) r s h k = one_list_answer ds r s h k

-- a value has only one answer
pub only_answer : {T : Type 0} (reading : Data → Result T Refusal) (wants_memory : Bool) (n : ℕ) (d : Data) (r : Result (List T) ArrayError) → IsArrayAnswer reading wants_memory n d r → ¬ IsTrue wants_memory → (s : Result (List T) ArrayError) → IsArrayAnswer reading wants_memory n d s → s ≡ r
only_answer reading wants_memory n d r h never s k = one_match reading wants_memory never n (option_map listed (as_array d)) s r k h

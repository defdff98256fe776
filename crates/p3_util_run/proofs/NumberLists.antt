-- Lists of numbers as JSON: which values are not such lists, and that the text of such a list has no float.
use Rattle.std.proofs.Common.{◌≡◌, ℕ, ◌<◌, List, [], ◌∷◌, map, length, get_or, false, Some, None, Result, Ok, Err, IfOk, ap, subst, refl, sym, ◌∙◌, option_and_then, arith}
use Rattle.std.proofs.lemmas.List.{get_or-map, length-map}
use Rattle.serde_json.specs.Data.{Data}
use Rattle.serde_json.specs.Find.{as_array, as_number, as_u64}
use Rattle.serde_json.specs.View.{items_of}
use Rattle.serde_json.specs.Written.{compact_text, has_float, items_have_float}
use Rattle.p3_util_run.specs.Arrays.{array_of, number_of}

pub items_of_injective : (ds es : List Data) → items_of ds ≡ items_of es → ds ≡ es
items_of_injective [] [] h = refl
items_of_injective [] (e ∷ es) h = cc
items_of_injective (d ∷ ds) [] h = cc
items_of_injective (d ∷ ds) (e ∷ es) h =
    let first : d ≡ e = cc in let rest : items_of ds ≡ items_of es = cc in let more = items_of_injective ds es rest in cc

pub numbers_injective : (xs ys : List ℕ) → map number_of xs ≡ map number_of ys → xs ≡ ys
numbers_injective [] [] h = refl
numbers_injective [] (y ∷ ys) h = cc
numbers_injective (x ∷ xs) [] h = cc
numbers_injective (x ∷ xs) (y ∷ ys) h =
    let first : x ≡ y = cc in let rest : map number_of xs ≡ map number_of ys = cc in let more = numbers_injective xs ys rest in cc

-- no two different lists are written as the same array
pub array_of_injective : (xs ys : List ℕ) → array_of xs ≡ array_of ys → xs ≡ ys
array_of_injective xs ys h =
    let e : items_of (map number_of xs) ≡ items_of (map number_of ys) = cc in numbers_injective xs ys (items_of_injective _ _ e)

pub numbers_have_no_float : (xs : List ℕ) → items_have_float (items_of (map number_of xs)) ≡ false
numbers_have_no_float [] = refl
numbers_have_no_float (x ∷ xs) = numbers_have_no_float xs

-- an item that is not an unsigned number is in no list of numbers
pub refused_item : {A : Type 0} → (view : A → Data) (items : List A) (xs : List ℕ) (i : ℕ) (it : A) → i < length items → it ≡ get_or items i it
    → None ≡ option_and_then as_u64 (as_number (view it)) → map view items ≡ map number_of xs → ⊥
refused_item view items xs i it in_range here none same =
    let as_long : i < length xs = omega (arith, ap length same, length-map items view, length-map xs number_of) in
    let seen : view it ≡ get_or (map view items) i (view it) = ap view here ∙ sym (get_or-map view items i it (view it) in_range) in
    let read : view it ≡ number_of (get_or xs i 0) =
    seen ∙ (ap (λ ds. get_or ds i (view it)) same ∙ get_or-map number_of xs i 0 (view it) as_long) in
    let is_none : Data → Type 0 = λ d. None ≡ option_and_then as_u64 (as_number d) in
    let bad : None ≡ Some (get_or xs i 0) = subst is_none read none in
    cc

-- the items of a value's array, if the value is the array of some numbers
pub items_of_numbers : (ds : List Data) (d : Data) (xs : List ℕ) → Some (items_of ds) ≡ as_array d → d ≡ array_of xs → ds ≡ map number_of xs
items_of_numbers ds d xs items is =
    let e : Some (items_of ds) ≡ Some (items_of (map number_of xs)) = items ∙ ap as_array is in
    let inner : items_of ds ≡ items_of (map number_of xs) = cc in
    items_of_injective _ _ inner

-- the text of an array of numbers
pub text_of_numbers : {T E : Type 0} → (bytes : T → List ℕ) (d : Data) (xs : List ℕ) (r : Result T E) → d ≡ array_of xs
    → IfOk r (λ text. has_float d ≡ false → bytes text ≡ compact_text d) → IfOk r (λ text. bytes text ≡ compact_text (array_of xs))
text_of_numbers bytes d xs (Ok text) same written =
    let is_text : Data → Type 0 = λ e. has_float e ≡ false → bytes text ≡ compact_text e in
    let exact : is_text (array_of xs) = subst is_text same written in
    exact (numbers_have_no_float xs)
text_of_numbers bytes d xs (Err e) same written = tt

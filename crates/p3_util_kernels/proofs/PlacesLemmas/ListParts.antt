-- Joined lists and lists that are cut in two: which item is at each place.
use Rattle.std.proofs.Common.{◌≡◌, ℕ, ◌+◌, ◌-◌, ◌<◌, ◌≤◌, ◌⊎◌, List, ◌++◌, length, slice_get, take, drop, length-append, length-drop, inl, inr, ◌∙◌, length-take, arith}
use Rattle.std.proofs.lemmas.Grind.{common_steps}
use Rattle.std.proofs.lemmas.Option.{gets}

pub slice_get-append_left : {A : Type 0} (xs ys : List A) (p : ℕ) → p < length xs → slice_get (xs ++ ys) p ≡ slice_get xs p
slice_get-append_left xs ys p h = grind (arith, common_steps, gets)

pub slice_get-append_right : {A : Type 0} (xs ys : List A) (p q : ℕ) → p ≡ length xs + q → slice_get (xs ++ ys) p ≡ slice_get ys q
slice_get-append_right xs ys p q e = grind (arith, common_steps, gets)

pub slice_get-take : {A : Type 0} (n : ℕ) (xs : List A) (p : ℕ) → p < n → slice_get (take n xs) p ≡ slice_get xs p
slice_get-take n xs p h = grind (arith, common_steps, gets)

pub slice_get-drop : {A : Type 0} (n : ℕ) (xs : List A) (p q : ℕ) → q ≡ n + p → slice_get (drop n xs) p ≡ slice_get xs q
slice_get-drop n xs p q e = grind (arith, common_steps, gets)

-- A list with the n items from place `at` on replaced by those of another list
module _ {A : Type 0} (at n : ℕ) (xs mid : List A) where
  abbrev spliced : List A
  spliced = take at xs ++ (mid ++ drop n (drop at xs))

  pub length-spliced : length mid ≡ n → at + n ≤ length xs → length spliced ≡ length xs
  length-spliced len room = omega (arith, len, length-append (take at xs) (mid ++ drop n (drop at xs)), length-append mid (drop n (drop at xs)), length-take at xs, length-drop at xs, length-drop n (drop at xs))

  -- a replaced item
  pub slice_get-spliced : (p r : ℕ) → length mid ≡ n → at + n ≤ length xs → r < n → p ≡ at + r → slice_get spliced p ≡ slice_get mid r
  slice_get-spliced p r len room h e =
      slice_get-append_right (take at xs) (mid ++ drop n (drop at xs)) p r (omega (arith, e, length-take at xs))
      ∙ slice_get-append_left mid (drop n (drop at xs)) r (omega (arith, len))

  -- an item that stays
  pub slice_get-beside : (p : ℕ) → length mid ≡ n → at + n ≤ length xs → (p < at) ⊎ (at + n ≤ p) → slice_get spliced p ≡ slice_get xs p
  slice_get-beside p len room (inl below) =
      slice_get-append_left (take at xs) (mid ++ drop n (drop at xs)) p (omega (arith, below, length-take at xs)) ∙ slice_get-take at xs p below
  slice_get-beside p len room (inr after) =
      slice_get-append_right (take at xs) (mid ++ drop n (drop at xs)) p (p - at) (omega (arith, after, length-take at xs))
      ∙ slice_get-append_right mid (drop n (drop at xs)) (p - at) (p - at - n) (omega (arith, len, after))
      ∙ slice_get-drop n (drop at xs) (p - at - n) (p - at) (omega (arith, after))
      ∙ slice_get-drop at xs (p - at) p (omega (arith, after))

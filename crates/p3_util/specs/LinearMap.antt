-- A map as the list of its pairs, in the order in which their keys were first inserted. The test `eq` compares keys,
-- and no two keys are equal. Source: the documentation and the tests of `LinearMap` of p3-util 0.8.0.
use Rattle.std.specs.Prelude.{Bool, List, [], ◌∷◌, ◌++◌, Option, is_some, fold, if◌then◌else◌}
use Rattle.std.specs.List.{IsDistinct}
use Rattle.std.specs.Map.{lookup, set_value, keys_of}

module _ {K V : Type 0} (eq : K → K → Bool) where
  -- no two pairs have keys that are equal by `eq`
  abbrev pub HasDistinctKeys : List (K × V) → Type 0
  HasDistinctKeys pairs = IsDistinct eq (keys_of pairs)

  -- the value of the pair whose key is equal to k, or `None` if there is no such pair
  abbrev pub value_at : List (K × V) → K → Option V
  value_at pairs k = lookup (eq k) pairs

  -- the pairs after v has become the value of the pair whose key is equal to k. That pair keeps its place and its key
  abbrev pub with_value : List (K × V) → K → V → List (K × V)
  with_value pairs k v = set_value (eq k) pairs v

  -- the pairs after k was given the value v. If a key is already equal to k, its pair keeps its
  -- place and that key, and only the value changes. Otherwise a new pair is added at the end
  abbrev pub put : List (K × V) → K → V → List (K × V)
  put pairs k v = if is_some (value_at pairs k) then with_value pairs k v else pairs ++ (k, v) ∷ []

  -- the pairs after each pair of xs was inserted, in order, as by `put`
  abbrev pub put_all : List (K × V) → List (K × V) → List (K × V)
  put_all pairs xs = fold (λ done x. put done x.0 x.1) pairs xs

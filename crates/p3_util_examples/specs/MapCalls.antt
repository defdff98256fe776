-- What a list of calls on a map in insertion order returns and leaves, call by call.
use Rattle.std.specs.Prelude.{Bool, List, [], ◌∷◌, Option, Some, is_some, unwrap_or, fold, if◌then◌else◌}
use Rattle.p3_util.specs.LinearMap.{value_at, with_value, put}
use Rattle.p3_util_examples.specs.declared.linear_map.Call.{Call}
use Rattle.p3_util_examples.specs.declared.linear_map.Call.TheVariants.{Insert, Get, Write, GetOrInsert}

module _ {K V : Type 0} (eq : K → K → Bool) where
  -- What one call returns: the value that its key had before the call. `GetOrInsert` returns the
  -- value that the key has from then on.
  abbrev pub answer_of : List (K × V) → Call K V → Option V
  answer_of pairs (Insert k v) = value_at eq pairs k
  answer_of pairs (Get k) = value_at eq pairs k
  answer_of pairs (Write k v) = value_at eq pairs k
  answer_of pairs (GetOrInsert k v) = Some (unwrap_or (value_at eq pairs k) v)

  -- the pairs after one call
  abbrev pub after : List (K × V) → Call K V → List (K × V)
  after pairs (Insert k v) = put eq pairs k v
  after pairs (Get k) = pairs
  after pairs (Write k v) = if is_some (value_at eq pairs k) then with_value eq pairs k v else pairs
  after pairs (GetOrInsert k v) = put eq pairs k (unwrap_or (value_at eq pairs k) v)

  -- the pairs after all calls, in order
  abbrev pub pairs_after : List (K × V) → List (Call K V) → List (K × V)
  pairs_after pairs calls = fold after pairs calls

  -- what all calls return, in order
  abbrev pub answers_of : List (K × V) → List (Call K V) → List (Option V)
  answers_of pairs [] = []
  answers_of pairs (call ∷ calls) = answer_of pairs call ∷ answers_of (after pairs call) calls

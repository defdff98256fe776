-- An array as a JSON list: how it is written, and how a value is read.
-- Source: the documentation and the tests of `array_serialization` of p3-util 0.8.0.
use Rattle.std.specs.Prelude.{ℕ, ◌≡◌, ◌≢◌, ◌<◌, List, [], ◌∷◌, length, map, take, Bool, IsTrue, Some, Result, Ok, Err, MatchOption, option_map, slice_get}
use Rattle.serde_json.specs.Data.{Data, Items, no_items, item}
use Rattle.serde_json.specs.Find.{as_array}
use Rattle.p3_util.specs.declared.array_serialization.ElementError.{ElementError}
use Rattle.p3_util.specs.declared.array_serialization.ElementError.TheVariants.{Kind, Range, Float, Memory}
use Rattle.p3_util.specs.declared.array_serialization.ArrayError.{ArrayError}
use Rattle.p3_util.specs.declared.array_serialization.ArrayError.TheVariants.{NotArray, Element, Length}

-- why a JSON value is not an element of a type: because of its kind or its range, or because it is a float
pub data Refusal : Type 0 where
  wrong_kind : Refusal
  out_of_range : Refusal
  a_float : Refusal

-- the items of a JSON list, in order
abbrev pub listed : Items → List Data
listed no_items = []
listed (item d ds) = d ∷ listed ds

module _ {T : Type 0} (wants_memory : Bool) where
  -- the error has its cause in how one value was read. Out of memory occurs only for a type that may need memory
  abbrev pub IsCause : Result T Refusal → ElementError → Type 0
  IsCause r Kind = r ≡ Err wrong_kind
  IsCause r Range = r ≡ Err out_of_range
  IsCause r Float = r ≡ Err a_float
  IsCause r Memory = IsTrue wants_memory

  -- what may be returned when one JSON value is read: the element, the error for its `Refusal`, or,
  -- if the type may need memory, the error that memory ran out
  abbrev pub IsElementAnswer : Result T Refusal → Result T ElementError → Type 0
  IsElementAnswer r (Ok x) = r ≡ Ok x
  IsElementAnswer r (Err e) = IsCause r e

module _ {T : Type 0} (reading : Data → Result T Refusal) where
  -- the items are read as these elements, one by one
  abbrev pub AreReadAs : List Data → List T → Type 0
  AreReadAs ds xs = map reading ds ≡ map Ok xs

  module _ (wants_memory : Bool) (n : ℕ) where
    -- What may be returned when a JSON list is read as n elements. It is the first of these that
    -- applies: the error that names the first item, among the first n, that was not read, with its
    -- cause; the error for a wrong length; the elements.
    abbrev pub IsListAnswer : List Data → Result (List T) ArrayError → Type 0
    IsListAnswer ds (Err NotArray) = ⊥
    IsListAnswer ds (Err (Element i e)) = (i < n) × ((xs : List T) × AreReadAs (take i ds) xs) × ((d : Data) × (slice_get ds i ≡ Some d) × IsCause wants_memory (reading d) e)
    IsListAnswer ds (Err (Length got)) = ((xs : List T) × AreReadAs (take n ds) xs) × (got ≡ length ds) × (got ≢ n)
    IsListAnswer ds (Ok xs) = AreReadAs ds xs × (length ds ≡ n)

    -- r may be returned when the JSON value d is read as an array of n elements. It is the first of these that applies:
    -- the error that d is not a list; the error that names the first item, among the first n, that was not read, with
    -- its cause; the error for a wrong length; the elements.
    abbrev pub IsArrayAnswer : Data → Result (List T) ArrayError → Type 0
    IsArrayAnswer d r = MatchOption (option_map listed (as_array d)) (r ≡ Err NotArray) (λ ds. IsListAnswer ds r)

-- `IsSameOrMemory wants_memory xs r` says that r has the elements xs, or, if the type may need
-- memory, that memory ran out at some element
abbrev pub IsSameOrMemory : {T : Type 0} → Bool → List T → Result (List T) ArrayError → Type 0
IsSameOrMemory wants_memory xs (Ok ys) = ys ≡ xs
IsSameOrMemory wants_memory xs (Err (Element i Memory)) = IsTrue wants_memory
IsSameOrMemory wants_memory xs (Err e) = ⊥

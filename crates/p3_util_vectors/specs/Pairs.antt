-- A JSON list of two numbers as one element, of a type that the tests define.
use Rattle.std.specs.Prelude.{ℕ, Result, Ok, Err}
use Rattle.serde_json.specs.Data.{Data, number, array, unsigned, Items, no_items, item}
use Rattle.p3_util.specs.JsonArray.{Refusal, wrong_kind}

module _ {T : Type 0} (make : ℕ → ℕ → T) where
  -- the pair of a and the number that is the only item of a list, and no other value
  abbrev pub from_second : ℕ → Items → Result T Refusal
  from_second a (item (number (unsigned b)) no_items) = Ok (make a b)
  from_second a _ = Err wrong_kind

  -- the pair of the two numbers that are the items of a list, and no other value
  abbrev pub from_first : Items → Result T Refusal
  from_first (item (number (unsigned a)) ds) = from_second a ds
  from_first _ = Err wrong_kind

  -- the pair of two numbers, and no other value
  abbrev pub pair_reading : Data → Result T Refusal
  pair_reading (array ds) = from_first ds
  pair_reading _ = Err wrong_kind

-- the answer after a function is applied to it, or the same refusal
abbrev pub map_ok : {A B E : Type 0} → (A → B) → Result A E → Result B E
map_ok f (Ok x) = Ok (f x)
map_ok f (Err e) = Err e

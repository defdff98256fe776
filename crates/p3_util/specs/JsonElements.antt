-- The four element types, and how one JSON value is read as each of them.
-- Source: new, since the original accepts any type of serde.
use Rattle.std.specs.Prelude.{ℕ, ◌^◌, ℤ, pos, negsuc, Bool, nat_lt, Option, Some, None, Result, Ok, Err, if◌then◌else◌}
use Rattle.std.specs.Option.{ok_or}
use Rattle.serde_json.specs.Data.{Data, null, boolean, number, string, array, object}
use Rattle.serde_json.specs.Find.{as_integer, is_float}
use Rattle.p3_util.specs.JsonArray.{Refusal, wrong_kind, out_of_range, a_float}

-- the integer that a value is. A JSON number that is neither a u64 nor an i64 is a float
abbrev pub whole_number : Data → Result ℤ Refusal
whole_number null = Err wrong_kind
whole_number (boolean b) = Err wrong_kind
whole_number (number x) = ok_or (as_integer x) a_float
whole_number (string s) = Err wrong_kind
whole_number (array ds) = Err wrong_kind
whole_number (object ms) = Err wrong_kind

-- the integer as a value of the type, if the type has it. `has` is the type's function from integers
abbrev pub in_type : {T : Type 0} → (ℤ → Option T) → Result ℤ Refusal → Result T Refusal
in_type has (Ok z) = ok_or (has z) out_of_range
in_type has (Err r) = Err r

-- an integer of an unsigned type of `bits` bits
abbrev pub unsigned_of : ℕ → ℤ → Option ℕ
unsigned_of bits (pos n) = if nat_lt n (2 ^ bits) then Some n else None
unsigned_of bits (negsuc n) = None

-- an i64; `negsuc n` is - n - 1
abbrev pub i64_of : ℤ → Option ℤ
i64_of (pos n) = if nat_lt n (2 ^ 63) then Some (pos n) else None
i64_of (negsuc n) = if nat_lt n (2 ^ 63) then Some (negsuc n) else None

-- the JSON value d as a `u32`, or the `Refusal` that says why it is none
abbrev pub u32_reading : Data → Result ℕ Refusal
u32_reading d = in_type (unsigned_of 32) (whole_number d)

-- the JSON value d as a `u64`, or the `Refusal` that says why it is none
abbrev pub u64_reading : Data → Result ℕ Refusal
u64_reading d = in_type (unsigned_of 64) (whole_number d)

-- the JSON value d as an `i64`, or the `Refusal` that says why it is none
abbrev pub i64_reading : Data → Result ℤ Refusal
i64_reading d = in_type i64_of (whole_number d)

-- `bool_reading d` is the JSON value d as a `bool`, or the `Refusal` that says why it is none
abbrev pub bool_reading : Data → Result Bool Refusal
bool_reading null = Err wrong_kind
bool_reading (boolean b) = Ok b
bool_reading (number x) = Err (if is_float x then a_float else wrong_kind)
bool_reading (string s) = Err wrong_kind
bool_reading (array ds) = Err wrong_kind
bool_reading (object ms) = Err wrong_kind

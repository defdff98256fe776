-- Lemmas for callers, under the names that `#[tactic(auto, using(..))]` takes.
use Rattle.std.proofs.Common.{◌≡◌, ◌≢◌, ℕ, zero, suc, ◌+◌, ◌-◌, ◌*◌, ◌/◌, ◌%◌, ◌^◌, ◌<◌, ◌≤◌, inl, inr, Bool, true, false, cond, is_some, IsSome, nat_eq, Some, None, List, [], ◌∷◌, ◌++◌, length, min, get_or, slice_get, replicate, refl, sym, ap, ◌∙◌, zero-add, pow_mono, zip, arith}
use Rattle.std.proofs.lemmas.Bool.{cases_lt, ne_eqb}
use Rattle.std.proofs.lemmas.Map.{lookup-set_value}
use Rattle.std.proofs.lemmas.Nat.{div-mul-add, mod-mul-add, pow-add}
use Rattle.std.proofs.lemmas.Slice.Zip.{length-zip}
use Rattle.std.proofs.Math.Nat.{mod-add-div'}
use Rattle.std.proofs.Math.Path.{fun_ext}
use Rattle.std.specs.Cmp.{IsEquivalence, nat_eq_equiv}
use Rattle.std.specs.Int.{is_power_of_two}
use Rattle.std.specs.Map.{lookup}
use Rattle.p3_util_kernels.specs.Digits.{rev}
use Rattle.p3_util_kernels.specs.Levels.{lev}
use Rattle.p3_util_kernels.specs.Logarithms.{clog}
use Rattle.p3_util_kernels.specs.Powers.{HasLog2}
use Rattle.p3_util_kernels.specs.Reversal.{IsReversal, IsReversible, IsRowReversal, IsZeroOrPowerOfTwo}
use Rattle.p3_util_kernels.specs.Square.{IsSquareTransposed}
use Rattle.p3_util_kernels.specs.Transpose.{IsTranspose}
use Rattle.p3_util_kernels.proofs.BitsLemmas.Digits.{rev-lt, rev-parts, rev-rev-below, rev-shl, rev-suc, rev-zero}
use Rattle.p3_util_kernels.proofs.BitsLemmas.Logarithms.{clog_power}
use Rattle.p3_util_kernels.proofs.BitsLemmas.Powers.{power_of_two_test as power_test}
use Rattle.p3_util_kernels.proofs.PlacesLemmas.ListParts.{slice_get-append_left, slice_get-append_right}
use Rattle.p3_util_kernels.proofs.PlacesLemmas.SameList.{same_places}
use Rattle.p3_util_kernels.proofs.ReverseLemmas.Lengths.{zero_or_power}
use Rattle.p3_util_kernels.proofs.ReverseLemmas.Reversal.{IsReversal-from_power, IsReversal-unique, IsRowReversal-unique, reversed_place, row_reversed_back}
use Rattle.p3_util_kernels.proofs.TransposeLemmas.Levels.{lev_le}
use Rattle.p3_util_kernels.proofs.TransposeLemmas.Matrix.{IsTranspose-unique, transpose_turned}
use Rattle.p3_util.specs.LinearMap.{put, value_at, with_value}

-- the k low digits of a number, reversed, are a number of k digits
pub rev_below : (k x : ℕ) → rev k x < 2 ^ k
rev_below k x = rev-lt k x

-- a number of k digits, reversed twice, is the same number
pub rev_twice : (k x : ℕ) → x < 2 ^ k → rev k (rev k x) ≡ x
rev_twice k x h = rev-rev-below k x h

-- the logarithm of a power of two
pub log_of_power : (n k : ℕ) → n ≡ 2 ^ k → clog n ≡ k
log_of_power n k e = clog_power n k e

-- a number that passes std's test has a logarithm
pub power_of_two_test : (n : ℕ) → is_power_of_two n ≡ true → HasLog2 n
power_of_two_test n tested = inl ((power_test n).0 tested)

-- the row and the column of a place of a matrix
pub place_row : (width row column : ℕ) → column < width → (row * width + column) / width ≡ row
place_row width row column h = div-mul-add row width column h

pub place_column : (width row column : ℕ) → column < width → (row * width + column) % width ≡ column
place_column width row column h = mod-mul-add row width column h

-- the splits of a region of a matrix nest at most 57 levels deep
pub levels_most : (r c : ℕ) → r < 2 ^ 64 → c < 2 ^ 64 → r * c < 2 ^ 64 → lev r c ≤ 57
levels_most r c tall wide fits = lev_le r c tall wide fits

-- how many pairs two lists have
pub length_zip : {A B : Type 0} (xs : List A) (ys : List B) → length (zip xs ys) ≡ min (length xs) (length ys)
length_zip xs ys = length-zip xs ys

-- The condition on the length is the last argument, and of two transposes the second one is the first
-- argument: in this order the search finds the lists.
module _ {A : Type 0} where
  -- a list that is reversed twice is as it was
  pub reversed_twice : (old mid new : List A) → IsReversal old mid → IsReversal mid new → IsReversible (length old) → new ≡ old
  reversed_twice old mid new first second fits =
      IsReversal-unique mid new old (zero_or_power (length mid) (rw first.same_length fits)) second (row_reversed_back 1 old mid first)

  -- the same for the rows of a list
  pub rows_reversed_twice : (row_width rows : ℕ) (old mid new : List A) → IsRowReversal row_width old mid → IsRowReversal row_width mid new
      → length old ≡ row_width * rows → IsZeroOrPowerOfTwo rows → new ≡ old
  rows_reversed_twice row_width rows old mid new first second len fits =
      IsRowReversal-unique row_width mid new old (rows, fits, first.same_length ∙ len) second (row_reversed_back row_width old mid first)

  -- a list is reversed if it has at each place the item that was at the reverse of the place
  pub reversed_by_places : (k : ℕ) (old new : List A) → length new ≡ length old → length old ≡ 2 ^ k
      → ((i : ℕ) → i < 2 ^ k → slice_get new i ≡ slice_get old (rev k i)) → IsReversal old new
  reversed_by_places k old new same len at = IsReversal-from_power k old new len same (λ i h. at i (omega arith))

  -- the items at the places 2i and 2i + 1, which come from one half and from the other
  pub reversed_even : (k i : ℕ) (old new : List A) → IsReversal old new → length old ≡ 2 ^ (k + 1) → i < 2 ^ k → slice_get new (2 * i) ≡ slice_get old (rev k i)
  reversed_even k i old new reversal e h =
      let double : 2 * i ≡ i * 2 ^ 1 = omega arith in
      reversed_place (k + 1) (2 * i) old new reversal e (omega (arith, pow-add 2 k 1)) ∙ ap (slice_get old) (rw double (rev-shl k 1 i))

  pub reversed_odd : (k i : ℕ) (old new : List A) → IsReversal old new → length old ≡ 2 ^ (k + 1) → i < 2 ^ k
      → slice_get new (2 * i + 1) ≡ slice_get old (rev k i + 2 ^ k)
  reversed_odd k i old new reversal e h =
      let double : 2 * i + 1 ≡ i * 2 ^ 1 + 1 = omega arith in
      let one : rev 1 1 ≡ 1 = rw (rev-suc 0 1, rev-zero 1) refl in
      let halves : rev (k + 1) (2 * i + 1) ≡ rev k i + 2 ^ k = rw (double, rev-parts k 1 i 1 (omega arith), one) (omega arith) in
      reversed_place (k + 1) (2 * i + 1) old new reversal e (omega (arith, pow-add 2 k 1)) ∙ ap (slice_get old) halves

  -- a list that is transposed there and back is as it was
  pub transposed_back : (width height : ℕ) (old mid new : List A) → IsTranspose width height mid new → IsTranspose height width old mid
      → length old ≡ height * width → new ≡ old
  transposed_back width height old mid new second first fits = IsTranspose-unique width height mid new old second (transpose_turned height width old mid fits first)

  -- a square that is the whole list is transposed as a matrix
  pub whole_square : (k : ℕ) (old new : List A) → IsSquareTransposed 0 k k old new → length old ≡ 2 ^ k * 2 ^ k → IsTranspose (2 ^ k) (2 ^ k) old new
  whole_square k old new square len = record {
    same_length = square.same_length ∙ len;
    places = λ x y hx hy. simp zero-add at (square.places x y hx hy);
  }

-- The row and the column of a place of a square.
module _ {A : Type 0} (base log_stride log_size : ℕ) (old mid new : List A) where
  row : ℕ → ℕ
  row k = (k - base) / 2 ^ log_stride

  column : ℕ → ℕ
  column k = (k - base) % 2 ^ log_stride

  found : log_size ≤ log_stride → (k a b : ℕ) → a < 2 ^ log_size → b < 2 ^ log_size → k ≡ base + a * 2 ^ log_stride + b → (row k ≡ a) × (column k ≡ b)
  unfolding row column
  found apart k a b ha hb e =
      let stride : 2 ^ log_size ≤ 2 ^ log_stride = pow_mono apart in
      let place : k - base ≡ a * 2 ^ log_stride + b = omega arith in
      (rw place (div-mul-add a (2 ^ log_stride) b (omega arith)), rw place (mod-mul-add a (2 ^ log_stride) b (omega arith)))

  whole : (k : ℕ) → base ≤ k → base + row k * 2 ^ log_stride + column k ≡ k
  unfolding row column
  whole k from = omega (arith, mod-add-div' (k - base) (2 ^ log_stride))

  -- a square that is transposed twice in place is as it was
  pub square_back : IsSquareTransposed base log_stride log_size mid new → IsSquareTransposed base log_stride log_size old mid
      → log_size ≤ log_stride → new ≡ old
  square_back second first apart =
      let outside : (k : ℕ) → (row k < 2 ^ log_size → column k < 2 ^ log_size → k ≡ base + row k * 2 ^ log_stride + column k → ⊥) → slice_get new k ≡ slice_get old k = λ k out.
      let other : (a b : ℕ) → a < 2 ^ log_size → b < 2 ^ log_size → k ≢ base + a * 2 ^ log_stride + b = λ a b ha hb e.
      let at = found apart k a b ha hb e in
      out (rw at.0 ha) (rw at.1 hb) (rw (at.0, at.1) e) in
      second.others k other ∙ first.others k other in
      same_places new old (second.same_length ∙ first.same_length) (λ k _. elim (cases_lt (row k) (2 ^ log_size)) [
        | inr far ↦ outside k (λ ha hb e. omega arith)
        | inl ha ↦ elim (cases_lt (column k) (2 ^ log_size)) [
          | inr far ↦ outside k (λ ha hb e. omega arith)
          | inl hb ↦ elim (cases_lt k base) [
            | inl before ↦ outside k (λ ha hb e. omega arith)
            | inr from ↦
                let there = whole k from in
                rw there at (second.places (row k) (column k) ha hb ∙ first.places (column k) (row k) hb ha)
          ]
        ]
      ])

-- what a padded list has at a place: `padded_read`
module _ {A : Type 0} (fill : A) where
  fill_read : (n i : ℕ) → get_or (replicate n fill) i fill ≡ fill
  fill_read zero i = refl
  fill_read (suc n) zero = refl
  fill_read (suc n) (suc i) = fill_read n i

  fill_place : (n i : ℕ) → i < n → slice_get (replicate n fill) i ≡ Some fill
  fill_place zero i h = absurd (omega arith)
  fill_place (suc n) zero h = refl
  fill_place (suc n) (suc i) h = fill_place n i (omega arith)

  pub padded_index : (xs : List A) (n i : ℕ) → get_or (xs ++ replicate n fill) i fill ≡ get_or xs i fill
  padded_index [] n i = fill_read n i
  padded_index (x ∷ xs) n zero = refl
  padded_index (x ∷ xs) n (suc i) = padded_index xs n i

  pub padded_inside : (xs : List A) (n i : ℕ) → i < length xs → slice_get (xs ++ replicate n fill) i ≡ slice_get xs i
  padded_inside xs n i = slice_get-append_left xs (replicate n fill) i

  pub padded_beyond : (xs : List A) (n i : ℕ) → length xs ≤ i → i < length xs + n → slice_get (xs ++ replicate n fill) i ≡ Some fill
  padded_beyond xs n i from to =
      slice_get-append_right xs (replicate n fill) i (i - length xs) (omega arith) ∙ fill_place n (i - length xs) (omega arith)

pub ruleset padded_read = (padded_index, padded_inside, padded_beyond)

-- A pair that was added last is found if its key passes and no other key does. If its key does not
-- pass, the look-up finds what it found before.
lookup_push : {K V : Type 0} (test : K → Bool) (es : List (K × V)) (k : K) (v : V) → (test k ≡ true → lookup test es ≡ None)
    → lookup test (es ++ (k, v) ∷ []) ≡ cond (test k) (Some v) (lookup test es)
lookup_push test [] k v absent = refl
lookup_push test (e ∷ es) k v absent =
    elim (test e.0) as (λ b. (test k ≡ true → cond b (Some e.1) (lookup test es) ≡ None)
    → cond b (Some e.1) (lookup test (es ++ (k, v) ∷ [])) ≡ cond (test k) (Some v) (cond b (Some e.1) (lookup test es))) [
      | true ↦ λ h. elim (test k) as (λ b. (b ≡ true → Some e.1 ≡ None) → Some e.1 ≡ cond b (Some v) (Some e.1)) [ true ↦ λ g. absurd (let n = g refl in cc) | false ↦ λ g. refl ] h
      | false ↦ λ h. lookup_push test es k v h
    ] absent

-- what a look-up finds after `insert`, and after a write through `get_mut`, which writes only if it finds
-- the key: `put_found` and `put_others`
module _ {K V : Type 0} {eq : K → K → Bool} (laws : IsEquivalence eq) where
  lookup_put : (es : List (K × V)) (k : K) (v : V) (q : K) → value_at eq (put eq es k v) q ≡ cond (eq k q) (Some v) (value_at eq es q)
  lookup_put es k v q =
      elim (value_at eq es k) as (λ o. value_at eq es k ≡ o → value_at eq (cond (is_some o) (with_value eq es k v) (es ++ (k, v) ∷ [])) q ≡ cond (eq k q) (Some v) (value_at eq es q)) [
        | Some w ↦ λ known. lookup-set_value laws (eq k) (λ x y same. laws.congr k x y same) q v es (rw known refl)
        | None ↦ λ absent.
            let same : eq q k ≡ true → value_at eq es q ≡ None = λ equal. ap (λ t. lookup t es) (fun_ext (λ z. laws.congr q k z equal)) ∙ absent in
            rw (laws.symm q k) at (lookup_push (eq q) es k v same)
      ] refl

  pub key_found : (pairs : List (K × V)) (k : K) (v : V) → value_at eq (put eq pairs k v) k ≡ Some v
  key_found pairs k v = lookup_put pairs k v k ∙ rw (laws.refl k) refl

  pub key_others : (pairs : List (K × V)) (k : K) (v : V) (q : K) → eq k q ≡ false → value_at eq (put eq pairs k v) q ≡ value_at eq pairs q
  key_others pairs k v q apart = lookup_put pairs k v q ∙ rw apart refl

  pub key_written : (pairs : List (K × V)) (k : K) (v : V) → IsSome (value_at eq pairs k) → value_at eq (with_value eq pairs k v) k ≡ Some v
  key_written pairs k v some = rw some at (key_found pairs k v)

  pub key_unwritten : (pairs : List (K × V)) (k : K) (v : V) (q : K) → IsSome (value_at eq pairs k) → eq k q ≡ false
      → value_at eq (with_value eq pairs k v) q ≡ value_at eq pairs q
  key_unwritten pairs k v q some apart = rw some at (key_others pairs k v q apart)

-- the same for keys that are numbers
module _ {V : Type 0} where
  pub number_found : (pairs : List (ℕ × V)) (k : ℕ) (v : V) → value_at nat_eq (put nat_eq pairs k v) k ≡ Some v
  number_found = key_found nat_eq_equiv

  pub number_others : (pairs : List (ℕ × V)) (k : ℕ) (v : V) (q : ℕ) → q ≢ k → value_at nat_eq (put nat_eq pairs k v) q ≡ value_at nat_eq pairs q
  number_others pairs k v q apart = key_others nat_eq_equiv pairs k v q (ne_eqb k q (λ same. apart (sym same)))

  pub number_written : (pairs : List (ℕ × V)) (k : ℕ) (v : V) → IsSome (value_at nat_eq pairs k) → value_at nat_eq (with_value nat_eq pairs k v) k ≡ Some v
  number_written = key_written nat_eq_equiv

  pub number_unwritten : (pairs : List (ℕ × V)) (k : ℕ) (v : V) (q : ℕ) → IsSome (value_at nat_eq pairs k) → q ≢ k
      → value_at nat_eq (with_value nat_eq pairs k v) q ≡ value_at nat_eq pairs q
  number_unwritten pairs k v q some apart = key_unwritten nat_eq_equiv pairs k v q some (ne_eqb k q (λ same. apart (sym same)))

pub ruleset put_found = (key_found, number_found, key_written, number_written)

pub ruleset put_others = (key_others, number_others, key_unwritten, number_unwritten)

-- What a write or an exchange in the rows does to the list of all their items.
use Rattle.std.proofs.Common.{ℕ, zero, suc, ◌≡◌, ◌+◌, ◌-◌, ◌*◌, ◌<◌, ◌≤◌, List, [], ◌∷◌, ◌++◌, length, get_or, set, take, drop, refl, sym, ap, ap₂, ◌∙◌, length-append, length-drop, zero-add, add_assoc, ◌^◌, ◌/◌, ◌%◌, max, subst, Some, slice_get, nat_lt, cond, true, false, div-lt_iff_lt-mul, mul-le-mul_right, swap, arith}
use Rattle.std.proofs.lemmas.Grind.{flat_map-append}
use Rattle.std.proofs.lemmas.List.{length-set, set-append_left, take-append-drop, take_all, length-take-le, take-take, get_or_default, take_more, flat_map_more}
use Rattle.std.proofs.lemmas.Option.{slice_get-get_or, slice_get_read}
use Rattle.std.proofs.lemmas.List.Concat.{get_or-flat_map}
use Rattle.std.proofs.lemmas.Bool.{le-ltb}
use Rattle.p3_util.specs.Flat.{IsFlat, countable_items, flat}
use Rattle.p3_util.specs.Pieces.{pieces}
use Rattle.p3_util.proofs.PiecesLemmas.{pieces-more, pieces-nil}
use Rattle.p3_util.proofs.JoinedLists.{set-behind, across, in-front, behind, swap-sym}

module _ {A : Type 0} where
  -- where row r begins
  abbrev start : List (List A) → ℕ → ℕ
  start rows r = length (flat (take r rows))

  -- an item of row r is written
  pub flat-set : (rows : List (List A)) (r c : ℕ) (w : A) → r < length rows → c < length (get_or rows r [])
      → flat (set rows r (set (get_or rows r []) c w)) ≡ set (flat rows) (start rows r + c) w
  flat-set [] r c w lt inside = absurd (omega arith)
  flat-set (x ∷ xs) zero c w lt inside = rw (zero-add c) (sym (set-append_left x (flat xs) c w inside))
  flat-set (x ∷ xs) (suc r) c w lt inside =
      let at : start (x ∷ xs) (suc r) + c ≡ length x + (start xs r + c) = rw (length-append x (flat (take r xs))) (add_assoc _ _ _) in
      rw at (ap (λ l. x ++ l) (flat-set xs r c w (omega arith) inside) ∙ sym (set-behind x (flat xs) (length x) (start xs r + c) w refl))

  -- an item of a row, found among the items of all rows
  get_or-flat : (rows : List (List A)) (r c : ℕ) (d : A) → r < length rows → c < length (get_or rows r [])
      → get_or (flat rows) (start rows r + c) d ≡ get_or (get_or rows r []) c d
  get_or-flat rows r c d lt inside = get_or-flat_map (λ row. row) rows r c [] d lt inside

  start-below : (rows : List (List A)) (r c : ℕ) → r < length rows → c < length (get_or rows r []) → start rows r + c < length (flat rows)
  start-below [] r c lt inside = absurd (omega arith)
  start-below (x ∷ xs) zero c lt inside = rw (length-append x (flat xs)) (omega (arith, inside))
  start-below (x ∷ xs) (suc r) c lt inside =
      rw (length-append x (flat xs), length-append x (flat (take r xs))) (omega (arith, start-below xs r c (omega arith) inside))

  -- the item at a place of a list
  item : (xs : List A) (i : ℕ) → i < length xs → A
  item [] i lt = absurd (omega arith)
  item (x ∷ xs) i lt = x

  -- two items of row r are exchanged
  pub flat-swap : (rows : List (List A)) (r c d : ℕ) → r < length rows → c < length (get_or rows r []) → d < length (get_or rows r [])
      → flat (set rows r (swap (get_or rows r []) c d)) ≡ swap (flat rows) (start rows r + c) (start rows r + d)
  flat-swap [] r c d lt ic id = absurd (omega arith)
  flat-swap (x ∷ xs) zero c d lt ic id = rw (zero-add c, zero-add d) (in-front x (flat xs) c d ic id)
  flat-swap (x ∷ xs) (suc r) c d lt ic id =
      let lr : r < length xs = omega arith in
      let at : (k : ℕ) → start (x ∷ xs) (suc r) + k ≡ length x + (start xs r + k) = λ k. rw (length-append x (flat (take r xs))) (add_assoc _ _ _) in
      rw (at c, at d) (ap (λ l. x ++ l) (flat-swap xs r c d lr ic id) ∙ behind x (flat xs) (start xs r + c) (start xs r + d) (start-below xs r c lr ic) (start-below xs r d lr id))

  -- an item of row r is exchanged with one of a later row s, where the rows are cut at row s
  pub flat-exchange : (rows front back : List (List A)) (r c s d : ℕ) (a b : List A) → front ≡ take s rows → back ≡ drop s rows → r < s → s < length rows
      → let x = get_or front r [] in let y = get_or back 0 [] in
      c < length x → d < length y → ((any : A) → a ≡ set x c (get_or y d any)) → ((any : A) → b ≡ set y d (get_or x c any))
      → flat (set front r a ++ set back 0 b) ≡ swap (flat rows) (start rows r + c) (start rows s + d)
  flat-exchange rows front back r c s d a b is-front is-back lt ls ic id ea eb =
      let x = get_or front r [] in
      let y = get_or back 0 [] in
      let any : A = item x c ic in
      let v = get_or y d any in
      let w = get_or x c any in
      let i = start front r + c in
      let lf : r < length front = rw (is-front, length-take-le s rows (omega arith)) lt in
      let lb : 0 < length back = rw (is-back, length-drop s rows) (omega arith) in
      let first : flat (set front r a) ≡ set (flat front) i v = ap (λ t. flat (set front r t)) (ea any) ∙ flat-set front r c v lf ic in
      let second : flat (set back 0 b) ≡ set (flat back) d w = ap (λ t. flat (set back 0 t)) (eb any) ∙ flat-set back 0 d w lb id ∙ ap (λ k. set (flat back) k w) (zero-add d) in
      let at-i : w ≡ get_or (flat front) i w = get_or_default x c any w ic ∙ sym (get_or-flat front r c w lf ic) in
      let at-d : v ≡ get_or (flat back) d v = get_or_default y d any v id ∙ sym (get_or-flat back 0 d v lb id) ∙ ap (λ k. get_or (flat back) k v) (zero-add d) in
      let ld : d < length (flat back) = rw (zero-add d) at (start-below back 0 d lb id) in
      let all : flat front ++ flat back ≡ flat rows = sym (flat_map-append (λ row. row) front back) ∙ ap flat (ap₂ (λ f l. f ++ l) is-front is-back ∙ take-append-drop s rows) in
      let before : start front r ≡ start rows r = ap (λ l. start l r) is-front ∙ ap (λ l. length (flat l)) (take-take r s rows (omega arith)) in
      flat_map-append (λ row. row) (set front r a) (set back 0 b) ∙ ap₂ (λ f l. f ++ l) first second ∙ across (flat front) (flat back) i d w v (start-below front r c lf ic) ld at-i at-d
      ∙ ap (λ l. swap l i (length (flat front) + d)) all ∙ ap (λ k. swap (flat rows) (k + c) (length (flat front) + d)) before ∙ ap (λ l. swap (flat rows) (start rows r + c) (length (flat l) + d)) is-front

  -- the same exchange if the first place is the later one
  pub later-first : (rows : List (List A)) (new : List A) (r c s d n i j : ℕ) → start rows r ≡ r * n → start rows s ≡ s * n
      → i ≡ r * n + c → j ≡ s * n + d → new ≡ swap (flat rows) (start rows s + d) (start rows r + c) → new ≡ swap (flat rows) i j
  later-first rows new r c s d n i j begins-r begins-s at-i at-j is =
      let i-is : start rows r + c ≡ i = omega arith in
      let j-is : start rows s + d ≡ j = omega arith in
      is ∙ ap (λ k. swap (flat rows) k (start rows r + c)) j-is ∙ ap (λ k. swap (flat rows) j k) i-is ∙ swap-sym (flat rows) j i

  -- a write to a row and an exchange within it, if row r begins at place r * n
  pub put-at : (rows : List (List A)) (r c n i : ℕ) (y : List A) (v : A) → r < length rows → c < n → length (get_or rows r []) ≡ n → start rows r ≡ r * n
      → i ≡ r * n + c → y ≡ set (get_or rows r []) c v → flat (set rows r y) ≡ set (flat rows) i v
  put-at rows r c n i y v lr lc len begins at is =
      let inside : c < length (get_or rows r []) = omega arith in
      let place : start rows r + c ≡ i = omega arith in
      ap (λ l. flat (set rows r l)) is ∙ flat-set rows r c v lr inside ∙ ap (λ k. set (flat rows) k v) place

  pub swap-at : (rows : List (List A)) (r s c d n i j : ℕ) (y : List A) → r ≡ s → r < length rows → c < n → d < n → length (get_or rows r []) ≡ n → start rows r ≡ r * n
      → i ≡ r * n + c → j ≡ s * n + d → y ≡ swap (get_or rows r []) c d → flat (set rows r y) ≡ swap (flat rows) i j
  swap-at rows r s c d n i j y same lr lc ld len begins at at' is =
      let ic : c < length (get_or rows r []) = omega arith in
      let id : d < length (get_or rows r []) = omega arith in
      let place : start rows r + c ≡ i = omega arith in
      let times : r * n ≡ s * n = ap (λ k. k * n) same in
      let place' : start rows r + d ≡ j = omega arith in
      ap (λ l. flat (set rows r l)) is ∙ flat-swap rows r c d lr ic id ∙ ap (λ k. swap (flat rows) k (start rows r + d)) place ∙ ap (λ k. swap (flat rows) i k) place'

  -- if no usize can count the items, `countable_items` is empty
  pub countable-none : (rows : List (List A)) → 2 ^ 64 ≤ length (flat rows) → countable_items rows ≡ []
  countable-none rows many = rw (le-ltb (length (flat rows)) (2 ^ 64) many) refl

  -- no usize can count the items of more rows of n items than the largest number divided by n
  pub countable-past : (rows : List (List A)) (n m : ℕ) → m ≡ max n 1 → (2 ^ 64 - 1) / m < length rows → length rows < 2 ^ 64 → length (flat rows) ≡ length rows * n → countable_items rows ≡ []
  countable-past rows zero m at-least lt few len = let one : m ≡ 1 = omega arith in absurd (omega (arith, rw one at lt))
  countable-past rows (suc k) m at-least lt few len =
      let n = suc k in
      let most = (2 ^ 64 - 1) / m in
      let same : m ≡ n = omega arith in
      let more : (most + 1) * n ≤ length rows * n = mul-le-mul_right n (omega arith) in
      let whole : n * most + (2 ^ 64 - 1) % n ≡ 2 ^ 64 - 1 = rw same (omega arith) in
      countable-none rows (omega arith)

  -- writing an item leaves the number of items as it was
  pub flat-set-len : (new old : List (List A)) (i : ℕ) (v : A) → flat new ≡ set (flat old) i v → length (flat old) ≡ length (flat new)
  flat-set-len new old i v is = sym (ap length is ∙ length-set (flat old) i v)

  pub countable-set : (new old : List (List A)) (i : ℕ) (v : A) → flat new ≡ set (flat old) i v → countable_items new ≡ set (countable_items old) i v
  countable-set new old i v is =
      rw (sym (flat-set-len new old i v is)) (elim (nat_lt (length (flat old)) (2 ^ 64)) as (λ b. cond b (flat new) [] ≡ set (cond b (flat old) []) i v) [ true ↦ is | false ↦ refl ])

  -- if `countable_items` has an item, it has all items
  pub countable-some : (rows : List (List A)) (i : ℕ) → i < length (countable_items rows) → countable_items rows ≡ flat rows
  countable-some rows i lt =
      elim (nat_lt (length (flat rows)) (2 ^ 64)) as (λ b. i < length (cond b (flat rows) []) → cond b (flat rows) [] ≡ flat rows) [ true ↦ λ h. refl | false ↦ λ h. absurd (omega arith) ] lt

  -- item c of row r, which is item i of all items
  item-of-row : (rows : List (List A)) (r c i : ℕ) → r < length rows → c < length (get_or rows r []) → start rows r + c ≡ i → slice_get (flat rows) i ≡ slice_get (get_or rows r []) c
  item-of-row rows r c i lr inside place =
      let row = get_or rows r [] in
      let any : A = item row c inside in
      let same : get_or (flat rows) i any ≡ get_or row c any = ap (λ k. get_or (flat rows) k any) (sym place) ∙ get_or-flat rows r c any lr inside in
      let below : i < length (flat rows) = subst (λ (k : ℕ). k < length (flat rows)) place (start-below rows r c lr inside) in
      rw (slice_get-get_or (flat rows) i any below) (rw same (sym (slice_get-get_or row c any inside)))

  -- an item is read, if row r begins at place r * n
  pub get-at : (rows : List (List A)) (r c n i : ℕ) (x : A) → r < length rows → c < n → length (get_or rows r []) ≡ n → start rows r ≡ r * n → i ≡ r * n + c
      → x ≡ get_or (get_or rows r []) c x → i < length (countable_items rows) → slice_get (countable_items rows) i ≡ Some x
  get-at rows r c n i x lr lc len begins at read inside =
      rw (countable-some rows i inside) (item-of-row rows r c i lr (omega arith) (omega arith) ∙ slice_get_read (get_or rows r []) n c x (sym len) lc read)

  -- if each row has n items, row r begins at place r * n
  starts : (n : ℕ) (rows : List (List A)) → ((k : ℕ) → k < length rows → length (get_or rows k []) ≡ n) → (r : ℕ) → r ≤ length rows → start rows r ≡ r * n
  starts n [] width r le = let none : r ≡ 0 = omega arith in rw none (omega arith)
  starts n (x ∷ xs) width zero le = omega arith
  starts n (x ∷ xs) width (suc r) le =
      let first : length x ≡ n = width 0 (omega arith) in
      let rest : start xs r ≡ r * n = starts n xs (λ k lt. width (suc k) (omega arith)) r (omega arith) in
      rw (length-append x (flat (take r xs))) (omega (arith, first, rest))

  place-of : (n : ℕ) (rows : List (List A)) → ((k : ℕ) → k < length rows → length (get_or rows k []) ≡ n) → (i : ℕ) → i < length rows * n
      → slice_get (flat rows) i ≡ slice_get (get_or rows (i / n) []) (i % n)
  place-of zero rows width i lt = absurd (omega arith)
  place-of (suc k) rows width i lt =
      let n = suc k in
      let r = i / n in
      let c = i % n in
      let at : n * r + c ≡ i = omega arith in
      let lr : r < length rows = (div-lt_iff_lt-mul {k = n} {x = i} {y = length rows} (omega arith)).1 lt in
      let inside : c < length (get_or rows r []) = rw (width r lr) (omega arith) in
      item-of-row rows r c i lr inside (omega (arith, starts n rows width r (omega arith)))

  pub IsFlat-width : (n : ℕ) (rows : List (List A)) → ((k : ℕ) → k < length rows → length (get_or rows k []) ≡ n) → IsFlat n rows (flat rows)
  IsFlat-width n rows width =
      let whole : length (flat rows) ≡ length rows * n = ap (λ l. length (flat l)) (sym (take_all (length rows) rows (omega arith))) ∙ starts n rows width (length rows) (omega arith) in
      record { len = whole; places = λ i lt. place-of n rows width i (omega (arith, whole)) }

  -- then the rows are the pieces of all items
  cut : (n : ℕ) (rows : List (List A)) → ((k : ℕ) → k < length rows → length (get_or rows k []) ≡ n) → 0 < n → (k : ℕ) → k ≤ length rows → pieces n (flat (take k rows)) ≡ take k rows
  cut n rows width some zero le = pieces-nil n
  cut n rows width some (suc k) le =
      let row = get_or rows k [] in
      let next : suc k ≡ k + 1 = omega arith in
      let wide : length row ≡ n = width k (omega arith) in
      rw (next, take_more rows k [] (omega arith)) (ap (pieces n) (sym (flat_map_more (λ r. r) [] (take k rows) row))
      ∙ pieces-more n k (flat (take k rows)) row (starts n rows width k (omega arith)) (omega arith) (omega arith) ∙ ap (λ t. t ++ row ∷ []) (cut n rows width some k (omega arith)))

  pub pieces-width : (n : ℕ) (rows : List (List A)) → ((k : ℕ) → k < length rows → length (get_or rows k []) ≡ n) → 0 < n → pieces n (flat rows) ≡ rows
  pieces-width n rows width some = rw (take_all (length rows) rows (omega arith)) at (cut n rows width some (length rows) (omega arith))

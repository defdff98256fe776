-- The law for the parts of a call, for `src/laws.rt`: which places a part has, and that
-- interleaved steps of all parts are the call, on every list.
use Rattle.std.proofs.Common.{◌≡◌, ◌≢◌, ℕ, zero, suc, true, ◌+◌, ◌-◌, ◌*◌, ◌/◌, ◌%◌, ◌^◌, ◌<◌, if◌then◌else◌, List, [], ◌∷◌, Some, get_or, length, map, slice_get, inl, inr, refl, sym, ◌∙◌, ap, swap, arith}
use Rattle.std.proofs.Math.ListN.{get_or-map}
use Rattle.std.proofs.Math.Nat.{mul-div_cancel_left, mul-pos}
use Rattle.std.proofs.lemmas.Bool.{cases_eq, cases_lt}
use Rattle.std.proofs.lemmas.List.{length-map, length-set, map-set, nil_from_length}
use Rattle.std.proofs.lemmas.List.Elements.{All-head}
use Rattle.std.proofs.lemmas.List.FromFn.{fill_by_all, get_or-range_with_len, length-range_with_len}
use Rattle.std.proofs.lemmas.Nat.{mul-add-lt}
use Rattle.std.proofs.lemmas.Option.{none-some, same_Some, slice_get-get_or, slice_get-map, slice_get_past, slice_get_within}
use Rattle.p3_util_dispatch.specs.declared.parts.reversal.ReversalPlan.{ReversalPlan}
use Rattle.p3_util_dispatch.specs.declared.parts.reversal.ReversalPlan.TheVariants.{Patches, Whole}
use Rattle.p3_util_dispatch.specs.declared.parts.RowPairs.{RowPairs}
use Rattle.p3_util_dispatch.specs.declared.parts.transpose.TransposePlan.{TransposePlan}
use Rattle.p3_util_dispatch.specs.Interleaved.{AreOfParts, IsInterleaved, IsMadeAlone, IsPutAlone, numbers_below, puts_of, region_of}
use Rattle.p3_util_kernels.specs.Least.{AllDiffer, AreOnceAmong, after_puts, after_swaps, places_put, places_swapped}
use Rattle.p3_util_dispatch.specs.Parts.{parts_in}
use Rattle.p3_util_dispatch.specs.PlacesOfParts.{IsPlaceOfPart, IsPlaceOfRegion, NoItemInCommon, NoPlaceInCommon}
use Rattle.p3_util_dispatch.specs.Plans.{IsReversalPlan, parts_of, width_of}
use Rattle.p3_util_kernels.specs.Region.{LiesInMatrix}
use Rattle.p3_util_kernels.specs.Reversal.{IsRowReversal}
use Rattle.p3_util_kernels.specs.SwapCounts.{row_swaps, short_swaps}
use Rattle.p3_util_kernels.specs.Logarithms.{clog}
use Rattle.p3_util_kernels.specs.Transpose.{IsTranspose}
use Rattle.p3_util_dispatch.proofs.PatchesLemmas.{patch-covered}
use Rattle.p3_util_dispatch.proofs.PatchSteps.{pairs-steps}
use Rattle.p3_util_kernels.proofs.LawsLemmas.Counts.{count-all}
use Rattle.p3_util_fast.proofs.GridLemmas.Crossing.{IsRowReversal-crossed}
use Rattle.p3_util_dispatch.proofs.CutParts.{part-inside, side-cut}
use Rattle.p3_util_kernels.proofs.PlacesLemmas.Exchange.{slice_get-set_other, slice_get-set_same}
use Rattle.p3_util_dispatch.proofs.InterleavedSteps.{after-length, all-changed, of-part, puts-are, swaps-are}
use Rattle.p3_util_kernels.proofs.LawsLemmas.Least.{count-moved, row_moves, rows-differ-where}
use Rattle.p3_util_kernels.proofs.BitsLemmas.Logarithms.{clog_power}
use Rattle.p3_util_kernels.proofs.TransposeLemmas.Matrix.{each_place}
use Rattle.p3_util_dispatch.proofs.PartPlaces.{pairs-apart, pairs-exchanged, pairs-inside, part-apart, part-covers, place}
use Rattle.p3_util_dispatch.proofs.RegionSteps.{region-stays}
use Rattle.p3_util_kernels.proofs.ReverseLemmas.Lengths.{IsDigitsOfRows-from, no_digits}
use Rattle.p3_util_kernels.proofs.ReverseLemmas.Reversal.{IsRowReversal-none}
use Rattle.p3_util_kernels.proofs.PlacesLemmas.WrittenPlaces.{AreOnceAmong-weaker, puts-places, puts-written, swaps-places, swaps-written, written-at, written-count}

-- the list of the numbers below n
numbers-length : (n : ℕ) → length (numbers_below n) ≡ n
numbers-length n = length-range_with_len 0 n

number-at : (n i : ℕ) → i < n → slice_get (numbers_below n) i ≡ Some i
number-at n i less =
    slice_get-get_or (numbers_below n) i 0 (omega (arith, numbers-length n, less)) ∙ ap (λ v. Some v) (get_or-range_with_len 0 n i 0 less ∙ omega arith)

numbers-differ : (n : ℕ) → AllDiffer (numbers_below n)
numbers-differ n i j hi hj e =
    same_Some i j (sym (number-at n i (omega (arith, numbers-length n, hi))) ∙ e ∙ number-at n j (omega (arith, numbers-length n, hj)))

-- a place that changes is a place of the list
changed-below : {A : Type 0} (old new : List A) (p : ℕ) → length new ≡ length old → slice_get old p ≢ slice_get new p → p < length old
changed-below old new p same changed =
    elim (cases_lt p (length old)) [
      | inl less ↦ less
      | inr past ↦ absurd (changed (slice_get_past old p past ∙ sym (slice_get_past new p (omega (arith, same, past)))))
    ]

-- writes of numbers, and writes of the items that have these numbers
puts-follow : {A : Type 0} (item : ℕ → A) (n : ℕ) (steps : List (ℕ × ℕ)) (xs : List ℕ) (ys : List A) → length ys ≡ length xs
    → ((p i : ℕ) → i < n → slice_get xs p ≡ Some i → slice_get ys p ≡ Some (item i))
    → (p i : ℕ) → i < n → slice_get (after_puts xs steps) p ≡ Some i → slice_get (after_puts ys (puts_of item steps)) p ≡ Some (item i)
unfolding after_puts
puts-follow item n [] xs ys same follows = follows
puts-follow item n ((q, v) ∷ steps) xs ys same follows =
    puts-follow item n steps _ _ (length-set ys q (item v) ∙ same ∙ sym (length-set xs q v))
    (λ p i less e.
    elim (cases_eq p q) [
      | inl here ↦
          let inside : q < length xs = omega (arith, length-set xs q v, slice_get_within _ p i e, here) in
          let is : v ≡ i = same_Some v i (sym (slice_get-set_same xs q v inside) ∙ rw here at e) in
          rw (here, ← is) (slice_get-set_same ys q (item v) (omega (arith, inside, same)))
      | inr away ↦ slice_get-set_other ys q p (item v) away ∙ follows p i less (sym (slice_get-set_other xs q p v away) ∙ e)
    ])

-- the parts of a transpose
module _ (plan : TransposePlan) where
  abbrev items : ℕ
  items = plan.width * plan.height

  abbrev count : ℕ
  count = parts_in plan.cut.len plan.cut.part_len

  side : (k : ℕ) → k < count → plan.cut.len ≡ (if plan.by_rows then plan.height else plan.width)
  side k less = plan.side (side-cut plan.cut.len plan.cut.part_len plan.cut.some_part_len k less)

  inside : (k : ℕ) → k < count → LiesInMatrix (region_of plan k) plan.width plan.height
  inside k less = part-inside plan.width plan.height plan.by_rows plan.cut.len plan.cut.part_len k (side k less)

  abbrev part : ℕ → ℕ → Type 0
  part k p = (k < count) × IsPlaceOfRegion (region_of plan k) plan.height p

  pub regions-apart : (i j : ℕ) → i ≢ j → i < count → NoPlaceInCommon (IsPlaceOfRegion (region_of plan i) plan.height) (IsPlaceOfRegion (region_of plan j) plan.height)
  regions-apart i j other less p (x, y, at, e) (v, w, at', e') =
      other (part-apart plan.width plan.height plan.cut.len plan.cut.part_len plan.by_rows (side i less) i j x y v w at at' (sym e ∙ e'))

  place-below : (k p : ℕ) → part k p → p < items
  place-below k p (less, (x, y, at, e)) =
      let lies = inside k less in
      omega (arith, e, mul-add-lt x plan.height y plan.width (omega (arith, at.col_to, lies.cols_inside)) (omega (arith, at.row_to, lies.rows_inside)))

  module _ (blank : List ℕ) (blank_fits : length blank ≡ items) (strange : NoItemInCommon (numbers_below items) blank) where
    pub puts-stay : (k : ℕ) (steps : List (ℕ × ℕ)) → k < count → IsPutAlone plan k (numbers_below items) blank steps
        → AreOnceAmong (λ p. IsPlaceOfRegion (region_of plan k) plan.height p × (slice_get blank p ≢ slice_get (after_puts blank steps) p)) (places_put steps)
    puts-stay k steps less (many, put) =
        region-stays (region_of plan k) plan.width plan.height (inside k less) (numbers_below items) blank steps (numbers-length items) blank_fits strange many put

    module _ (lists : List (List (ℕ × ℕ))) (all : List (ℕ × ℕ)) (alone : AreOfParts count (λ k. IsPutAlone plan k (numbers_below items) blank) lists)
        (is : IsInterleaved lists all) where
      own : (k : ℕ) (steps : List (ℕ × ℕ)) → slice_get lists k ≡ Some steps
          → AreOnceAmong (λ p. part k p × (slice_get blank p ≢ slice_get (after_puts blank (get_or lists k [])) p)) (places_put steps)
      own k steps e =
          let less : k < count = omega (arith, slice_get_within lists k steps e, alone.0) in
          let same : get_or lists k [] ≡ steps = same_Some _ _ (sym (slice_get-get_or lists k [] (slice_get_within lists k steps e)) ∙ e) in
          rw same (AreOnceAmong-weaker _ _ (places_put steps) (λ p (at, changed). ((less, at), changed)) (puts-stay k steps less (alone.1 k steps e)))

      apart : (k l : ℕ) → k ≢ l → NoPlaceInCommon (part k) (part l)
      apart k l other p (less, at) (less', at') = regions-apart k l other less p at at'

      all-put : (x y : ℕ) → x < plan.width → y < plan.height → slice_get (after_puts blank all) (x * plan.height + y) ≡ slice_get (numbers_below items) (y * plan.width + x)
      all-put x y hx hy =
          let some : 0 < plan.cut.len = elim (cases_eq plan.cut.len 0) [
            | inl none ↦ absurd (omega (arith, plan.all none, mul-pos {m = plan.width} {n = plan.height} (omega (arith, hx)) (omega (arith, hy))))
            | inr some ↦ omega (arith, some)
          ] in
          let (k, less, at) = part-covers plan.width plan.height plan.cut.len plan.cut.part_len plan.cut.some_part_len plan.by_rows (plan.side some) x y hx hy in
          of-part puts-are part apart blank (λ k p at. omega (arith, blank_fits, place-below k p at)) lists own all is k (x * plan.height + y) (less, (x, y, at, refl))
          ∙ (alone.1 k (get_or lists k []) (slice_get-get_or lists k [] (omega (arith, less, alone.0)))).1.places x y at

      pub puts-transpose : {A : Type 0} (input old : List A) (item : ℕ → A) → length input ≡ items → length old ≡ items
          → ((i : ℕ) → i < length input → slice_get input i ≡ Some (item i)) → IsTranspose plan.width plan.height input (after_puts old (puts_of item all))
      puts-transpose input old item input_fits old_fits item_is = record {
        same_length = after-length puts-are (puts_of item all) old ∙ old_fits;
        places = λ x y hx hy.
            let from : ℕ = y * plan.width + x in
            let less : from < items = mul-add-lt y plan.width x plan.height hy hx in
            puts-follow item items all blank old (old_fits ∙ sym blank_fits)
            (λ p i below e.
            absurd (strange i p (omega (arith, numbers-length items, below)) (slice_get_within blank p i e) (number-at items i below ∙ sym e)))
            (x * plan.height + y) from less (all-put x y hx hy ∙ number-at items from less)
            ∙ sym (item_is from (omega (arith, input_fits, less)));
      }

      pub puts-count : length all ≡ items
      puts-count =
          let changed = all-changed puts-are part apart blank (λ k p at. omega (arith, blank_fits, place-below k p at)) lists own all is in
          let count = written-count items (λ i. true) (places_put all) blank (after_puts blank all) (puts-written all blank)
          (AreOnceAmong-weaker _ _ (places_put all)
          (λ p differ. (omega (arith, blank_fits, changed-below blank (after_puts blank all) p (after-length puts-are all blank) differ), refl)) changed)
          (λ p less t e.
          each_place (λ q. slice_get blank q ≢ slice_get (after_puts blank all) q) plan.width plan.height p less
          (λ x y hx hy same.
          strange (y * plan.width + x) (x * plan.height + y) (omega (arith, numbers-length items, mul-add-lt y plan.width x plan.height hy hx))
          (omega (arith, blank_fits, mul-add-lt x plan.height y plan.width hx hy)) (sym (all-put x y hx hy) ∙ sym same)) e) in
          omega (arith, count, count-all items, puts-places all)

-- exchanges do not depend on the items
swap-map : {A B : Type 0} (f : A → B) (xs : List A) (i j : ℕ) → map f (swap xs i j) ≡ swap (map f xs) i j
swap-map f [] i j = refl
swap-map f (d ∷ ys) i j = rw (map-set, map-set, ← get_or-map f (d ∷ ys) j d, ← get_or-map f (d ∷ ys) i d) refl

swaps-map : {A B : Type 0} (f : A → B) (steps : List (ℕ × ℕ)) (xs : List A) → map f (after_swaps xs steps) ≡ after_swaps (map f xs) steps
unfolding after_swaps
swaps-map f [] xs = refl
swaps-map f (pair ∷ steps) xs = swaps-map f steps (swap xs pair.0 pair.1) ∙ ap (λ ys. after_swaps ys steps) (swap-map f xs pair.0 pair.1)

IsRowReversal-map : {A B : Type 0} (f : A → B) (width : ℕ) (old new : List A) → IsRowReversal width old new → IsRowReversal width (map f old) (map f new)
IsRowReversal-map f width old new reversal = record {
  same_length = length-map new f ∙ reversal.same_length ∙ sym (length-map old f);
  places = λ k r j e hr hj.
      rw (slice_get-map, slice_get-map, reversal.places k r j (sym (length-map old f) ∙ e) hr hj) refl;
}

-- what holds of the list of numbers holds of every list
reversal-of_any : {A : Type 0} (width : ℕ) (all : List (ℕ × ℕ)) (old : List A)
    → IsRowReversal width (numbers_below (length old)) (after_swaps (numbers_below (length old)) all) → IsRowReversal width old (after_swaps old all)
reversal-of_any width all [] reversal = IsRowReversal-none width [] _ refl (after-length swaps-are all [])
reversal-of_any {A} width all (d ∷ xs) reversal =
    let old : List A = d ∷ xs in
    let item : ℕ → A = λ i. get_or old i d in
    let is : old ≡ map item (numbers_below (length old)) = fill_by_all item old (length old) d refl (λ k less. refl) in
    rw is (rw (← swaps-map) (IsRowReversal-map item width _ _ reversal))

-- no list has an interleaving but the empty one, and a single list has only itself
no-lists : {S : Type 0} (all : List S) → IsInterleaved [] all → all ≡ []
unfolding IsInterleaved
no-lists [] done = refl
no-lists (s ∷ all) (k, rest, e, next) = absurd (none-some (s ∷ rest) e)

only-list : {S : Type 0} (all steps : List S) → IsInterleaved (steps ∷ []) all → all ≡ steps
unfolding IsInterleaved
only-list [] steps done = sym (All-head (λ steps. steps ≡ []) steps [] done)
only-list (s ∷ all) steps (zero, rest, e, next) = ap (λ t. s ∷ t) (only-list all rest next) ∙ sym (same_Some steps (s ∷ rest) e)
only-list (s ∷ all) steps (suc k, rest, e, next) = absurd (none-some (s ∷ rest) e)

one-list : {S : Type 0} (lists : List (List S)) (all : List S) → length lists ≡ 1 → IsInterleaved lists all → slice_get lists 0 ≡ Some all
one-list [] all one is = absurd (omega (arith, one))
one-list (steps ∷ []) all one is = ap (λ s. Some s) (sym (only-list all steps is))
one-list (steps ∷ more ∷ lists) all one is = absurd (omega (arith, one))

-- the places of the exchanges of a part
pub swaps-stay : (plan : ReversalPlan) (len k : ℕ) (steps : List (ℕ × ℕ)) → k < parts_of plan → IsReversalPlan len plan → IsMadeAlone plan k (numbers_below len) steps
    → AreOnceAmong (λ p. IsPlaceOfPart plan k p × (slice_get (numbers_below len) p ≢ slice_get (after_swaps (numbers_below len) steps) p)) (places_swapped steps)
swaps-stay (Whole _ width) len k steps less of (reversal, many) =
    let first : k ≡ 0 = omega (arith, less) in
    let digits : ℕ = clog (len / width) in
    let fits : len ≡ width * 2 ^ digits = (IsDigitsOfRows-from len width digits (λ e. omega (arith, e, less, of.0)) of.1 refl).whole in
    let moved = rows-differ-where width digits (numbers_below len) (after_swaps (numbers_below len) steps) (numbers-length len ∙ fits) (numbers-differ len) reversal in
    AreOnceAmong-weaker _ _ (places_swapped steps) (λ p (i, less, t, e). ((first, omega (arith, e, less, fits, of.0)), rw e ((moved i less).0 t)))
    (written-at (width * 2 ^ digits) (λ i. i) (row_moves width digits) (λ i j hi hj ti tj e. e) (places_swapped steps) (numbers_below len) _
    (swaps-written steps (numbers_below len)) (λ i less t. (moved i less).0 t) (omega (arith, count-moved width digits, swaps-places steps, rw numbers-length at many)))
swaps-stay (Patches pairs) len k steps less of (middle, region, patch, crossed, many) =
    let rows = pairs.rows in
    let some = pairs.cut.some_part_len in
    pairs-steps rows.digits rows.width pairs.cut.part_len k some middle region patch (numbers_below len) _ steps (numbers-length len ∙ of.1) (numbers-differ len) refl
    (pairs-exchanged rows.digits rows.width pairs.cut.part_len some k middle region (numbers_below len) _ patch crossed) many

pub parts-apart : (plan : ReversalPlan) (i j : ℕ) → i ≢ j → NoPlaceInCommon (IsPlaceOfPart plan i) (IsPlaceOfPart plan j)
parts-apart (Whole _ _) i j other p at at' = other (at.0 ∙ sym at'.0)
parts-apart (Patches pairs) i j other p (m, t, x, y, less, at, e) (n, u, v, w, less', at', e') =
    other (pairs-apart pairs.rows.digits pairs.rows.width pairs.cut.part_len pairs.cut.some_part_len i j (m, t) (n, u) x y v w (less, at) (less', at') (sym e ∙ e'))

-- patches of pairs of rows, on the list of numbers
module _ (pairs : RowPairs) (len : ℕ) (of : IsReversalPlan len (Patches pairs)) (lists : List (List (ℕ × ℕ))) (all : List (ℕ × ℕ))
    (alone : AreOfParts (parts_of (Patches pairs)) (λ k. IsMadeAlone (Patches pairs) k (numbers_below len)) lists) (is : IsInterleaved lists all) where
  abbrev digits : ℕ
  digits = pairs.rows.digits

  abbrev width : ℕ
  width = pairs.rows.width

  own-pairs : (k : ℕ) (steps : List (ℕ × ℕ)) → slice_get lists k ≡ Some steps
      → AreOnceAmong (λ p. IsPlaceOfPart (Patches pairs) k p × (slice_get (numbers_below len) p ≢ slice_get (after_swaps (numbers_below len) (get_or lists k [])) p)) (places_swapped steps)
  own-pairs k steps e =
      let within = slice_get_within lists k steps e in
      let same : get_or lists k [] ≡ steps = same_Some _ _ (sym (slice_get-get_or lists k [] within) ∙ e) in
      rw same (swaps-stay (Patches pairs) len k steps (omega (arith, within, alone.0)) of (alone.1 k steps e))

  pair-inside : (k p : ℕ) → IsPlaceOfPart (Patches pairs) k p → p < length (numbers_below len)
  pair-inside k p (m, t, x, y, less, at, e) =
      rw e (pairs-inside digits width pairs.cut.part_len pairs.cut.some_part_len (length (numbers_below len)) k (m, t) x y (numbers-length len ∙ of.1) (less, at))

  all-reversed : IsRowReversal width (numbers_below len) (after_swaps (numbers_below len) all)
  all-reversed =
      let half : ℕ = digits / 2 in
      let c : ℕ = digits - half in
      let whole : half + c ≡ digits = omega arith in
      let rest : digits - digits / 2 - digits / 2 ≡ digits % 2 = omega arith in
      IsRowReversal-crossed half c (omega arith) width (numbers_below len) (after_swaps (numbers_below len) all) (omega arith) (rw whole (numbers-length len ∙ of.1))
      (after-length swaps-are all (numbers_below len))
      (λ m x y item.
      let (k, less, at) = patch-covered digits pairs.cut.part_len pairs.cut.some_part_len m.0 x y (rw rest at item.middle) item.high item.low in
      let (middle, region, patch, crossed, many) = alone.1 k (get_or lists k []) (slice_get-get_or lists k [] (omega (arith, less, alone.0))) in
      of-part swaps-are (IsPlaceOfPart (Patches pairs)) (parts-apart (Patches pairs)) (numbers_below len) pair-inside lists own-pairs all is k
      (place digits width pairs.cut.part_len pairs.cut.some_part_len m x y) (m.0, m.1, x, y, item.item, at, refl)
      ∙ (pairs-exchanged digits width pairs.cut.part_len pairs.cut.some_part_len k middle region (numbers_below len) _ patch crossed).crossed m x y (item.item, at))

  all-counted : length all ≡ row_swaps len width
  all-counted =
      let new : List ℕ = after_swaps (numbers_below len) all in
      let moved = rows-differ-where width digits (numbers_below len) new (numbers-length len ∙ of.1) (numbers-differ len) all-reversed in
      let count = written-count (width * 2 ^ digits) (row_moves width digits) (places_swapped all) (numbers_below len) new (swaps-written all (numbers_below len))
      (AreOnceAmong-weaker _ _ (places_swapped all)
      (λ p changed.
      let below : p < width * 2 ^ digits = omega (arith, numbers-length len, of.1, changed-below (numbers_below len) new p (after-length swaps-are all (numbers_below len)) changed) in
      (below, (moved p below).1 changed))
      (all-changed swaps-are (IsPlaceOfPart (Patches pairs)) (parts-apart (Patches pairs)) (numbers_below len) pair-inside lists own-pairs all is))
      (λ p less t. (moved p less).0 t) in
      let rows : len / width ≡ 2 ^ digits = ap (λ n. n / width) of.1 ∙ mul-div_cancel_left (2 ^ digits) of.0 in
      rw (clog_power (len / width) digits rows) (omega (arith, count, count-moved width digits, swaps-places all))

-- an empty list has no rows to exchange
swaps-empty : (len width : ℕ) → len ≡ 0 → row_swaps len width ≡ 0
swaps-empty len width none = ap (λ d. width * short_swaps d) (no_digits len width none) ∙ omega arith

pub swaps-reverse : {A : Type 0} (plan : ReversalPlan) (old : List A) (lists : List (List (ℕ × ℕ))) (all : List (ℕ × ℕ)) → IsReversalPlan (length old) plan
    → AreOfParts (parts_of plan) (λ k. IsMadeAlone plan k (numbers_below (length old))) lists → IsInterleaved lists all
    → IsRowReversal (width_of plan) old (after_swaps old all) × (length all ≡ row_swaps (length old) (width_of plan))
swaps-reverse (Whole n width) old lists all of alone is =
    elim (cases_eq n 0) [
      | inl none ↦
          let no_lists : lists ≡ [] = nil_from_length lists (alone.0 ∙ omega (arith, none)) in
          let no_steps : all ≡ [] = no-lists all (rw no_lists at is) in
          let empty : length old ≡ 0 = omega (arith, none, of.0) in
          rw no_steps (IsRowReversal-none width old _ empty (after-length swaps-are [] old), sym (swaps-empty (length old) width empty))
      | inr some ↦
          let one : length lists ≡ 1 = alone.0 ∙ omega (arith, some) in
          let (reversal, many) = alone.1 0 all (one-list lists all one is) in
          (reversal-of_any width all old reversal, rw numbers-length at many)
    ]
swaps-reverse (Patches pairs) old lists all of alone is =
    (reversal-of_any pairs.rows.width all old (all-reversed pairs (length old) of lists all alone is), all-counted pairs (length old) of lists all alone is)

-- Runs of places exchanged, in either order, and as slices.
use Rattle.std.proofs.Common.{◌≡◌, ℕ, ◌+◌, ◌-◌, min, max, ◌<◌, ◌≤◌, ◌⊎◌, List, ◌++◌, length, slice_get, take, drop, length-append, length-drop, inl, inr, refl, ap, ◌∙◌, length-take, arith}
use Rattle.std.proofs.lemmas.Bool.{cases_lt}
use Rattle.p3_util_kernels.specs.Exchanged.{RunsExchanged}
use Rattle.p3_util_kernels.proofs.PlacesLemmas.ListParts.{length-spliced, slice_get-append_left, slice_get-append_right, slice_get-beside, slice_get-drop, slice_get-spliced, slice_get-take}
use Rattle.p3_util_kernels.proofs.PlacesLemmas.Runs.{RunsExchanged-joined}

-- the same exchange with the two runs named in the other order
pub RunsExchanged-turned : {A : Type 0} (i j len : ℕ) (old new : List A) → RunsExchanged i j len old new → RunsExchanged j i len old new
RunsExchanged-turned i j len old new h = record { same_length = h.same_length; first = h.second; second = h.first; others = λ p k l. h.others p l k }

-- the same exchange with the lower run named first
pub RunsExchanged-ordered : {A : Type 0} (i j low high len : ℕ) (old new : List A) → low ≡ min i j → high ≡ max i j
    → RunsExchanged low high len old new → RunsExchanged i j len old new
RunsExchanged-ordered i j low high len old new is_low is_high h = grind (arith, h, RunsExchanged-turned j i len old new)

-- two runs are exchanged, and then the two runs that follow them
pub RunsExchanged-joined_apart : {A : Type 0} (i j n m : ℕ) (old now next : List A) → (i + (n + m) ≤ j) ⊎ (j + (n + m) ≤ i)
    → RunsExchanged i j n old now → RunsExchanged (i + n) (j + n) m now next → RunsExchanged i j (n + m) old next
RunsExchanged-joined_apart i j n m old now next (inl up) before after = RunsExchanged-joined i j n m old now next up before after
RunsExchanged-joined_apart i j n m old now next (inr down) before after =
    RunsExchanged-turned j i (n + m) old next
    (RunsExchanged-joined j i n m old now next down (RunsExchanged-turned i j n old now before) (RunsExchanged-turned (i + n) (j + n) m now next after))

-- a list is cut at j, and a run of one part is exchanged with a run of the other
pub RunsExchanged-slices : {A : Type 0} (i j len n : ℕ) (xs front back first second : List A) → i + len ≤ j → j + len ≤ length xs → n ≡ len
    → front ≡ take j xs → back ≡ drop j xs → first ≡ take len back → second ≡ take n (drop i front)
    → RunsExchanged i j len xs ((take i front ++ (first ++ drop n (drop i front))) ++ (second ++ drop len back))
RunsExchanged-slices i j len n xs front back first second apart within same is_front is_back is_first is_second =
    let front_len : length front ≡ j = omega (arith, ap length is_front, length-take j xs) in
    let back_len : length back + j ≡ length xs = omega (arith, ap length is_back, length-drop j xs) in
    let first_len : length first ≡ n = omega (arith, ap length is_first, length-take len back) in
    let second_len : length second ≡ len = omega (arith, ap length is_second, length-take n (drop i front), length-drop i front) in
    let left = take i front ++ (first ++ drop n (drop i front)) in
    let right = second ++ drop len back in
    let left_len : length left ≡ j = length-spliced i n front first first_len (omega arith) ∙ front_len in
    let of_front : (p : ℕ) → p < j → slice_get front p ≡ slice_get xs p = λ p h. ap (λ ys. slice_get ys p) is_front ∙ slice_get-take j xs p h in
    let of_back : (p q : ℕ) → q ≡ j + p → slice_get back p ≡ slice_get xs q = λ p q e. ap (λ ys. slice_get ys p) is_back ∙ slice_get-drop j xs p q e in
    record {
      same_length = omega (arith, length-append left right, length-spliced 0 len back second second_len (omega arith));
      first = λ t h.
          slice_get-append_left left right (i + t) (omega arith) ∙ slice_get-spliced i n front first (i + t) t first_len (omega arith) (omega arith) refl
          ∙ ap (λ ys. slice_get ys t) is_first ∙ slice_get-take len back t h ∙ of_back t (j + t) refl;
      second = λ t h.
          slice_get-append_right left right (j + t) t (omega arith) ∙ slice_get-spliced 0 len back second t t second_len (omega arith) h (omega arith)
          ∙ ap (λ ys. slice_get ys t) is_second ∙ slice_get-take n (drop i front) t (omega arith) ∙ slice_get-drop i front t (i + t) refl ∙ of_front (i + t) (omega arith);
      others = λ p h k.
          elim (cases_lt p j) [
            | inl before ↦
                slice_get-append_left left right p (omega arith)
                ∙ slice_get-beside i n front first p first_len (omega arith) (elim h [ inl l ↦ inl l | inr r ↦ inr (omega arith) ]) ∙ of_front p before
            | inr from ↦
                let beyond : j + len ≤ p = elim k [ inl l ↦ absurd (omega arith) | inr r ↦ r ] in
                slice_get-append_right left right p (p - j) (omega arith) ∙ slice_get-beside 0 len back second (p - j) second_len (omega arith) (inr (omega arith)) ∙ of_back (p - j) p (omega arith)
          ];
    }

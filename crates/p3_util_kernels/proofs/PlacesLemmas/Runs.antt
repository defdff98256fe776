-- Runs of places exchanged, place by place.
use Rattle.std.proofs.Common.{◌≡◌, ℕ, ◌+◌, ◌-◌, ◌<◌, ◌≤◌, List, length, inl, inr, ap, ◌∙◌, swap, arith}
use Rattle.std.proofs.lemmas.List.Edits.{length-swap}
use Rattle.p3_util_kernels.specs.Exchanged.{RunsExchanged}
use Rattle.p3_util_kernels.proofs.PlacesLemmas.Exchange.{slice_get-swap_first, slice_get-swap_second, slice_get-swap_other}

-- One pair of places is two runs of one item each. The place where such a run begins is the only
-- place in it, so a statement about a place of the run is one about that place.
pub RunsExchanged-one : {A : Type 0} (i j : ℕ) (old new : List A) → i < length old → j < length old → new ≡ swap old i j → RunsExchanged i j 1 old new
RunsExchanged-one i j old new first_in second_in swapped = record {
  same_length = ap length swapped ∙ length-swap old i j;
  first = λ t h. let e : i + t ≡ i = omega arith in let f : j + t ≡ j = omega arith in rw (swapped, e, f) (slice_get-swap_first old i j first_in second_in);
  second = λ t h. let e : i + t ≡ i = omega arith in let f : j + t ≡ j = omega arith in rw (swapped, e, f) (slice_get-swap_second old i j first_in second_in);
  others = λ p h k. rw swapped (slice_get-swap_other old i j p (elim h [ inl l ↦ omega arith | inr r ↦ omega arith ]) (elim k [ inl l ↦ omega arith | inr r ↦ omega arith ]));
}

-- Two exchanged runs, and two more that follow them directly, are two longer runs. If a place is past the end of the
-- first two runs, the other two decide what is at it, and otherwise the first two do.
pub RunsExchanged-joined : {A : Type 0} (i j n m : ℕ) (old now next : List A) → i + (n + m) ≤ j → RunsExchanged i j n old now
    → RunsExchanged (i + n) (j + n) m now next → RunsExchanged i j (n + m) old next
RunsExchanged-joined i j n m old now next apart before after = record {
  same_length = after.same_length ∙ before.same_length;
  first = λ t h. grind (arith, before.first t, after.others (i + t), after.first (t - n), before.others (j + n + (t - n)));
  second = λ t h. grind (arith, before.second t, after.others (j + t), after.second (t - n), before.others (i + n + (t - n)));
  others = λ p h k. grind (arith, before.others p, after.others p);
}

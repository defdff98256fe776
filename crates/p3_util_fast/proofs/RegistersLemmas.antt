-- Squares that are transposed in registers.
use Rattle.std.proofs.Common.{◌≡◌, ℕ, ◌+◌, ◌-◌, ◌*◌, ◌/◌, ◌%◌, ◌<◌, ◌≤◌, ◌⊎◌, List, ◌++◌, length, slice_get, slice_index, inl, inr, refl, sym, ◌∙◌, arith}
use Rattle.std.proofs.lemmas.Bool.{cases_eq, cases_lt}
use Rattle.p3_util_kernels.specs.Stages.{item_at}
use Rattle.p3_util_kernels.proofs.PlacesLemmas.ListParts.{slice_get-append_left, slice_get-append_right}
use Rattle.p3_util_fast.specs.Registers.{AreInterleaved, AreColumns, AreLoaded, AreReached, AreStored, IsNextStage, IsSide, IsStored}

-- the places `from` are those of `places`, in the order of a stage
abbrev pub AreInOrder : ℕ → List ℕ → List ℕ → Type 0
AreInOrder side places from = (s r : ℕ) → r < side → side * s + r < 8 → slice_index from (8 / side * r + s) ≡ slice_index places (side * s + r)

-- as many stages as a side has binary digits make columns of rows
pub two : {A : Type 0} (places from : List ℕ) (list : List A) (a : List (List A)) → AreInOrder 2 places from → AreLoaded 2 from list a → AreColumns 2 places list a
two places from list a order one c r hc hr =
    let row : c / 2 + 4 * r ≡ 4 * r + c / 2 = omega arith in
    let of : 2 * (c / 2) + r ≡ c - c % 2 + r = omega arith in
    rw (row, rw of at (order (c / 2) r hr (omega arith))) at (one (c / 2) (c % 2) r (omega arith) (omega arith) hr)

pub four : {A : Type 0} (places from : List ℕ) (list : List A) (a b : List (List A)) → AreInOrder 4 places from → AreLoaded 4 from list a → IsNextStage 4 a b → AreColumns 4 places list b
four places from list a b order one next c r hc hr =
    let i : 2 * (c / 4) + c / 2 % 2 ≡ c / 2 = omega arith in
    let t : 2 * (2 * (c % 2) + r / 2) + r % 2 ≡ 4 * (c % 2) + r = omega arith in
    let u : 2 * (2 * (c / 2 % 2) + c % 2) + r / 2 ≡ 4 * (c / 2 % 2) + (2 * (c % 2) + r / 2) = omega arith in
    let j : c / 4 + 2 * (r % 2) + 4 * (r / 2) ≡ 2 * r + c / 4 = omega arith in
    let k : 2 * (c / 2 % 2) + c % 2 ≡ c % 4 = omega arith in
    let of : 4 * (c / 4) + r ≡ c - c % 4 + r = omega arith in
    rw (i, t) at (next (c / 4) (c / 2 % 2) (2 * (c % 2) + r / 2) (r % 2) (omega arith) (omega arith) (omega arith) (omega arith))
    ∙ rw (u, j, k, rw of at (order (c / 4) r hr (omega arith))) at (one (c / 4 + 2 * (r % 2)) (2 * (c / 2 % 2) + c % 2) (r / 2) (omega arith) (omega arith) (omega arith))

pub eight : {A : Type 0} (places from : List ℕ) (list : List A) (a b d : List (List A)) → AreInOrder 8 places from → AreLoaded 8 from list a → IsNextStage 8 a b
    → IsNextStage 8 b d → AreColumns 8 places list d
eight places from list a b d order one mid last c r hc hr =
    let i : 2 * (c / 4) + c / 2 % 2 ≡ c / 2 = omega arith in
    let t : 2 * (4 * (c % 2) + r / 2) + r % 2 ≡ 8 * (c % 2) + r = omega arith in
    let j : 2 * (r % 2) + c / 4 ≡ c / 4 + 2 * (r % 2) = omega arith in
    let u : 2 * (4 * (c / 2 % 2) + 2 * (c % 2) + r / 4) + r / 2 % 2 ≡ 8 * (c / 2 % 2) + (4 * (c % 2) + r / 2) = omega arith in
    let k : 2 * (4 * (c / 4) + 2 * (c / 2 % 2) + c % 2) + r / 4 ≡ 8 * (c / 4) + (4 * (c / 2 % 2) + 2 * (c % 2) + r / 4) = omega arith in
    let l : r % 2 + 2 * (r / 2 % 2) + 4 * (r / 4) ≡ 1 * r + c / 8 = omega arith in
    let m : 4 * (c / 4) + 2 * (c / 2 % 2) + c % 2 ≡ c % 8 = omega arith in
    let of : 8 * (c / 8) + r ≡ c - c % 8 + r = omega arith in
    rw (i, t) at (last (c / 4) (c / 2 % 2) (4 * (c % 2) + r / 2) (r % 2) (omega arith) (omega arith) (omega arith) (omega arith))
    ∙ rw (j, u) at (mid (r % 2) (c / 4) (4 * (c / 2 % 2) + 2 * (c % 2) + r / 4) (r / 2 % 2) (omega arith) (omega arith) (omega arith) (omega arith))
    ∙ rw (k, l, m, rw of at (order (c / 8) r hr (omega arith))) at (one (r % 2 + 2 * (r / 2 % 2)) (4 * (c / 4) + 2 * (c / 2 % 2) + c % 2) (r / 4) (omega arith) (omega arith) (omega arith))

-- each place is one of those
pub AreReached-in_order : (side : ℕ) (may : ℕ → Type 0) (places from : List ℕ) → IsSide side → AreInOrder side places from → AreReached 8 places may → AreReached 8 from may
AreReached-in_order side may places from is order inside j h =
    let n = 8 / side in
    let of : n * (j / n) + j % n ≡ j = grind (arith, is) in
    rw (rw of at (order (j % n) (j / n) (grind (arith, is)) (grind (arith, is)))) (inside _ (grind (arith, is)))

-- nothing is stored yet
pub AreStored-none : {A : Type 0} (side : ℕ) (to : List ℕ) (regs : List (List A)) (old : List A) → AreStored 0 side to regs old old
AreStored-none side to regs old = record { same_length = refl; rows = λ c t hc ht. absurd (omega arith); others = λ p out. refl }

-- one more register is stored
pub AreStored-more : {A : Type 0} (k side : ℕ) (to : List ℕ) (regs : List (List A)) (items old now next : List A)
    → ((t : ℕ) → item_at regs k t ≡ slice_get items t)
    → ((a b : ℕ) → a < b → b < 2 * k + 2 → (slice_index to a + side ≤ slice_index to b) ⊎ (slice_index to b + side ≤ slice_index to a))
    → AreStored (2 * k) side to regs old now → IsStored side (slice_index to (2 * k)) (slice_index to (2 * k + 1)) items now next
    → AreStored (2 * k + 2) side to regs old next
AreStored-more k side to regs items old now next same apart before step = record {
  same_length = step.same_length ∙ before.same_length;
  rows = λ c t hc ht.
      elim (cases_lt c (2 * k)) [
        | inl less ↦ grind (arith, step.others (slice_index to c + t), apart c (2 * k) less, apart c (2 * k + 1), before.rows c t less ht)
        | inr more ↦
            elim (cases_eq c (2 * k)) [
              | inl first ↦
                  let half : 2 * k / 2 ≡ k = omega arith in
                  let even : 2 * k % 2 ≡ 0 = omega arith in
                  let at : side * 0 + t ≡ t = omega arith in
                  rw (first, half, even, at) (step.first t ht ∙ sym (same t))
              | inr other ↦
                  let last : c ≡ 2 * k + 1 = omega arith in
                  let half : (2 * k + 1) / 2 ≡ k = omega arith in
                  let odd : (2 * k + 1) % 2 ≡ 1 = omega arith in
                  let at : side * 1 + t ≡ side + t = omega arith in
                  rw (last, half, odd, at) (step.second t ht ∙ sym (same (side + t)))
            ]
      ];
  others = λ p out. step.others p (out (2 * k) (omega arith)) (out (2 * k + 1) (omega arith)) ∙ before.others p (λ c hc. out c (omega arith));
}

-- what two interleaves of two registers hold
AreInterleaved-both : {A : Type 0} (n : ℕ) (a b low high : List A) → length low ≡ 2 * n → AreInterleaved n 0 0 a b low → AreInterleaved n n n a b high
    → AreInterleaved (2 * n) 0 0 a b (low ++ high)
AreInterleaved-both n a b low high full front back = record {
  first = λ t h. grind (arith, slice_get-append_left low high (2 * t), slice_get-append_right low high (2 * t) (2 * (t - n)), front.first t, back.first (t - n));
  second = λ t h. grind (arith, slice_get-append_left low high (2 * t + 1), slice_get-append_right low high (2 * t + 1) (2 * (t - n) + 1), front.second t, back.second (t - n));
}

-- the first halves of two pairs are interleaved
pub AreInterleaved-low : {A : Type 0} (n : ℕ) (a b x y low high : List A) → length low ≡ 2 * n → length a ≡ 2 * n → length b ≡ 2 * n
    → AreInterleaved n 0 0 a b low → AreInterleaved n n n a b high → AreInterleaved (2 * n) 0 0 (a ++ x) (b ++ y) (low ++ high)
AreInterleaved-low n a b x y low high full full_a full_b front back =
    let both = AreInterleaved-both n a b low high full front back in
    record {
      first = λ t h. both.first t h ∙ sym (slice_get-append_left a x (0 + t) (omega arith));
      second = λ t h. both.second t h ∙ sym (slice_get-append_left b y (0 + t) (omega arith));
    }

-- the second halves of two pairs are interleaved
pub AreInterleaved-high : {A : Type 0} (n : ℕ) (x y a b low high : List A) → length low ≡ 2 * n → length x ≡ 2 * n → length y ≡ 2 * n
    → AreInterleaved n 0 0 a b low → AreInterleaved n n n a b high → AreInterleaved (2 * n) (2 * n) (2 * n) (x ++ a) (y ++ b) (low ++ high)
AreInterleaved-high n x y a b low high full full_x full_y front back =
    let both = AreInterleaved-both n a b low high full front back in
    record {
      first = λ t h. both.first t h ∙ sym (slice_get-append_right x a (2 * n + t) (0 + t) (omega arith));
      second = λ t h. both.second t h ∙ sym (slice_get-append_right y b (2 * n + t) (0 + t) (omega arith));
    }

-- Two rows of a list of rows are joined column by column.
use Rattle.std.proofs.Common.{◌≡◌, ◌≢◌, ℕ, ◌+◌, ◌-◌, ◌*◌, ◌%◌, ◌<◌, ◌≤◌, ◌⊎◌, List, length, get_or, set, length-set, get_or-set_same, get_or-set_other, inl, inr, refl, ◌∙◌, arith, below_more}
use Rattle.std.proofs.lemmas.Bool.{cases_lt, cases_eq}
use Rattle.std.proofs.lemmas.List.{set_past}
use Rattle.std.proofs.lemmas.Nat.{mul-le, mod_below}
use Rattle.std.proofs.Math.Nat.{add-mod-mod}
use Rattle.p3_util_examples.specs.Stages.{AreBelowPrime, AreBlocksJoined, AreJoined, SameRow}
use Rattle.p3_util_examples.specs.declared.transform.field.TheConstants.{PRIME}

-- a write of a number below the prime
pub AreBelowPrime-set : (xs : List ℕ) (i v : ℕ) → AreBelowPrime xs → v < PRIME → AreBelowPrime (set xs i v)
AreBelowPrime-set xs i v all small k = elim (cases_eq k i) [
  | inl same ↦ elim (cases_lt i (length xs)) [
    | inl inside ↦ rw (same, get_or-set_same xs i v 0 inside) small
    | inr past ↦ rw (set_past xs i v past) (all k)
  ]
  | inr other ↦ rw (get_or-set_other xs i k v 0 other) (all k)
]

-- the columns below c of two rows are joined, and everything else is as it was
pub record JoinedBelow (width low high t c : ℕ) (old new : List ℕ) : Type 0 where
  pub same_length : length new ≡ length old
  pub below : AreBelowPrime new
  pub sums : (j : ℕ) → j < c → get_or new (low * width + j) 0 ≡ (get_or old (low * width + j) 0 + get_or old (high * width + j) 0 * t) % PRIME
  pub differences : (j : ℕ) → j < c
      → get_or new (high * width + j) 0 ≡ (get_or old (low * width + j) 0 + PRIME - get_or old (high * width + j) 0 * t % PRIME) % PRIME
  pub others : (q : ℕ) → ((j : ℕ) → j < c → (q ≢ low * width + j) × (q ≢ high * width + j)) → get_or new q 0 ≡ get_or old q 0

-- one more column is joined
pub JoinedBelow-more : (width low high t c : ℕ) (old now : List ℕ) (s d : ℕ) → JoinedBelow width low high t c old now
    → c < width → low < high → high * width + width ≤ length old
    → s ≡ (get_or now (low * width + c) 0 + get_or now (high * width + c) 0 * t % PRIME) % PRIME
    → d ≡ (get_or now (low * width + c) 0 + PRIME - get_or now (high * width + c) 0 * t % PRIME) % PRIME
    → JoinedBelow width low high t (c + 1) old (set (set now (low * width + c) s) (high * width + c) d)
JoinedBelow-more width low high t c old now s d before h apart inside sum difference =
    let at_low = low * width + c in
    let at_high = high * width + c in
    let room : (low + 1) * width ≤ high * width = mul-le (low + 1) width high width (omega arith) (omega arith) in
    let rows : low * width + width ≤ high * width = omega arith in
    let same_len : length now ≡ length old = before.same_length in
    let low_in : at_low < length now = omega arith in
    let high_in : at_high < length (set now at_low s) = rw (length-set now at_low s) (omega arith) in
    let differ : at_low ≢ at_high = omega arith in
    let new = set (set now at_low s) at_high d in
    let new_high : get_or new at_high 0 ≡ d = get_or-set_same (set now at_low s) at_high d 0 high_in in
    let new_low : get_or new at_low 0 ≡ s = get_or-set_other (set now at_low s) at_high at_low d 0 differ ∙ get_or-set_same now at_low s 0 low_in in
    let new_other : (q : ℕ) → q ≢ at_low → q ≢ at_high → get_or new q 0 ≡ get_or now q 0 =
    λ q l r. get_or-set_other (set now at_low s) at_high q d 0 r ∙ get_or-set_other now at_low q s 0 l in
    let old_low : get_or now at_low 0 ≡ get_or old at_low 0 = before.others at_low (λ j less. (omega arith, omega arith)) in
    let old_high : get_or now at_high 0 ≡ get_or old at_high 0 = before.others at_high (λ j less. (omega arith, omega arith)) in
    record {
      same_length = length-set (set now at_low s) at_high d ∙ length-set now at_low s ∙ same_len;
      below =
          AreBelowPrime-set (set now at_low s) at_high d
          (AreBelowPrime-set now at_low s before.below (rw sum (mod_below _ PRIME (omega arith))))
          (rw difference (mod_below _ PRIME (omega arith)));
      sums =
          below_more _ c
          (λ j less. new_other (low * width + j) (omega arith) (omega arith) ∙ before.sums j less)
          (rw (new_low, sum, old_low, old_high) (add-mod-mod _ _ PRIME));
      differences =
          below_more _ c
          (λ j less. new_other (high * width + j) (omega arith) (omega arith) ∙ before.differences j less)
          (rw (new_high, difference, old_low, old_high) refl);
      others = λ q away.
          new_other q (away c (omega arith)).0 (away c (omega arith)).1 ∙ before.others q (λ j less. away j (omega arith));
    }

-- two rows that are joined, with steps before or after that leave them as they are
pub AreJoined-later : (width low high t : ℕ) (old mid new : List ℕ) → AreJoined width low high t old mid → SameRow width low mid new → SameRow width high mid new
    → AreJoined width low high t old new
AreJoined-later width low high t old mid new joined same_low same_high = record {
  sums = λ c h. same_low c h ∙ joined.sums c h;
  differences = λ c h. same_high c h ∙ joined.differences c h;
}

pub AreJoined-earlier : (width low high t : ℕ) (old mid new : List ℕ) → SameRow width low old mid → SameRow width high old mid → AreJoined width low high t mid new
    → AreJoined width low high t old new
AreJoined-earlier width low high t old mid new same_low same_high joined = record {
  sums = λ c h. joined.sums c h ∙ rw (same_low c h, same_high c h) refl;
  differences = λ c h. joined.differences c h ∙ rw (same_low c h, same_high c h) refl;
}

-- the rows below i of the two halves of a block are joined, and all other rows are as they were
pub record HalvesJoined (width first half i stride : ℕ) (powers old new : List ℕ) : Type 0 where
  pub below : AreBelowPrime new
  pub joined : (j : ℕ) → j < i → AreJoined width (first + j) (first + half + j) (get_or powers (j * stride) 0) old new
  pub others : (r : ℕ) → ((j : ℕ) → j < i → (r ≢ first + j) × (r ≢ first + half + j)) → SameRow width r old new

pub HalvesJoined-more : (width first half i stride : ℕ) (powers old mid new : List ℕ) → HalvesJoined width first half i stride powers old mid → i < half
    → AreBelowPrime new → AreJoined width (first + i) (first + half + i) (get_or powers (i * stride) 0) mid new
    → ((r : ℕ) → r ≢ first + i → r ≢ first + half + i → SameRow width r mid new) → HalvesJoined width first half (i + 1) stride powers old new
HalvesJoined-more width first half i stride powers old mid new before h below now same = record {
  below = below;
  joined =
      below_more _ i
      (λ j less.
      AreJoined-later width (first + j) (first + half + j) _ old mid new (before.joined j less)
      (same (first + j) (omega arith) (omega arith)) (same (first + half + j) (omega arith) (omega arith)))
      (AreJoined-earlier width (first + i) (first + half + i) _ old mid new
      (before.others (first + i) (λ j less. (omega arith, omega arith)))
      (before.others (first + half + i) (λ j less. (omega arith, omega arith))) now);
  others = λ r apart c k.
      same r (apart i (omega arith)).0 (apart i (omega arith)).1 c k ∙ before.others r (λ j less. apart j (omega arith)) c k;
}

-- the blocks below b are joined, and the rows after them are as they were
pub record BlocksJoined (width half b stride : ℕ) (powers old new : List ℕ) : Type 0 where
  pub below : AreBelowPrime new
  pub joined : AreBlocksJoined width half b stride powers old new
  pub others : (r : ℕ) → b * (2 * half) ≤ r → SameRow width r old new

pub BlocksJoined-more : (width half b stride : ℕ) (powers old mid new : List ℕ) → BlocksJoined width half b stride powers old mid → AreBelowPrime new
    → ((i : ℕ) → i < half → AreJoined width (b * (2 * half) + i) (b * (2 * half) + half + i) (get_or powers (i * stride) 0) mid new)
    → ((r : ℕ) → (r < b * (2 * half)) ⊎ (b * (2 * half) + 2 * half ≤ r) → SameRow width r mid new)
    → BlocksJoined width half (b + 1) stride powers old new
BlocksJoined-more width half b stride powers old mid new before below now same = record {
  below = below;
  joined = λ d i less h. below_more (λ d. (i : ℕ) → i < half → AreJoined width (d * (2 * half) + i) (d * (2 * half) + half + i) (get_or powers (i * stride) 0) old new) b
      (λ d less i h.
      let block : (d + 1) * (2 * half) ≤ b * (2 * half) = mul-le (d + 1) (2 * half) b (2 * half) (omega arith) (omega arith) in
      let low : d * (2 * half) + i < b * (2 * half) = omega arith in
      let high : d * (2 * half) + half + i < b * (2 * half) = omega arith in
      AreJoined-later width (d * (2 * half) + i) (d * (2 * half) + half + i) _ old mid new (before.joined d i less h)
      (same (d * (2 * half) + i) (inl low)) (same (d * (2 * half) + half + i) (inl high)))
      (λ i h.
      AreJoined-earlier width (b * (2 * half) + i) (b * (2 * half) + half + i) _ old mid new (before.others (b * (2 * half) + i) (omega arith))
      (before.others (b * (2 * half) + half + i) (omega arith)) (now i h))
      d less i h;
  others = λ r past c h.
      let after : b * (2 * half) + 2 * half ≤ r = omega arith in
      same r (inr after) c h ∙ before.others r (omega arith) c h;
}

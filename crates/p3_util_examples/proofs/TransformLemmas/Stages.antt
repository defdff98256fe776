-- The state of a transform at the start, after each stage and at the end.
use Rattle.std.proofs.Common.{◌≡◌, ℕ, suc, ◌+◌, ◌-◌, ◌*◌, ◌/◌, ◌%◌, ◌^◌, ◌<◌, List, [], ◌++◌, length, get_or, take, drop, inl, inr, refl, sym, ap, subst, ◌∙◌, mod-eq_of_lt, mul_comm, mul-lt-mul_of_pos_right, unwrap_or, arith}
use Rattle.std.proofs.lemmas.Bool.{cases_lt}
use Rattle.std.proofs.lemmas.List.{append-nil, drop_all, get_or_past, take_all}
use Rattle.std.proofs.lemmas.Nat.{div-add-mod', div_below, mod_below, pow-add, pow_pos}
use Rattle.std.proofs.lemmas.Option.{unwrap_or-slice_get}
use Rattle.p3_util.specs.Digits.{rev}
use Rattle.p3_util.specs.Reversal.{IsRowReversal}
use Rattle.p3_util_examples.specs.Stages.{AreBelowPrime, AreBlocksJoined, ArePowers, IsRoot, IsStage, part}
use Rattle.p3_util_examples.specs.Transform.{IsTransformed}
use Rattle.p3_util_examples.specs.declared.transform.field.TheConstants.{PRIME}
use Rattle.p3_util_examples.proofs.TransformLemmas.Parts.{part-all, part-difference, part-one, part-sum}

-- rows in the order of reversed index bits, number by number
reversed_number : (width k r c : ℕ) (old new : List ℕ) → length old ≡ width * 2 ^ k → IsRowReversal width old new → r < 2 ^ k → c < width
    → get_or new (r * width + c) 0 ≡ get_or old (rev k r * width + c) 0
reversed_number width k r c old new len reversal hr hc =
    sym (unwrap_or-slice_get new (r * width + c) 0) ∙ ap (λ o. unwrap_or o 0) (reversal.places k r c len hr hc)
    ∙ unwrap_or-slice_get old (rev k r * width + c) 0

pub AreBelowPrime-reversed : (width k : ℕ) (old new : List ℕ) → length old ≡ width * 2 ^ k → IsRowReversal width old new → AreBelowPrime old → AreBelowPrime new
AreBelowPrime-reversed width k old new len reversal small q = elim (cases_lt q (length new)) [
  | inl inside ↦
      let within : q < width * 2 ^ k = omega (arith, reversal.same_length) in
      let some : 0 < width = grind arith in
      let row : q / width < 2 ^ k = div_below q width (2 ^ k) some (omega arith) in
      let place : q / width * width + q % width ≡ q = div-add-mod' q width in
      let moved = reversed_number width k (q / width) (q % width) old new len reversal row (mod_below q width some) in
      let below : get_or new (q / width * width + q % width) 0 < PRIME = rw moved (small (rev k (q / width) * width + q % width)) in
      rw place at below
  | inr past ↦ rw (get_or_past new q 0 past) (omega arith)
]

-- rows of one number each, in the order of reversed index bits
pub IsStage-first : (root width k : ℕ) (old new : List ℕ) → length old ≡ width * 2 ^ k → AreBelowPrime old → IsRowReversal width old new
    → IsStage root width k 0 old new
IsStage-first root width k old new len small reversal = record {
  same_length = reversal.same_length;
  places = λ b i c hb hi hc.
      let first : b * 2 ^ 0 + i ≡ b = omega arith in
      let item = get_or old (rev k b * width + c) 0 in
      let one = part-one (λ j. get_or old (j * width + c) 0) root k b i in
      rw (first, one, reversed_number width k b c old new len reversal hb hc) (sym (mod-eq_of_lt (small (rev k b * width + c))));
}

-- two neighbouring blocks are joined
pub IsStage-next : (root width m s : ℕ) (powers old mid new : List ℕ) → IsRoot (m + s + 1) root → ArePowers root (2 ^ (m + s)) powers
    → IsStage root width (m + 1) s old mid → length new ≡ length mid → AreBlocksJoined width (2 ^ s) (2 ^ m) (2 ^ m) powers mid new
    → IsStage root width m (s + 1) old new
IsStage-next root width m s powers old mid new is_root are_powers before same joined = record {
  same_length = same ∙ before.same_length;
  places = λ b i c hb hi hc.
      let x : ℕ → ℕ = λ j. get_or old (j * width + c) 0 in
      let size : 2 ^ (s + 1) ≡ 2 * 2 ^ s = pow-add 2 s 1 ∙ omega arith in
      let blocks : 2 ^ (m + 1) ≡ 2 * 2 ^ m = pow-add 2 m 1 ∙ omega arith in
      let minus_one = is_root (m + s) refl in
      let up : s + 1 ≡ suc s = omega arith in
      let upper : m + 1 ≡ suc m = omega arith in
      let even : (d : ℕ) → d < 2 ^ s → get_or mid ((b * (2 * 2 ^ s) + d) * width + c) 0 ≡ part x root (suc m) s (2 * b) d % PRIME = λ d h.
      let row : 2 * b * 2 ^ s + d ≡ b * (2 * 2 ^ s) + d = grind arith in
      rw (row, upper) at (before.places (2 * b) d c (omega arith) h hc) in
      let odd : (d : ℕ) → d < 2 ^ s → get_or mid ((b * (2 * 2 ^ s) + 2 ^ s + d) * width + c) 0 ≡ part x root (suc m) s (2 * b + 1) d % PRIME = λ d h.
      let row : (2 * b + 1) * 2 ^ s + d ≡ b * (2 * 2 ^ s) + 2 ^ s + d = grind arith in
      rw (row, upper) at (before.places (2 * b + 1) d c (omega arith) h hc) in
      let twiddle : (d : ℕ) → d < 2 ^ s → get_or powers (d * 2 ^ m) 0 ≡ root ^ (2 ^ m * d) % PRIME = λ d h.
      let within : d * 2 ^ m < 2 ^ s * 2 ^ m = mul-lt-mul_of_pos_right h (pow_pos m) in
      let inside : d * 2 ^ m < 2 ^ (m + s) = rw (pow-add 2 m s) (omega arith) in
      are_powers.each (d * 2 ^ m) inside ∙ ap (λ n. root ^ n % PRIME) (mul_comm d (2 ^ m)) in
      elim (cases_lt i (2 ^ s)) [
        | inl low ↦
            let row : b * 2 ^ (s + 1) + i ≡ b * (2 * 2 ^ s) + i = ap (λ n. b * n + i) size in
            ap (λ r. get_or new (r * width + c) 0) row ∙ (joined b i hb low).sums c hc
            ∙ part-sum PRIME x root m s b i _ _ _ (even i low) (odd i low) (twiddle i low) ∙ ap (λ n. part x root m n b i % PRIME) (sym up)
        | inr high ↦
            let d = i - 2 ^ s in
            let is : 2 ^ s + d ≡ i = omega arith in
            let h : d < 2 ^ s = omega arith in
            let row : b * 2 ^ (s + 1) + i ≡ b * (2 * 2 ^ s) + 2 ^ s + d = ap (λ n. b * n + i) size ∙ omega arith in
            ap (λ r. get_or new (r * width + c) 0) row ∙ (joined b d hb h).differences c hc
            ∙ part-difference PRIME x root m s b d _ _ _ (omega arith) minus_one (even d h) (odd d h) (twiddle d h)
            ∙ ap (λ n. part x root m (suc s) b n % PRIME) is ∙ ap (λ n. part x root m n b i % PRIME) (sym up)
      ];
}

-- at the end, one block has all rows
pub IsStage-last : (root width k : ℕ) (old new : List ℕ) → IsStage root width 0 k old new → IsTransformed root width (2 ^ k) old new
IsStage-last root width k old new stage = record {
  same_length = stage.same_length;
  places = λ r c hr hc.
      let row : 0 * 2 ^ k + r ≡ r = omega arith in
      rw (row, part-all (λ j. get_or old (j * width + c) 0) root k r) at (stage.places 0 r c (omega arith) hr hc);
}

-- the number of rows of all blocks of a stage together, and half of it
pub stage_rows : (k s : ℕ) → s < k → 2 ^ (k - 1 - s) * (2 * 2 ^ s) ≡ 2 ^ k
stage_rows k s h =
    let exponent : k ≡ k - 1 - s + s + 1 = omega arith in
    let split : 2 ^ k ≡ 2 ^ (k - 1 - s) * 2 ^ s * 2 ^ 1 = ap (λ n. 2 ^ n) exponent ∙ pow-add 2 (k - 1 - s + s) 1 ∙ ap (λ n. n * 2 ^ 1) (pow-add 2 (k - 1 - s) s) in
    rw split (grind arith)

pub stage_half : (k s : ℕ) → s < k → 2 ^ (k - 1 - s + s) ≡ 2 ^ k / 2
stage_half k s h =
    let exponent : k ≡ k - 1 - s + s + 1 = omega arith in
    let split : 2 ^ k ≡ 2 ^ (k - 1 - s + s) * 2 ^ 1 = ap (λ n. 2 ^ n) exponent ∙ pow-add 2 (k - 1 - s + s) 1 in
    omega arith

-- stage s of k stages
pub IsStage-step : (root width k s : ℕ) (powers old mid new : List ℕ) → s < k → IsRoot k root → ArePowers root (2 ^ k / 2) powers
    → IsStage root width (k - s) s old mid → length new ≡ length mid → AreBlocksJoined width (2 ^ s) (2 ^ (k - 1 - s)) (2 ^ (k - 1 - s)) powers mid new
    → IsStage root width (k - (s + 1)) (s + 1) old new
IsStage-step root width k s powers old mid new h is_root are_powers before same joined =
    let all : k ≡ k - 1 - s + s + 1 = omega arith in
    let earlier : k - s ≡ k - 1 - s + 1 = omega arith in
    let later : k - 1 - s ≡ k - (s + 1) = omega arith in
    subst (λ m. IsStage root width m (s + 1) old new) later
    (IsStage-next root width (k - 1 - s) s powers old mid new (subst (λ n. IsRoot n root) all is_root)
    (subst (λ n. ArePowers root n powers) (sym (stage_half k s h)) are_powers)
    (subst (λ m. IsStage root width m s old mid) earlier before) same joined)

-- the same for equal matrices under other names
pub IsTransformed-same : (root root' width width' height height' : ℕ) (old old' new new' : List ℕ) → root ≡ root' → width ≡ width' → height ≡ height'
    → old ≡ old' → new ≡ new' → IsTransformed root width height old new → IsTransformed root' width' height' old' new'
IsTransformed-same root root' width width' height height' old old' new new' a b c d e t = rw (sym a, sym b, sym c, sym d, sym e) t

-- a list that is written back as a whole
pub written_back : (n : ℕ) (new old : List ℕ) → length new ≡ n → length old ≡ n → new ≡ take n (new ++ drop (length new) old)
written_back n new old same all =
    let none : drop (length new) old ≡ [] = drop_all (length new) old (omega arith) in
    rw (none, append-nil new) (sym (take_all n new (omega arith)))

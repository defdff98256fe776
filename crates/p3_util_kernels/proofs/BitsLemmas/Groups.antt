-- Groups of digits that change places, by masks and shifts on words of 64 bits.
use Rattle.std.proofs.Common.{◌≡◌, ℕ, zero, suc, ◌+◌, ◌-◌, ◌*◌, ◌/◌, ◌%◌, ◌^◌, ◌<◌, ◌≤◌, nat_lt, ltb-true, eqb-true, Bool, true, ◌&&◌, ◌==◌, inl, inr, refl, sym, ◌∙◌, ap, min, max, bit_and, bit_or, shr-shr, pow_pos, arith}
use Rattle.std.proofs.Math.Nat.{min-zero}
use Rattle.std.proofs.lemmas.Bool.{and_parts, cases_lt}
use Rattle.std.proofs.lemmas.Nat.Bits.{bit_at-lt, bit_at-zero, bit_at_and, bit_at_or, bit_at_cat_low, bit_at_cat_high, same_from_bits_below}
use Rattle.p3_util_kernels.specs.Digits.{bit, rev}
use Rattle.p3_util_kernels.proofs.BitsLemmas.Digits.{bit-mod, bit-rev, rev-lt}
use Rattle.p3_util_kernels.proofs.BitsLemmas.Tables.{all_below, all_below-at}

-- x with w zeros below its digits
abbrev up : (w x : ℕ) → ℕ
up w x = x * 2 ^ w + 0

-- what `swap_groups` makes of x
abbrev swapped : (w low x : ℕ) → ℕ
swapped w low x = bit_or (bit_and x low * 2 ^ w % 2 ^ 64) (bit_and (x / 2 ^ w) low)

-- the place from which digit i of it comes
chosen : (digit above below : ℕ) → ℕ
chosen zero above below = below
chosen (suc n) above below = above

abbrev origin : (w low i : ℕ) → ℕ
origin w low i = chosen (bit low i) (w + i) (i - w)

-- At each place, either `low` has a one or `low` moved up by w places.
abbrev apart : (w low i : ℕ) → Bool
apart w low i = (bit low i + bit (up w low) i == 1) && nat_lt (origin w low i) 64

up_low : (w x i : ℕ) → i < w → bit (up w x) i ≡ 0
up_low w x i h = bit_at_cat_low x w 0 i h ∙ bit_at-zero i

up_high : (w x i : ℕ) → w ≤ i → bit (up w x) i ≡ bit x (i - w)
up_high w x i h = bit_at_cat_high x w 0 i (pow_pos w) h

up_and : (w x low i : ℕ) → bit (up w (bit_and x low)) i ≡ min (bit (up w x) i) (bit (up w low) i)
up_and w x low i =
    elim (cases_lt i w) [
      | inl under ↦ rw (up_low w (bit_and x low) i under, up_low w x i under, up_low w low i under) refl
      | inr over ↦ rw (up_high w (bit_and x low) i over, up_high w x i over, up_high w low i over) (bit_at_and x low (i - w))
    ]

digit : (w low x i : ℕ) → i < 64
    → bit (swapped w low x) i ≡ max (min (bit (up w x) i) (bit (up w low) i)) (min (bit x (w + i)) (bit low i))
digit w low x i h =
    let whole : bit_and x low * 2 ^ w ≡ up w (bit_and x low) = omega arith in
    let moved : bit (x / 2 ^ w) i ≡ bit x (w + i) = ap (λ n. n % 2) (shr-shr x w i) in
    let first : bit (bit_and x low * 2 ^ w % 2 ^ 64) i ≡ min (bit (up w x) i) (bit (up w low) i) =
    bit-mod (bit_and x low * 2 ^ w) 64 i h ∙ ap (λ n. bit n i) whole ∙ up_and w x low i in
    let second : bit (bit_and (x / 2 ^ w) low) i ≡ min (bit x (w + i)) (bit low i) =
    bit_at_and (x / 2 ^ w) low i ∙ ap (λ d. min d (bit low i)) moved in
    bit_at_or (bit_and x low * 2 ^ w % 2 ^ 64) (bit_and (x / 2 ^ w) low) i ∙ rw (first, second) refl

-- of two digits, the one beside which a 1 stands
lower : (p q : ℕ) → p < 2 → max (min p 1) (min q 0) ≡ p
lower zero q h = rw (min-zero q) refl
lower (suc zero) q h = rw (min-zero q) refl
lower (suc (suc p)) q h = absurd (omega arith)

upper : (p q : ℕ) → q < 2 → max (min p 0) (min q 1) ≡ q
upper p zero h = rw (min-zero p) refl
upper p (suc zero) h = rw (min-zero p) refl
upper p (suc (suc q)) h = absurd (omega arith)

-- So each digit comes from that place.
moved_by : (w low x i d : ℕ) → bit low i ≡ d → i < 64 → bit low i + bit (up w low) i ≡ 1
    → bit (swapped w low x) i ≡ bit x (chosen d (w + i) (i - w))
unfolding chosen
moved_by w low x i zero is h once =
    let above : bit (up w low) i ≡ 1 = omega arith in
    elim (cases_lt i w) [
      | inl under ↦ let none : bit (up w low) i ≡ 0 = up_low w low i under in absurd (omega arith)
      | inr over ↦ digit w low x i h ∙ rw (is, above, up_high w x i over) (lower (bit x (i - w)) (bit x (w + i)) (bit_at-lt x (i - w)))
    ]
moved_by w low x i (suc zero) is h once =
    let none : bit (up w low) i ≡ 0 = omega arith in
    digit w low x i h ∙ rw (is, none) (upper (bit (up w x) i) (bit x (w + i)) (bit_at-lt x (w + i)))
moved_by w low x i (suc (suc d)) is h once = let few : bit low i < 2 = bit_at-lt low i in absurd (omega arith)

moved : (w low x y i : ℕ) → all_below (apart w low) 64 ≡ true → y ≡ swapped w low x → i < 64
    → (bit y i ≡ bit x (origin w low i)) × (origin w low i < 64)
moved w low x y i all is h =
    let (once, within) = and_parts (bit low i + bit (up w low) i == 1) (nat_lt (origin w low i) 64) (all_below-at (apart w low) 64 i all h) in
    (ap (λ n. bit n i) is ∙ moved_by w low x i (bit low i) refl h (eqb-true _ _ once), ltb-true _ _ within)

-- the place from which digit i comes in the end
abbrev first : ℕ → ℕ
first i = origin 32 4294967295 (origin 16 281470681808895 (origin 8 71777214294589695 (origin 4 1085102592571150095 (origin 2 3689348814741910323 (origin 1 6148914691236517205 i)))))

reverses : (i : ℕ) → i < 64 → first i ≡ 63 - i
unfolding all_below chosen
reverses i h = eqb-true _ _ (all_below-at (λ i. first i == 63 - i) 64 i refl h)

pub reversed : (x a b c d e y : ℕ) → y < 2 ^ 64
    → a ≡ swapped 32 4294967295 x → b ≡ swapped 16 281470681808895 a → c ≡ swapped 8 71777214294589695 b
    → d ≡ swapped 4 1085102592571150095 c → e ≡ swapped 2 3689348814741910323 d → y ≡ swapped 1 6148914691236517205 e
    → y ≡ rev 64 x
unfolding all_below chosen
reversed x a b c d e y fits is_a is_b is_c is_d is_e is_y =
    same_from_bits_below 64 y (rev 64 x) fits (rev-lt 64 x) (λ i h.
    let (from_e, in_e) = moved 1 6148914691236517205 e y i refl is_y h in
    let (from_d, in_d) = moved 2 3689348814741910323 d e _ refl is_e in_e in
    let (from_c, in_c) = moved 4 1085102592571150095 c d _ refl is_d in_d in
    let (from_b, in_b) = moved 8 71777214294589695 b c _ refl is_c in_c in
    let (from_a, in_a) = moved 16 281470681808895 a b _ refl is_b in_b in
    let (from_x, in_x) = moved 32 4294967295 x a _ refl is_a in_a in
    from_e ∙ from_d ∙ from_c ∙ from_b ∙ from_a ∙ from_x ∙ ap (bit x) (reverses i h ∙ omega arith) ∙ sym (bit-rev 64 x i h))

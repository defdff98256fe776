-- Short names, as the code finds them: by the first mark and by the first `::`.
use Rattle.std.proofs.Common.{◌≡◌, ℕ, zero, suc, ◌+◌, ◌<◌, ◌≤◌, ◌≢◌, ◌⊎◌, true, false, ◌==◌, ◌&&◌, List, [], ◌∷◌, ◌++◌, length, get_or, take, drop, Some, None, refl, sym, add-one, append-nil, inl, inr, IsUtf8, IsCharBoundary, arith}
use Rattle.std.proofs.lemmas.Bool.Decides.{nat_tests}
use Rattle.std.proofs.lemmas.List.Quantifiers.{position-Some}
use Rattle.std.proofs.lemmas.List.Sums.{fails_before_first}
use Rattle.std.proofs.lemmas.Str.{IsCharBoundary-after_ascii}
use Rattle.std.specs.List.{position, position_or_len}
use Rattle.std.specs.Str.Pattern.{HasTextAt}
use Rattle.p3_util_kernels.specs.Names.{is_mark, in_front, name_pieces, after_colons, last_part, short_name}

-- two bytes are `::`, or not
colons_tell : (b c : ℕ) → (((b == 58 && c == 58) ≡ true) × ((b ≡ 58) × (c ≡ 58))) ⊎ (((b == 58 && c == 58) ≡ false) × ((b ≡ 58) → (c ≡ 58) → ⊥))
colons_tell b c = grind (arith, nat_tests)

-- a text without `::`
after_colons-none : (whole t : List ℕ) → ((i : ℕ) → i ≤ length t → (rest : List ℕ) → drop i t ≢ 58 ∷ 58 ∷ rest) → after_colons whole t ≡ whole
unfolding after_colons
after_colons-none whole [] h = refl
after_colons-none whole (b ∷ []) h = refl
after_colons-none whole (b ∷ c ∷ t) h =
    elim (colons_tell b c) [
      | inl (test, is) ↦ absurd (h 0 (omega arith) t (rw (is.0, is.1) refl))
      | inr (test, not) ↦ rw test (after_colons-none whole (c ∷ t) (λ i le rest. h (suc i) (omega arith) rest))
    ]

-- a text whose first `::` is at i
after_colons-first : (whole t : List ℕ) (i : ℕ) (rest : List ℕ) → ((k : ℕ) → k < i → (r : List ℕ) → drop k t ≢ 58 ∷ 58 ∷ r)
    → drop i t ≡ 58 ∷ 58 ∷ rest → after_colons whole t ≡ after_colons rest rest
unfolding after_colons
after_colons-first whole [] zero rest before here = cc
after_colons-first whole [] (suc i) rest before here = cc
after_colons-first whole (b ∷ []) zero rest before here = cc
after_colons-first whole (b ∷ []) (suc zero) rest before here = cc
after_colons-first whole (b ∷ []) (suc (suc i)) rest before here = cc
after_colons-first whole (b ∷ c ∷ t) zero rest before here =
    let first : b ≡ 58 = cc in
    let second : c ≡ 58 = cc in
    rw (first, second) cc
after_colons-first whole (b ∷ c ∷ t) (suc i) rest before here =
    elim (colons_tell b c) [
      | inl (test, is) ↦ absurd (before 0 (omega arith) t (rw (is.0, is.1) refl))
      | inr (test, not) ↦ rw test (after_colons-first whole (c ∷ t) i rest (λ k less r. before (suc k) (omega arith) r) here)
    ]

pub last_part-whole : (t : List ℕ) → ((i : ℕ) → i ≤ length t → (rest : List ℕ) → drop i t ≢ 58 ∷ 58 ∷ rest) → last_part t ≡ t
last_part-whole t h = after_colons-none t t h

pub last_part-after : (t : List ℕ) (i j : ℕ)
    → ((k : ℕ) → k < i → (r : List ℕ) → drop k t ≢ 58 ∷ 58 ∷ r)
    → HasTextAt (58 ∷ 58 ∷ []) t i j → last_part t ≡ last_part (drop j t)
last_part-after t i j before here = after_colons-first t t i (drop j t) before here.split

-- the part after the last `::` is no longer than the text
after_colons-length : (whole t : List ℕ) (n : ℕ) → length whole ≤ n → length t ≤ n → length (after_colons whole t) ≤ n
unfolding after_colons
after_colons-length whole [] n h k = h
after_colons-length whole (b ∷ []) n h k = h
after_colons-length whole (b ∷ c ∷ t) n h k =
    elim (colons_tell b c) [
      | inl (test, is) ↦ rw test (after_colons-length t t n (omega arith) (omega arith))
      | inr (test, not) ↦ rw test (after_colons-length whole (c ∷ t) n h (omega arith))
    ]

pub length-last_part : (t : List ℕ) → length (last_part t) ≤ length t
length-last_part t = after_colons-length t t (length t) (omega arith) (omega arith)

-- a name without marks is one piece
name_pieces-none : (t : List ℕ) → ((i : ℕ) → i < length t → is_mark (get_or t i 0) ≡ false) → name_pieces t ≡ t ∷ []
unfolding name_pieces in_front
name_pieces-none [] h = refl
name_pieces-none (b ∷ t) h = rw (h 0 (omega arith), name_pieces-none t (λ i less. h (suc i) (omega arith))) refl

-- the first piece ends at the first mark
name_pieces-first : (t : List ℕ) (i : ℕ) → i < length t
    → ((k : ℕ) → k < i → is_mark (get_or t k 0) ≡ false) → is_mark (get_or t i 0) ≡ true
    → name_pieces t ≡ take (suc i) t ∷ name_pieces (drop (suc i) t)
unfolding name_pieces in_front
name_pieces-first [] i less before here = absurd (omega arith)
name_pieces-first (b ∷ t) zero less before here = rw here refl
name_pieces-first (b ∷ t) (suc i) less before here =
    let rest = name_pieces-first t i (omega arith) (λ k below. before (suc k) (omega arith)) here in
    rw (before 0 (omega arith), rest) refl

-- the two rules for the short name, one for each answer of `position`
pub short_name-unmarked : (t : List ℕ) → None ≡ position is_mark t → short_name t ≡ last_part t
unfolding short_name
short_name-unmarked t e =
    let long : length t ≤ position_or_len is_mark t = grind (arith, nat_tests, e) in
    rw (name_pieces-none t (λ i less. fails_before_first is_mark t i 0 (omega arith))) (append-nil (last_part t))

pub short_name-marked : (t : List ℕ) (i : ℕ) → Some i ≡ position is_mark t
    → short_name t ≡ last_part (take (i + 1) t) ++ short_name (drop (i + 1) t)
unfolding short_name
short_name-marked t i e =
    let (less, here, before) = position-Some is_mark t i 0 (sym e) in
    rw (add-one, name_pieces-first t i less before here) refl

-- a text may be cut after a mark
pub cut_after_mark : (t : List ℕ) (i : ℕ) → IsUtf8 t → Some i ≡ position is_mark t → (i < length t) × IsCharBoundary t (i + 1)
cut_after_mark t i text e =
    let (less, here, before) = position-Some is_mark t i 0 (sym e) in
    (less, IsCharBoundary-after_ascii t i text less (grind (arith, nat_tests, here)))

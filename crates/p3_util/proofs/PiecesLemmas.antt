-- What follows from `specs/Pieces.antt`: how many pieces there are, which piece is at which place,
-- and what one more piece adds.
use Rattle.std.proofs.Common.{◌≡◌, ℕ, zero, suc, ◌+◌, ◌*◌, ◌/◌, ◌%◌, ◌<◌, ◌≤◌, List, [], ◌∷◌, ◌++◌, map, length, take, drop, refl, sym, ap, ap₂, ◌∙◌, subst, rules, false, length-append, length-drop, append-nil, ◌==◌, arith}
use borrow.Author.Tests.{tests}
use Rattle.std.proofs.Math.Nat.{lt_of_mul-lt-mul_left, mul-le-mul_right}
use Rattle.std.proofs.Math.Seq.{drop-append_seam}
use Rattle.std.proofs.lemmas.Grind.{div_ceil_times, flat_map-append}
use Rattle.std.proofs.lemmas.List.{take-append-le, drop-append-le, length-take-le, take-append-drop, take_all}
use Rattle.std.proofs.lemmas.List.FromFn.{map-range_with_len_more, length-map-range_with_len}
use Rattle.std.proofs.lemmas.Nat.{div-add-mod'}
use Rattle.std.specs.Int.{div_ceil}
use Rattle.std.specs.List.{flat_map, range_with_len}
use Rattle.p3_util.specs.Flat.{flat}
use Rattle.p3_util.specs.Pieces.{piece_count, piece, pieces}

pub eq_zero-false : (n : ℕ) → 0 < n → (n == 0) ≡ false
eq_zero-false n some = search (rules, tests)

less : (n p q : ℕ) → p * n < q * n → p < q
less n p q h = lt_of_mul-lt-mul_left n (let m : n * p < n * q = omega arith in m)

-- the pieces have room for all items, and one piece fewer has not
room : (n a : ℕ) → 0 < n → (a ≤ piece_count n a * n) × (piece_count n a * n < a + n)
room zero a some = absurd (omega arith)
room (suc k) a some = div_ceil_times a (suc k) some

-- only one number of pieces is so
only : (n a k q : ℕ) → (a ≤ q * n) × (q * n < a + n) → a ≤ k * n → k * n < a + n → q ≡ k
only n a k q h enough most =
    let below : q < k + 1 = less n q (k + 1) (omega (arith, h.1)) in
    let above : k < q + 1 = less n k (q + 1) (omega (arith, h.0)) in
    omega arith

pub piece_count-more : (k n m : ℕ) → 0 < m → m ≤ n → piece_count n (k * n + m) ≡ k + 1
piece_count-more k n m some fits = only n (k * n + m) (k + 1) (piece_count n (k * n + m)) (room n (k * n + m) (omega arith)) (omega arith) (omega arith)

pub piece_count-whole : (k n : ℕ) → 0 < n → piece_count n (k * n) ≡ k
piece_count-whole k n some = only n (k * n) k (piece_count n (k * n)) (room n (k * n) some) (omega arith) (omega arith)

fewer : (n a b p q : ℕ) → p * n < a + n → a + n ≤ b → b ≤ q * n → p < q
fewer n a b p q h fall k = less n p q (omega arith)

-- at least n items fewer make at least one piece fewer
pub piece_count-falls : (n a b : ℕ) → 0 < n → a + n ≤ b → piece_count n a < piece_count n b
piece_count-falls n a b some fall = fewer n a b (piece_count n a) (piece_count n b) (room n a some).1 fall (room n b some).0

pub piece_count-none : (n : ℕ) → piece_count n 0 ≡ 0
piece_count-none zero = refl
piece_count-none (suc n) = only (suc n) 0 0 (piece_count (suc n) 0) (room (suc n) 0 (omega arith)) (omega arith) (omega arith)

pub piece_count-some : (n a : ℕ) → 0 < n → 0 < a → 0 < piece_count n a
piece_count-some n a some items = less n 0 (piece_count n a) (let h = (room n a some).0 in omega (arith, items, h))

same_map : {X : Type 0} (f g : ℕ → X) (a n : ℕ) → ((p : ℕ) → p < a + n → f p ≡ g p) → map f (range_with_len a n) ≡ map g (range_with_len a n)
same_map f g a zero same = refl
same_map f g a (suc n) same = ap₂ (λ x xs. x ∷ xs) (same a (omega arith)) (same_map f g (a + 1) n (λ p h. same p (omega arith)))

module _ {A : Type 0} where
  -- a piece that lies within the front of a list is a piece of that front
  piece-append : (n k p : ℕ) (xs ys : List A) → length xs ≡ k * n → p < k → piece n (xs ++ ys) p ≡ piece n xs p
  piece-append n k p xs ys whole within =
      let h : (p + 1) * n ≤ k * n = mul-le-mul_right n (omega arith) in
      let a : p * n ≤ length xs = omega arith in
      let b : n ≤ length (drop (p * n) xs) = omega (arith, length-drop (p * n) xs) in
      rw (drop-append-le (p * n) xs ys a) (take-append-le n (drop (p * n) xs) ys b)

  -- the piece after the whole ones
  piece-last : (n k : ℕ) (xs ys : List A) → length xs ≡ k * n → length ys ≤ n → piece n (xs ++ ys) k ≡ ys
  piece-last n k xs ys whole fits = rw (sym whole, drop-append_seam xs ys) (take_all n ys fits)

  -- one more piece after k whole ones
  pub pieces-more : (n k : ℕ) (xs ys : List A) → length xs ≡ k * n → 0 < length ys → length ys ≤ n → pieces n (xs ++ ys) ≡ pieces n xs ++ ys ∷ []
  unfolding pieces
  pieces-more n k xs ys whole some fits =
      let count : piece_count n (length (xs ++ ys)) ≡ k + 1 = rw (length-append xs ys, whole) (piece_count-more k n (length ys) some fits) in
      let before : piece_count n (length xs) ≡ k = rw whole (piece_count-whole k n (omega arith)) in
      rw (count, before, map-range_with_len_more (piece n (xs ++ ys)) 0 k k (omega arith), piece-last n k xs ys whole fits, same_map (piece n (xs ++ ys)) (piece n xs) 0 k (λ p h. piece-append n k p xs ys whole (omega arith))) refl

  pub pieces-nil : (n : ℕ) → pieces n [] ≡ (let none : List (List A) = [] in none)
  unfolding pieces
  pieces-nil n = ap (λ k. map (piece n []) (range_with_len 0 k)) (piece_count-none n)

  pub pieces-zero : (xs : List A) → pieces 0 xs ≡ (let none : List (List A) = [] in none)
  unfolding pieces
  pieces-zero xs = refl

  pub length-pieces : (n : ℕ) (xs : List A) → length (pieces n xs) ≡ piece_count n (length xs)
  unfolding pieces
  length-pieces n xs = length-map-range_with_len (piece n xs) 0 (piece_count n (length xs))

  -- The pieces are joined after f has changed each of them. It leaves whole pieces as they are.
  module _ (f : List A → List A) (n : ℕ) (same : (ys : List A) → length ys ≡ n → f ys ≡ ys) where
    -- whole pieces, joined, are the list
    pub joined-whole : (k : ℕ) (xs : List A) → 0 < n → length xs ≡ k * n → flat_map f (pieces n xs) ≡ xs
    joined-whole zero [] some whole = rw (pieces-nil n) refl
    joined-whole zero (x ∷ xs) some whole = absurd (omega arith)
    joined-whole (suc k) xs some whole =
        let front = take (k * n) xs in
        let back = drop (k * n) xs in
        let h : k * n + n ≡ length xs = omega arith in
        let l : length front ≡ k * n = length-take-le (k * n) xs (omega arith) in
        let b : length back ≡ n = omega (arith, length-drop (k * n) xs) in
        let e : front ++ back ≡ xs = take-append-drop (k * n) xs in
        let more : pieces n xs ≡ pieces n front ++ back ∷ [] = subst (λ l. pieces n l ≡ pieces n front ++ back ∷ []) e (pieces-more n k front back l (omega arith) (omega arith)) in
        ap (λ l. flat_map f l) more ∙ flat_map-append f (pieces n front) (back ∷ []) ∙ rw (joined-whole k front some l, append-nil (f back), same back b) e

    -- and one more piece comes after them
    pub joined-more : (k : ℕ) (front back : List A) → length front ≡ k * n → 0 < length back → length back ≤ n → flat_map f (pieces n (front ++ back)) ≡ front ++ f back
    joined-more k front back whole some fits =
        ap (λ l. flat_map f l) (pieces-more n k front back whole some fits)
        ∙ flat_map-append f (pieces n front) (back ∷ []) ∙ rw (joined-whole k front (omega arith) whole, append-nil (f back)) refl

  -- a property of all lists that consist of whole pieces and a shorter rest is a property of all lists
  pub in-pieces : (P : List A → Type 0) (n : ℕ) → 0 < n → ((k : ℕ) (front back : List A) → length front ≡ k * n → length back < n → P (front ++ back)) → (xs : List A) → P xs
  in-pieces P n some each xs =
      let k = length xs / n in
      let e : k * n + length xs % n ≡ length xs = div-add-mod' (length xs) n in
      let h : length (take (k * n) xs) ≡ k * n = length-take-le (k * n) xs (omega arith) in
      let b : length (drop (k * n) xs) < n = omega (arith, length-drop (k * n) xs) in
      subst P (take-append-drop (k * n) xs) (each k (take (k * n) xs) (drop (k * n) xs) h b)

  joined-by : (n k : ℕ) (front back : List A) → 0 < n → length front ≡ k * n → length back < n → flat (pieces n (front ++ back)) ≡ front ++ back
  joined-by n k front [] some whole short = rw (append-nil front) (joined-whole (λ l. l) n (λ _ _. refl) k front some whole)
  joined-by n k front (y ∷ ys) some whole short = joined-more (λ l. l) n (λ _ _. refl) k front (y ∷ ys) whole (omega arith) (omega arith)

  -- all pieces, joined, are the list
  pub joined-pieces : (n : ℕ) (xs : List A) → 0 < n → flat (pieces n xs) ≡ xs
  joined-pieces n xs some = in-pieces (λ l. flat (pieces n l) ≡ l) n some (λ k front back whole short. joined-by n k front back some whole short) xs

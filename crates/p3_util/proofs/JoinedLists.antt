-- Two joined lists, and an exchange in them: in the first list, in the second, or across both.
use Rattle.std.proofs.Common.{ℕ, ◌≡◌, ◌+◌, ◌-◌, ◌<◌, ◌≤◌, inl, inr, List, [], ◌∷◌, ◌++◌, length, get_or, set, refl, sym, ap, ◌∙◌, length-append, swap, arith}
use Rattle.std.proofs.lemmas.Bool.{cases_eq}
use Rattle.std.proofs.lemmas.List.{get_or_append_left, get_or-append-add, get_or_read, length-set, set-append_left, set-append_right, set_comm}
use Rattle.std.proofs.lemmas.List.Edits.{swap_is}

module _ {A : Type 0} where
  -- a write at a place after the end of the first list
  pub set-behind : (xs ys : List A) (n k : ℕ) (w : A) → length xs ≡ n → set (xs ++ ys) (n + k) w ≡ xs ++ set ys k w
  set-behind xs ys n k w is = let same : n + k - n ≡ k = omega arith in set-append_right xs ys n (n + k) w is (omega arith) ∙ ap (λ p. xs ++ set ys p w) same

  -- two places get the items v and w, each of which was at the other place
  exchanged : (l : List A) (i j : ℕ) (v w d : A) → i < length l → j < length l → v ≡ get_or l j d → w ≡ get_or l i d → set (set l i v) j w ≡ swap l i j
  exchanged l i j v w d li lj from-j from-i = ap (λ z. set (set l i z) j w) from-j ∙ ap (λ z. set (set l i (get_or l j d)) j z) from-i ∙ swap_is l i j d li lj

  -- one place in each list; the two places hold x and y
  pub across : (xs ys : List A) (i j : ℕ) (x y : A) → i < length xs → j < length ys → x ≡ get_or xs i x → y ≡ get_or ys j y
      → set xs i y ++ set ys j x ≡ swap (xs ++ ys) i (length xs + j)
  across xs ys i j x y li lj at-i at-j =
      let n = length xs in
      let all = length-append xs ys in
      let whole : set xs i y ++ set ys j x ≡ set (set (xs ++ ys) i y) (n + j) x = rw (set-append_left xs ys i y li) (sym (set-behind (set xs i y) ys n j x (length-set xs i y))) in
      whole ∙ exchanged (xs ++ ys) i (n + j) y x x (omega (arith, all)) (omega (arith, all)) (get_or_read ys j y lj at-j x ∙ sym (get_or-append-add xs ys j x)) (at-i ∙ sym (get_or_append_left xs ys x i li))

  -- both places in the first list
  pub in-front : (xs ys : List A) (i j : ℕ) → i < length xs → j < length xs → swap xs i j ++ ys ≡ swap (xs ++ ys) i j
  in-front [] ys i j li lj = absurd (omega arith)
  in-front (d ∷ ds) ys i j li lj =
      let xs = d ∷ ds in
      let v = get_or xs j d in
      let w = get_or xs i d in
      let all = length-append xs ys in
      let lj' : j < length (set xs i v) = rw (length-set xs i v) lj in
      let whole : set (set xs i v) j w ++ ys ≡ set (set (xs ++ ys) i v) j w = rw (set-append_left xs ys i v li) (sym (set-append_left (set xs i v) ys j w lj')) in
      whole ∙ exchanged (xs ++ ys) i j v w d (omega (arith, all)) (omega (arith, all)) (sym (get_or_append_left xs ys d j lj)) (sym (get_or_append_left xs ys d i li))

  -- both places in the second list
  pub behind : (xs ys : List A) (i j : ℕ) → i < length ys → j < length ys → xs ++ swap ys i j ≡ swap (xs ++ ys) (length xs + i) (length xs + j)
  behind xs [] i j li lj = absurd (omega arith)
  behind xs (d ∷ ds) i j li lj =
      let ys = d ∷ ds in
      let n = length xs in
      let v = get_or ys j d in
      let w = get_or ys i d in
      let all = length-append xs ys in
      let whole : xs ++ set (set ys i v) j w ≡ set (set (xs ++ ys) (n + i) v) (n + j) w = rw (set-behind xs ys n i v refl) (sym (set-behind xs (set ys i v) n j w refl)) in
      whole ∙ exchanged (xs ++ ys) (n + i) (n + j) v w d (omega (arith, all)) (omega (arith, all)) (sym (get_or-append-add xs ys j d)) (sym (get_or-append-add xs ys i d))

  pub in-back : (xs ys : List A) (n i j : ℕ) → n ≡ length xs → n ≤ i → n ≤ j → i < length (xs ++ ys) → j < length (xs ++ ys)
      → xs ++ swap ys (i - n) (j - n) ≡ swap (xs ++ ys) i j
  in-back xs ys n i j is past-i past-j li lj =
      let all = length-append xs ys in
      let i-is : length xs + (i - n) ≡ i = omega (arith, is) in
      let j-is : length xs + (j - n) ≡ j = omega (arith, is) in
      rw (i-is, j-is) at (behind xs ys (i - n) (j - n) (omega (arith, all, is)) (omega (arith, all, is)))

  -- exchanging i with j is the same as exchanging j with i
  pub swap-sym : (xs : List A) (i j : ℕ) → swap xs i j ≡ swap xs j i
  swap-sym [] i j = refl
  swap-sym (x ∷ xs) i j = elim (cases_eq i j) [
    | inl same ↦ rw same refl
    | inr apart ↦ set_comm (x ∷ xs) i j _ _ apart
  ]

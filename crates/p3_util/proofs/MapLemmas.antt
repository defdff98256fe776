-- The place that `position` finds, compared with the look-up and the write by key.
use Rattle.std.proofs.Common.{◌≡◌, ℕ, zero, suc, ◌+◌, ◌<◌, ◌≤◌, Bool, true, false, not, cond, List, [], ◌∷◌, ◌++◌, Some, None, length, get_or, slice_set, refl, sym, ap, ◌∙◌, is_some, position, nat_lt, inl, ◌⊎◌, ltb-false, arith}
use Rattle.std.specs.List.{IsDistinct, position_or_len}
use Rattle.std.specs.Map.{lookup, set_value, keys_of}
use Rattle.std.specs.Cmp.{IsEquivalence}
use Rattle.std.proofs.lemmas.List.Quantifiers.{position-Some}
use Rattle.std.proofs.lemmas.List.{map-append, get_or_push}
use Rattle.std.proofs.lemmas.Map.{keys-set_value}
use Rattle.std.proofs.lemmas.Map.Keys.{IsDistinct-push}
use Rattle.std.proofs.lemmas.Map.Made.{is_some-lookup}
use Rattle.std.proofs.Math.Path.{fun_ext}
use Rattle.std.proofs.iter.runs.Sources.{from_front}
use Rattle.std.specs.Map.Iter.{TakesFirst, ShowsInOrder}
use Rattle.p3_util.specs.LinearMap.{value_at, with_value, put, HasDistinctKeys}

module _ {K V : Type 0} (test : K → Bool) where
  -- the pair at the first place that passes has the value that the look-up finds
  lookup_first : (es : List (K × V)) (i : ℕ) (e : K × V) → i < length es → e ≡ get_or es i e → test e.0 ≡ true → ((k : ℕ) → k < i → test (get_or es k e).0 ≡ false) → lookup test es ≡ Some e.1
  lookup_first [] i e within at passes before = absurd (omega arith)
  lookup_first (x ∷ xs) zero e within at passes before = rw (← at) (rw passes refl)
  lookup_first (x ∷ xs) (suc i) e within at passes before =
      rw (before 0 (omega arith)) (lookup_first xs i e (omega arith) at passes (λ k h. before (suc k) (omega arith)))

  -- a write at the first place that passes is a write by key
  set_first : (es : List (K × V)) (i : ℕ) (e : K × V) (w : V) → i < length es → e ≡ get_or es i e → test e.0 ≡ true → ((k : ℕ) → k < i → test (get_or es k e).0 ≡ false) → slice_set es i (e.0, w) ≡ set_value test es w
  set_first [] i e w within at passes before = absurd (omega arith)
  set_first (x ∷ xs) zero e w within at passes before = rw (← at) (rw passes refl)
  set_first (x ∷ xs) (suc i) e w within at passes before =
      rw (before 0 (omega arith)) (ap (λ t. x ∷ t) (set_first xs i e w (omega arith) at passes (λ k h. before (suc k) (omega arith))))

  -- if no place passes, a look-up finds nothing
  lookup_past_all : (es : List (K × V)) → length es ≤ position_or_len (λ e. test e.0) es → lookup test es ≡ None
  lookup_past_all [] h = refl
  lookup_past_all (x ∷ xs) h = elim (test x.0) as (λ b. length (x ∷ xs) ≤ cond (not b) (1 + position_or_len (λ (e : K × V). test e.0) xs) 0 → cond b (Some x.1) (lookup test xs) ≡ None) [ true ↦ λ g. absurd (omega arith) | false ↦ λ g. lookup_past_all xs (omega arith) ] h

-- two loans are equal if each write through them ends in the same result
pub same_loan : {N W M C : Type 0} {n : N} {f g : W → M} → ((w : W) → f w ≡ g w) → ◌≡◌ {A = (N × (W → M)) ⊎ C} (inl (n, f)) (inl (n, g))
same_loan {n = n} same = ap (λ h. inl (n, h)) (fun_ext same)

-- a pair that was added last and then written
set_last : {X : Type 0} (xs : List X) (x y : X) → slice_set (xs ++ x ∷ []) (length xs) y ≡ xs ++ y ∷ []
set_last [] x y = refl
set_last (z ∷ xs) x y = ap (λ t. z ∷ t) (set_last xs x y)

-- es' is es, and `added` is es' after (k, v) was pushed. The pair at n, the last place of `added`, is lent.
module _ {K V : Type 0} (es es' added : List (K × V)) (k : K) (v : V) (n : ℕ) (pair : K × V) (kept : es' ≡ es) (pushed : added ≡ es' ++ (k, v) ∷ []) (place : n ≡ length es) (at : pair ≡ get_or added n pair) where
  pub pair_pushed : pair ≡ (k, v)
  pair_pushed = at ∙ rw (pushed, kept) (get_or_push es (k, v) pair n (sym place))

  pub write_pushed : (w : V) → slice_set added n (pair.0, w) ≡ es ++ (k, w) ∷ []
  write_pushed w = rw (pushed, kept, place, pair_pushed) (set_last es (k, v) (k, w))

pub distinct_none : {K : Type 0} (V : Type 0) (eq : K → K → Bool) → HasDistinctKeys {V = V} eq []
unfolding IsDistinct
distinct_none V eq = tt

-- `position` returns `None` only if no item passes
none_passes : {X : Type 0} (p : X → Bool) (xs : List X) → position p xs ≡ None → length xs ≤ position_or_len p xs
none_passes p xs h = elim (nat_lt (position_or_len p xs) (length xs)) as (λ b. nat_lt (position_or_len p xs) (length xs) ≡ b → cond b (Some (position_or_len p xs)) None ≡ None → length xs ≤ position_or_len p xs) [ true ↦ λ e n. cc | false ↦ λ e n. ltb-false _ _ e ] refl h

module _ {K V : Type 0} (eq : K → K → Bool) (es : List (K × V)) (k : K) where
  pub lookup_nowhere : None ≡ position (λ e. eq k e.0) es → None ≡ value_at eq es k
  lookup_nowhere none = sym (lookup_past_all (eq k) es (none_passes (λ e. eq k e.0) es (sym none)))

  module _ (i : ℕ) (e : K × V) (found : Some i ≡ position (λ x. eq k x.0) es) (at : e ≡ get_or es i e) where
    pub lookup_at_place : Some e.1 ≡ value_at eq es k
    lookup_at_place =
        let p = position-Some (λ (x : K × V). eq k x.0) es i e (sym found) in sym (lookup_first (eq k) es i e p.0 at (rw at p.1) p.2)

    pub set_at_place : (w : V) → slice_set es i (e.0, w) ≡ with_value eq es k w
    set_at_place w =
        let p = position-Some (λ (x : K × V). eq k x.0) es i e (sym found) in set_first (eq k) es i e w p.0 at (rw at p.1) p.2

    pub put_at_place : (w : V) → slice_set es i (e.0, w) ≡ put eq es k w
    put_at_place w = rw (← lookup_at_place) (set_at_place w)

    pub keys_set_at_place : (w : V) → keys_of (slice_set es i (e.0, w)) ≡ keys_of es
    keys_set_at_place w = rw (set_at_place w) (keys-set_value (eq k) es w)

    -- the keys stay the same, so they are still all different
    pub distinct_set_at_place : (w : V) → HasDistinctKeys eq es → HasDistinctKeys eq (slice_set es i (e.0, w))
    distinct_set_at_place w distinct = rw (keys_set_at_place w) distinct

  module _ (absent : None ≡ value_at eq es k) (v : V) where
    pub put_new : put eq es k v ≡ es ++ (k, v) ∷ []
    put_new = rw (← absent) refl

    -- a new key differs from all keys that were there
    pub distinct_new : IsEquivalence eq → HasDistinctKeys eq es → HasDistinctKeys eq (es ++ (k, v) ∷ [])
    distinct_new laws distinct =
        rw (map-append (λ (x : K × V). x.0) es ((k, v) ∷ [])) (IsDistinct-push laws (keys_of es) k distinct (sym (is_some-lookup (eq k) es) ∙ ap is_some (sym absent)))

-- an iterator that returns the first item of the remaining list at each step returns the list in order
pub run_in_order : {A X : Type 0} (shows : A → X) → ShowsInOrder shows
run_in_order shows = from_front (TakesFirst shows) shows (λ left. left) (λ _ _ ended. ap length ended.0) (λ _ _ _ gave. gave)

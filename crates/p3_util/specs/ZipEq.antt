-- What an iterator over pairs takes from two iterators of one length, and what it yields.
-- Source: the documentation and the tests of `zip_eq` of p3-util 0.8.0.
use Rattle.std.specs.Prelude.{◌≡◌, ◌+◌, ◌⊎◌, true, Option, Some, None, MatchOption, List, zip}
use Rattle.std.specs.Iterator.{Yields, Count, size}
use Rattle.std.specs.Iterator.Runs.{Run, SomeRun, EachRunFrom, ProjectsRun}
use Rattle.p3_util.specs.declared.zip_eq.ZipEq.{ZipEq}

-- `left` gives the length that an iterator in state s claims to have. This length is true now and
-- after any calls: each item lowers it by one, and it is 0 when `None` is returned
pub record HasTrueLength {S A : Type 0} (steps : S → Option A → S → Type 0) (left : S → Count) (s : S) : Type 0 where
  pub item : (xs : List A) (t : S) (x : A) (u : S) → Yields steps s xs t → steps t (Some x) u → size (left t) ≡ size (left u) + 1
  pub none : (xs : List A) (t u : S) → Yields steps s xs t → steps t None u → size (left t) ≡ 0

-- some run from the same state has one item more
abbrev pub HasMore : {S A : Type 0} {steps : S → Option A → S → Type 0} → Run steps → Type 0
HasMore {steps = steps} u = SomeRun steps u.from (λ more. more.len ≡ u.len + 1)

-- p yielded the pairs of the items of u and v, in order. If p ended, then both sides had ended, or
-- one had ended and the other had one item more.
pub record IsPairsRun {S T U A B : Type 0} {steps : S → Option (A × B) → S → Type 0} {first : T → Option A → T → Type 0} {second : U → Option B → U → Type 0} (p : Run steps) (u : Run first) (v : Run second) : Type 0 where
  pub items : p.items ≡ zip u.items v.items
  pub firsts : ProjectsRun p u (λ x. x.0)
  pub seconds : ProjectsRun p v (λ x. x.1)
  pub ends : p.whole ≡ true → ((u.whole ≡ true) × (v.whole ≡ true)) ⊎ ((u.whole ≡ true) × HasMore v) ⊎ ((v.whole ≡ true) × HasMore u)

-- p yielded the pairs of the items of u and v, and called the two sides for no others. If p ended,
-- then both sides had ended, or one had ended and the other had given one item more.
pub record IsAskedRun {S T U A B : Type 0} {steps : S → Option (A × B) → S → Type 0} {first : T → Option A → T → Type 0} {second : U → Option B → U → Type 0} (p : Run steps) (u : Run first) (v : Run second) : Type 0 where
  pub items : p.items ≡ zip u.items v.items
  pub ends : p.whole ≡ true → ((u.whole ≡ true) × (v.whole ≡ true)) ⊎ ((u.whole ≡ true) × (v.len ≡ u.len + 1)) ⊎ ((v.whole ≡ true) × (u.len ≡ v.len + 1))

module _ {S T : Type 0} where
  -- the first of the two iterators of a `ZipEq`
  abbrev pub zip_eq_first : ZipEq S T → S
  zip_eq_first z = z.first

  -- the second of the two iterators of a `ZipEq`
  abbrev pub zip_eq_second : ZipEq S T → T
  zip_eq_second z = z.second

  module _ {A B : Type 0} (steps : S → Option A → S → Type 0) (others : T → Option B → T → Type 0) where
    -- A call of `next` in state s may return r and leave state t. It calls both iterators, and
    -- returns a pair if both return an item, and otherwise `None`
    abbrev pub zip_eq_steps : ZipEq S T → Option (A × B) → ZipEq S T → Type 0
    zip_eq_steps s r t = (o : Option A) × (p : Option B) × steps (zip_eq_first s) o (zip_eq_first t) × others (zip_eq_second s) p (zip_eq_second t)
        × MatchOption r ((o ≡ None) ⊎ (p ≡ None)) (λ x. (o ≡ Some x.0) × (p ≡ Some x.1))

    -- For every sequence of calls of `next` on z, there is one of the first iterator and one of the
    -- second, and the pairs that were returned are their items, paired in order
    abbrev pub PairsRuns : ZipEq S T → Type 0
    PairsRuns z = EachRunFrom zip_eq_steps z (λ p. SomeRun steps (zip_eq_first z) (λ u. SomeRun others (zip_eq_second z) (λ v. IsPairsRun p u v)))

    -- The same as `PairsRuns`, except that the two sequences have all calls of the iterators that
    -- `next` made, also those whose item found no partner
    abbrev pub AskedRuns : ZipEq S T → Type 0
    AskedRuns z = EachRunFrom zip_eq_steps z (λ p. SomeRun steps (zip_eq_first z) (λ u. SomeRun others (zip_eq_second z) (λ v. IsAskedRun p u v)))

-- how many pairs are left at most, if there is a bound: as many as `left` gives for the first iterator
abbrev pub zip_eq_left : {S T : Type 0} → (S → Count) → ZipEq S T → Count
zip_eq_left left z = left (zip_eq_first z)

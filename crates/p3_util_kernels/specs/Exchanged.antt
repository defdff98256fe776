-- Two runs of places exchanged, place by place. This definition serves a private contract of `src/reverse/rows.rt`.
-- Source: new.
use Rattle.std.specs.Prelude.{ℕ, ◌≡◌, ◌+◌, ◌<◌, ◌≤◌, ◌⊎◌, List, length, slice_get}

-- The `len` items that begin at place i are exchanged, in order, with the `len` items that begin at
-- place j. All other items stay where they are
pub record RunsExchanged {A : Type 0} (i j len : ℕ) (old new : List A) : Type 0 where
  pub same_length : length new ≡ length old
  pub first : (t : ℕ) → t < len → slice_get new (i + t) ≡ slice_get old (j + t)
  pub second : (t : ℕ) → t < len → slice_get new (j + t) ≡ slice_get old (i + t)
  pub others : (p : ℕ) → (p < i) ⊎ (i + len ≤ p) → (p < j) ⊎ (j + len ≤ p) → slice_get new p ≡ slice_get old p

-- Which item is at each place of a list after one exchange or one write: the item that was written
-- or that came from the other place, and at all other places the item that was there.
use Rattle.std.proofs.Common.{ℕ, ◌≡◌, ◌≢◌, ◌<◌, List, [], ◌∷◌, length, set, Some, slice_get, refl, swap, arith}
use Rattle.std.proofs.lemmas.Grind.{common_steps}
use Rattle.std.proofs.lemmas.Option.{gets}

pub slice_get-set_same : {A : Type 0} (xs : List A) (i : ℕ) (v : A) → i < length xs → slice_get (set xs i v) i ≡ Some v
slice_get-set_same xs i v h = grind (arith, common_steps, gets)

-- A place that is not written keeps its item. If the list is too short to have the written place,
-- all places keep their items.
pub slice_get-set_other : {A : Type 0} (xs : List A) (i p : ℕ) (v : A) → p ≢ i → slice_get (set xs i v) p ≡ slice_get xs p
slice_get-set_other xs i p v h = grind (arith, common_steps, gets)

pub slice_get-swap_second : {A : Type 0} (xs : List A) (i j : ℕ) → i < length xs → j < length xs → slice_get (swap xs i j) j ≡ slice_get xs i
slice_get-swap_second xs i j hi hj = grind (arith, common_steps, gets)

pub slice_get-swap_first : {A : Type 0} (xs : List A) (i j : ℕ) → i < length xs → j < length xs → slice_get (swap xs i j) i ≡ slice_get xs j
slice_get-swap_first [] i j hi hj = absurd (omega arith)
slice_get-swap_first (d ∷ ys) i j hi hj = grind (arith, gets, slice_get-set_same, slice_get-set_other)

-- An exchange is two writes: the item at place j goes to place i, and the item at place i goes to
-- place j. So every other place keeps its item.
pub slice_get-swap_other : {A : Type 0} (xs : List A) (i j p : ℕ) → p ≢ i → p ≢ j → slice_get (swap xs i j) p ≡ slice_get xs p
slice_get-swap_other [] i j p hi hj = refl
slice_get-swap_other (d ∷ ys) i j p hi hj = grind (arith, common_steps, gets)

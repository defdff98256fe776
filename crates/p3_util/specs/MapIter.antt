-- What std's iterators over the pairs of a `Vec`, by value or by reference, yield for a map.
-- Source: the documentation of `LinearMap` of p3-util 0.8.0.
use Rattle.std.specs.Prelude.{◌≡◌, ◌<◌, ◌^◌, List, length}
use Rattle.std.specs.Iterator.Runs.{EveryRun, ItemsAre, ItemsMapTo}
use Rattle.std.specs.Slice.Iter.{iter_rest, iter_steps}
use Rattle.std.specs.Vec.Iter.{into_iter_items, into_iter_len, into_iter_steps}
use Rattle.std.specs.declared.alloc.Global.{Global}
use Rattle.std.specs.declared.slice.Iter.{Iter}
use Rattle.std.specs.declared.vec.IntoIter.{IntoIter}

-- the items that the iterator r has left are those of xs, in order, and it yields them by value
abbrev pub OwnsInOrder : {X : Type 0} → List X → IntoIter X Global → Type 0
OwnsInOrder {X} xs r =
    (into_iter_items r ≡ xs) × (into_iter_len r ≡ length xs) × (length xs < 2 ^ 64) × EveryRun (into_iter_steps {X = X} {Z = Global}) (λ run. ItemsAre run (into_iter_items run.from))

-- the items that the iterator r has left are those of xs, in order, and it yields references to them
abbrev pub LendsInOrder : {X : Type 0} → List X → Iter X → Type 0
LendsInOrder {X} xs r =
    (iter_rest r ≡ xs) × (length (iter_rest r) < 2 ^ 64) × EveryRun (iter_steps {A = X}) (λ run. ItemsMapTo run (λ item. item.now) (iter_rest run.from))

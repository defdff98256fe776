-- What a `LinearMap` becomes when a reference into it ends. Source: the documentation of `LinearMap` of p3-util 0.8.0.
use Rattle.std.specs.Prelude.{Bool, List, Option, Result}
use Rattle.std.specs.Borrow.{Fml, RattleType, MutBor, LendsIf, LendsIfOk}
use Rattle.p3_util.specs.LinearMap.{put, with_value}
use Rattle.p3_util.specs.contracts.linear_map.LinearMap.{the_row}

module _ (K V : RattleType) (eq : K.Denot → K.Denot → Bool) (m : MutBor (List (K.Denot × V.Denot))) (k : K.Denot) where
  -- r is a `&mut` to the value of the key k in the map m, or `None`. When the loan ends, the key has the value that was
  -- last written through r, and every other pair is unchanged. If r is `None`, the map is unchanged
  abbrev pub lends_value : Option (MutBor V.Denot) → Fml
  lends_value r = LendsIf (the_row K V (record { eq = eq })) V m r (with_value eq m.now k) m.now

  -- r is a `&mut` to the value of the key k in the map m, or an `Err`. When the loan ends, the map is as after `put` of
  -- the value that was last written through r. If r is an `Err`, the map is unchanged
  abbrev pub lends_put : {E : Type 0} → Result (MutBor V.Denot) E → Fml
  lends_put r = LendsIfOk (the_row K V (record { eq = eq })) V m r (put eq m.now k) m.now

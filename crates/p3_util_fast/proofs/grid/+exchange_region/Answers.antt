-- The two halves of a region, exchanged, are the region exchanged.
use Rattle.std.proofs.Common.{◌≡◌, ◌+◌, ◌-◌, ◌*◌, ◌<◌, ℕ, ap, ◌∙◌, arith, rules}
use Rattle.p3_util_kernels.specs.Logarithms.{clog}
use Rattle.p3_util_kernels.specs.Region.{cols_of, rows_of}
use Rattle.p3_util_fast.proofs.GridLemmas.Parts.{cut_exchanged}
use Rattle.p3_util_kernels.proofs.BitsLemmas.Logarithms.{clog-above, clog-rest, clog-tiles}
use Rattle.p3_util_fast.proofs.grid.+exchange_region.Goals as goal

-- a part of a side of more than 64 nests less deep
less_deep : (side other part half kept t : ℕ) → (clog side - 6) + (clog other - 6) ≡ t → 64 < side → part ≡ half → clog half < clog side → kept ≡ other
    → (clog part - 6) + (clog kept - 6) < t
less_deep side other part half kept t deep long cut less same = rw (cut, same) (omega (arith, deep, less, clog-above side 6 long))

less_deep-cols : (side other part half kept t : ℕ) → (clog other - 6) + (clog side - 6) ≡ t → 64 < side → part ≡ half → clog half < clog side → kept ≡ other
    → (clog kept - 6) + (clog part - 6) < t
less_deep-cols side other part half kept t deep long cut less same = omega (arith, less_deep side other part half kept t (omega (arith, deep)) long cut less same)

pub exchange_region-m-requires : goal.exchange_region-m-requires
exchange_region-m-requires g t c =
    λ κs k. (less_deep _ _ _ _ _ t c.decreases (omega arith) (ap rows_of c.cut_rows.ensures.upper ∙ omega arith) (clog-tiles (rows_of c.args.region) _ (omega arith) c.upper_half.ensures.whole (omega arith)) (ap cols_of c.cut_rows.ensures.upper), grind (arith, rules, c.requires.ready))

pub exchange_region-requires : goal.exchange_region-requires
exchange_region-requires g t c =
    λ κs k. (less_deep _ _ _ _ _ t c.decreases (omega arith) (ap rows_of c.cut_rows.ensures.lower ∙ omega arith) (clog-rest (rows_of c.args.region) _ (omega arith) c.upper_half.ensures.whole (omega arith) (omega arith)) (ap cols_of c.cut_rows.ensures.lower), grind (arith, rules, c.requires.ready))

pub exchange_region-m-requires-else-rows-cols : goal.exchange_region-m-requires-else-rows-cols
exchange_region-m-requires-else-rows-cols g t c =
    λ κs k. (less_deep-cols _ _ _ _ _ t c.decreases (omega arith) (ap cols_of c.cut_cols.ensures.left ∙ omega arith) (clog-tiles (cols_of c.args.region) _ (omega arith) c.upper_half-else-rows-cols.ensures.whole (omega arith)) (ap rows_of c.cut_cols.ensures.left), grind (arith, rules, c.requires.ready))

pub exchange_region-requires-else-rows-cols : goal.exchange_region-requires-else-rows-cols
exchange_region-requires-else-rows-cols g t c =
    λ κs k. (less_deep-cols _ _ _ _ _ t c.decreases (omega arith) (ap cols_of c.cut_cols.ensures.right ∙ omega arith) (clog-rest (cols_of c.args.region) _ (omega arith) c.upper_half-else-rows-cols.ensures.whole (omega arith) (omega arith)) (ap rows_of c.cut_cols.ensures.right), grind (arith, rules, c.requires.ready))

pub returns-then-rows-cols-clause-exchanged : goal.returns-then-rows-cols-clause-exchanged
returns-then-rows-cols-clause-exchanged g t c =
    cut_exchanged c.args.grid _ c.requires.ready _ _ _ _ _ _ c.cut_rows.ensures.cut c.exchange_region-m.ensures.exchanged c.exchange_region.ensures.exchanged

pub returns-else-rows-cols-clause-exchanged : goal.returns-else-rows-cols-clause-exchanged
returns-else-rows-cols-clause-exchanged g t c =
    cut_exchanged c.args.grid _ c.requires.ready _ _ _ _ _ _ c.cut_cols.ensures.cut c.exchange_region-m-else-rows-cols.ensures.exchanged c.exchange_region-else-rows-cols.ensures.exchanged

pub returns-then-rows-cols-clause-holder : goal.returns-then-rows-cols-clause-holder
returns-then-rows-cols-clause-holder g t c =
    g.met.M.Places.same_holder_trans _ _ _ _ _ _ c.exchange_region-m.ensures.holder c.exchange_region.ensures.holder
    (omega (arith, ap (λ (n : ℕ). c.args.grid.width * n) c.cut_rows.ensures.cut.items))

pub returns-else-rows-cols-clause-holder : goal.returns-else-rows-cols-clause-holder
returns-else-rows-cols-clause-holder g t c =
    g.met.M.Places.same_holder_trans _ _ _ _ _ _ c.exchange_region-m-else-rows-cols.ensures.holder c.exchange_region-else-rows-cols.ensures.holder
    (omega (arith, ap (λ (n : ℕ). c.args.grid.width * n) c.cut_cols.ensures.cut.items))

-- Two or four registers are stored, one after the other.
use Rattle.std.proofs.Common.{◌≡◌, ◌*◌, refl, arith}
use Rattle.p3_util_fast.proofs.RegistersLemmas.{AreStored-none, AreStored-more}
use Rattle.p3_util_fast.proofs.RegistersSteps.{four_times}
use Rattle.p3_util_fast.proofs.registers.store.Goals as goal

pub returns-then-count-eq8-clause-stored : goal.returns-then-count-eq8-clause-stored
returns-then-count-eq8-clause-stored g c =
    let apart = rw c.if-count-eq8.true at c.requires.apart in
    rw c.if-count-eq8.true
    (AreStored-more 3 _ _ _ _ _ _ _ (λ t. refl) apart
    (AreStored-more 2 _ _ _ _ _ _ _ (λ t. refl) (λ a b h k. apart a b h (omega arith))
    (AreStored-more 1 _ _ _ _ _ _ _ (λ t. refl) (λ a b h k. apart a b h (omega arith))
    (AreStored-more 0 _ _ _ _ _ _ _ (λ t. refl) (λ a b h k. apart a b h (omega arith)) (AreStored-none _ _ _ _) c.store_two.ensures.stored)
    c.store_two-2.ensures.stored) c.store_two-then-count-eq8.ensures.stored) c.store_two-then-count-eq8-2.ensures.stored)

pub returns-else-count-eq8-clause-stored : goal.returns-else-count-eq8-clause-stored
returns-else-count-eq8-clause-stored g c =
    let four : c.args.count ≡ 4 = grind (arith, c.requires.known, c.if-count-eq8.false) in
    let apart = rw four at c.requires.apart in
    rw four
    (AreStored-more 1 _ _ _ _ _ _ _ (λ t. refl) apart
    (AreStored-more 0 _ _ _ _ _ _ _ (λ t. refl) (λ a b h k. apart a b h (omega arith)) (AreStored-none _ _ _ _) c.store_two.ensures.stored) c.store_two-2.ensures.stored)

pub returns-then-count-eq8-clause-holder : goal.returns-then-count-eq8-clause-holder
returns-then-count-eq8-clause-holder g c =
    rw c.if-count-eq8.true
    (four_times _ g.M.Runs.same_holder g.met.M.Runs.same_holder_trans (2 * g.D.Register.SIDE) _ _ _ _ _ _ c.store_two.ensures.holder c.store_two-2.ensures.holder c.store_two-then-count-eq8.ensures.holder c.store_two-then-count-eq8-2.ensures.holder
    (omega arith))

-- As many stages as a side has binary digits make columns of rows.
use Rattle.std.proofs.Common.{◌≡◌, arith}
use Rattle.p3_util_fast.specs.Registers.{items_of_four}
use Rattle.p3_util_fast.proofs.RegistersLemmas.{AreReached-in_order, eight, four, two}
use Rattle.p3_util_fast.proofs.registers.load_columns.Goals as goal

pub load-one-requires : goal.load-one-requires
load-one-requires g c = AreReached-in_order _ (g.S.Loads.may (g.S.Loads.reach c.args.list.now)) _ _ c.requires.some_side (rw c.SIDE-side.ensures at c.in_order.ensures) c.requires.reached

pub returns-then-side-eq2 : goal.returns-then-side-eq2
returns-then-side-eq2 g c =
    let is : g.D.Register.SIDE ≡ 2 = omega (arith, c.SIDE-side.ensures, c.if-side-eq2.true) in
    rw is (two _ _ _ (items_of_four g.D.Register.items c.load-one.result) (rw (c.SIDE-side.ensures, is) at c.in_order.ensures) (rw is at c.load-one.ensures))

pub returns-then-side-eq4 : goal.returns-then-side-eq4
returns-then-side-eq4 g c =
    let is : g.D.Register.SIDE ≡ 4 = omega (arith, c.SIDE-side.ensures, c.if-side-eq4.true) in
    rw is (four _ _ _ (items_of_four g.D.Register.items c.load-one.result) (items_of_four g.D.Register.items c.next_stage-two.result) (rw (c.SIDE-side.ensures, is) at c.in_order.ensures) (rw is at c.load-one.ensures) (rw is at c.next_stage-two.ensures))

pub returns : goal.returns
returns g c =
    let is : g.D.Register.SIDE ≡ 8 = grind (arith, c.requires.some_side, c.SIDE-side.ensures, c.if-side-eq2.false, c.if-side-eq4.false) in
    rw is
    (eight _ _ _ (items_of_four g.D.Register.items c.load-one.result) (items_of_four g.D.Register.items c.next_stage-two.result) (items_of_four g.D.Register.items c.next_stage.result)
    (rw (c.SIDE-side.ensures, is) at c.in_order.ensures) (rw is at c.load-one.ensures) (rw is at c.next_stage-two.ensures) (rw is at c.next_stage.ensures))

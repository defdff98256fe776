-- Places that stand for one item are exchanged by one exchange. The factor 1 is taken out of each
-- place and out of the precondition on the list.
use Rattle.std.proofs.Common.{◌≡◌, ◌*◌, arith, rules}
use Rattle.p3_util_fast.proofs.GridLemmas.Crossing.{runs-apart}
use Rattle.p3_util_kernels.proofs.PlacesLemmas.Runs.{RunsExchanged-one}
use Rattle.p3_util_fast.proofs.grid.exchange_places.Goals as goal

pub exchange_runs-requires-clause-apart : goal.exchange_runs-requires-clause-apart
exchange_runs-requires-clause-apart g c = runs-apart c.args.width c.args.i c.args.j c.requires.apart

pub returns-then-width-eq1-clause-exchanged : goal.returns-then-width-eq1-clause-exchanged
returns-then-width-eq1-clause-exchanged g c =
    let one = c.if-width-eq1.true in
    let i : c.args.i * 1 ≡ c.args.i = omega arith in
    let j : c.args.j * 1 ≡ c.args.j = omega arith in
    let first = rw one at c.requires.first in
    let second = rw one at c.requires.second in
    rw (one, i, j) (RunsExchanged-one c.args.i c.args.j _ _ (omega arith) (omega arith) (search rules))

pub returns-then-width-eq1-clause-holder : goal.returns-then-width-eq1-clause-holder
returns-then-width-eq1-clause-holder g c = search rules

-- Each of the four squares is exchanged.
use Rattle.std.proofs.Common.{arith}
use Rattle.p3_util_fast.proofs.RegistersSquares.{TilesExchanged-squares}
use Rattle.p3_util_fast.proofs.RegistersSteps.{four_times}
use Rattle.p3_util_fast.proofs.bulk.exchange_singly.Goals as goal

pub returns-clause-exchanged : goal.returns-clause-exchanged
returns-clause-exchanged g c =
    TilesExchanged-squares _ _ _ c.requires _ _ _ _ _ c.exchange_square.ensures.exchanged c.exchange_square-2.ensures.exchanged c.exchange_square-3.ensures.exchanged c.exchange_square-4.ensures.exchanged

pub returns-clause-holder : goal.returns-clause-holder
returns-clause-holder g c =
    four_times _ g.M.Places.same_holder g.met.M.Places.same_holder_trans 16 _ _ _ _ _ _ c.exchange_square.ensures.holder c.exchange_square-2.ensures.holder c.exchange_square-3.ensures.holder c.exchange_square-4.ensures.holder (omega arith)

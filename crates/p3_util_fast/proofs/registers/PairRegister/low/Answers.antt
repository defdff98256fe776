-- The first halves of two pairs are interleaved.
use Rattle.p3_util_fast.proofs.RegistersLemmas.{AreInterleaved-low}
use Rattle.p3_util_fast.proofs.registers.PairRegister.low.Goals as goal

pub returns : goal.returns
returns g c = AreInterleaved-low _ _ _ _ _ _ _ (g.met.R.Register.full _) (g.met.R.Register.full _) (g.met.R.Register.full _) c.low.ensures c.high.ensures

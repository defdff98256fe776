-- The second halves of two pairs are interleaved.
use Rattle.p3_util_fast.proofs.RegistersLemmas.{AreInterleaved-high}
use Rattle.p3_util_fast.proofs.registers.PairRegister.high.Goals as goal

pub returns : goal.returns
returns g c = AreInterleaved-high _ _ _ _ _ _ _ (g.met.R.Register.full _) (g.met.R.Register.full _) (g.met.R.Register.full _) c.low.ensures c.high.ensures

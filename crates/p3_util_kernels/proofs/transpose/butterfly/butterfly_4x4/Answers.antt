-- The two stages make the transpose of the block.
use Rattle.p3_util_kernels.proofs.TransposeLemmas.Stages.{IsBlockTransposed-from_stages}
use Rattle.p3_util_kernels.proofs.transpose.butterfly.butterfly_4x4.Goals as goal

pub returns : goal.returns
returns g c =
    IsBlockTransposed-from_stages c.args.block c.butterfly_stage1.result c.butterfly_stage2.result c.butterfly_stage1.ensures c.butterfly_stage2.ensures

-- Each turn of the loop passes one more `::`. After the loop there is none.
use Rattle.std.proofs.Common.{rules, sym, ◌∙◌, ap}
use Rattle.p3_util_kernels.specs.Names.{last_part}
use Rattle.p3_util_kernels.proofs.BitsLemmas.Names.{last_part-after, last_part-whole}
use Rattle.p3_util_kernels.proofs.bits.names.last_part.Goals as goal

pub loop-after-preserved : goal.loop-after-preserved
loop-after-preserved c =
    let (i, j, found, before, after, ordered, front, back) = c.in-Some.ensures.cases in
    (search rules, ap last_part after ∙ sym (last_part-after c.loop-after.part.now i j found.0 found.1) ∙ c.loop-after.invariant.1)

pub returns : goal.returns
returns c = sym (last_part-whole c.loop-after.part.now c.in_default.ensures.cases) ∙ c.loop-after.invariant.1

-- The exchanges that lead to the list of the part are those that are asked for.
use Rattle.std.proofs.Common.{◌≡◌, ℕ, List, sym}
use Rattle.p3_util_dispatch.specs.declared.parts.reversal.ReversalPlan.{ReversalPlan}
use Rattle.p3_util_dispatch.specs.declared.parts.reversal.ReversalPlan.TheVariants.{Patches, Whole}
use Rattle.p3_util_dispatch.specs.Interleaved.{IsMadeAlone}
use Rattle.p3_util_dispatch.specs.Plans.{IsPartMade}
use Rattle.p3_util_kernels.specs.Least.{SwapsLead, after_swaps}
use Rattle.p3_util_dispatch.proofs.laws.exchanges_of_part.Goals as goal

made_alone : {A : Type 0} (plan : ReversalPlan) (number : ℕ) (old new : List A)
    → IsPartMade plan number old new (λ n. SwapsLead n old new) → (steps : List (ℕ × ℕ)) × (new ≡ after_swaps old steps) × IsMadeAlone plan number old steps
made_alone (Whole items width) number old new (reversed, (steps, many, lead)) = (steps, sym lead, (rw lead reversed, many))
made_alone (Patches pairs) number old new (middle, region, is, exchanged, (steps, many, lead)) = (steps, sym lead, (middle, region, is, rw lead exchanged, many))

pub returns : goal.returns
returns g c = made_alone c.args.part.plan c.args.part.number _ _ c.reverse_part.ensures

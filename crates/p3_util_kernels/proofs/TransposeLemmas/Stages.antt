-- The transpose of a block of 4 by 4 items, made in two stages.
use Rattle.std.proofs.Common.{◌≡◌, ◌+◌, ◌*◌, ◌/◌, ◌%◌, List, ◌∙◌, arith}
use Rattle.p3_util_kernels.specs.Stages.{IsStageOne, IsStageTwo, IsBlockTransposed}

-- the first stage and then the second one make the transpose
pub IsBlockTransposed-from_stages : {A : Type 0} (old mid new : List (List A)) → IsStageOne old mid → IsStageTwo mid new → IsBlockTransposed old new
IsBlockTransposed-from_stages old mid new one two r c hr hc =
    let row : 2 * (r / 2) + r % 2 ≡ r = omega arith in
    let col : 2 * (c / 2) + c % 2 ≡ c = omega arith in
    rw (row, col) at
    (two (r / 2) (r % 2) (c / 2) (c % 2) (omega arith) (omega arith) (omega arith) (omega arith)
    ∙ one (c / 2) (r % 2) (r / 2) (c % 2) (omega arith) (omega arith) (omega arith) (omega arith))

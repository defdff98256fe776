-- The whole square is the part from row and column 0 on.
use Rattle.std.proofs.Common.{◌^◌, ◌≤◌, arith}
use Rattle.std.proofs.Math.Nat.{pow-le-pow_right}
use Rattle.p3_util_kernels.proofs.TransposeLemmas.Diagonal.{IsSquareTransposed-from_across}
use Rattle.p3_util_kernels.proofs.transpose.square.transpose_square_on.Goals as goal

pub transpose_square-requires-clause-within : goal.transpose_square-requires-clause-within
transpose_square-requires-clause-within g c =
    let smaller : 2 ^ c.args.log_size ≤ 2 ^ c.args.log_stride = pow-le-pow_right (omega arith) c.requires.rows_apart in
    omega arith

pub returns-clause-transposed : goal.returns-clause-transposed
returns-clause-transposed g c =
    IsSquareTransposed-from_across c.args.base c.args.log_stride c.args.log_size _ _ c.requires.rows_apart
    (rw (c.pow2.ensures, c.pow2-2.ensures) at c.transpose_square.ensures.swapped)

-- The first square is transposed, and then the second one if there are two.
use Rattle.std.proofs.Common.{◌≡◌, ℕ, ◌+◌, ◌-◌, ◌^◌, ◌<◌, ◌≤◌, ◌∙◌, pow_pos, arith}
use Rattle.p3_util_kernels.proofs.BitsLemmas.Powers.{exponent-lt}
use Rattle.p3_util_kernels.proofs.ReverseLemmas.SideBySide.{AreTransposed-one, AreTransposed-two, square_room}
use Rattle.p3_util_kernels.proofs.reverse.long.transpose_squares_on.Goals as goal

-- the exponents add up to at most 63, since the length of the list fits in a usize
few : (log_stride log_size n : ℕ) → n ≡ 2 ^ (log_size + log_stride) → n < 2 ^ 64 → log_size + log_stride ≤ 63
few log_stride log_size n whole fits = exponent-lt (log_size + log_stride) 63 (omega arith)

pub transpose_square_on-requires-clause-stride_fits : goal.transpose_square_on-requires-clause-stride_fits
transpose_square_on-requires-clause-stride_fits g c = omega (arith, few c.args.log_stride c.args.log_size _ c.requires.whole c.requires.len_fits)

pub transpose_square_on-requires-clause-room : goal.transpose_square_on-requires-clause-room
transpose_square_on-requires-clause-room g c =
    omega (arith, square_room c.args.log_stride c.args.log_size c.requires.within 0 _ c.requires.whole (pow_pos (c.args.log_stride - c.args.log_size)))

pub pow2-requires : goal.pow2-requires
pow2-requires g c = omega (arith, few c.args.log_stride c.args.log_size _ c.requires.whole c.requires.len_fits)

pub transpose_square_on-requires-then-log_stride-log_size-clause-stride_fits : goal.transpose_square_on-requires-then-log_stride-log_size-clause-stride_fits
transpose_square_on-requires-then-log_stride-log_size-clause-stride_fits g c =
    omega (arith, few c.args.log_stride c.args.log_size _ c.requires.whole c.requires.len_fits)

-- there is a second square if the strides differ by 1
second : (log_stride log_size : ℕ) → log_size < log_stride → log_stride ≤ log_size + 1 → 1 < 2 ^ (log_stride - log_size)
second log_stride log_size more few = let one : log_stride - log_size ≡ 1 = omega arith in rw one (omega arith)

pub transpose_square_on-requires-then-log_stride-log_size-clause-room : goal.transpose_square_on-requires-then-log_stride-log_size-clause-room
transpose_square_on-requires-then-log_stride-log_size-clause-room g c =
    let now = c.transpose_square_on.ensures.transposed.same_length ∙ c.requires.whole in
    omega (
      arith,
      c.pow2.ensures,
      square_room c.args.log_stride c.args.log_size c.requires.within 1 _ now
          (second c.args.log_stride c.args.log_size c.if-log_stride-log_size.true c.requires.at_most_two),
    )

pub returns-then-log_stride-log_size-clause-transposed : goal.returns-then-log_stride-log_size-clause-transposed
returns-then-log_stride-log_size-clause-transposed g c =
    let one : c.args.log_stride - c.args.log_size ≡ 1 = omega arith in
    rw one
    (AreTransposed-two c.args.log_stride c.args.log_size c.requires.within _ _ _ _
    (second c.args.log_stride c.args.log_size c.if-log_stride-log_size.true c.requires.at_most_two)
    (omega (arith, c.pow2.ensures)) c.transpose_square_on.ensures.transposed c.transpose_square_on-then-log_stride-log_size.ensures.transposed)

pub returns-else-log_stride-log_size-clause-transposed : goal.returns-else-log_stride-log_size-clause-transposed
returns-else-log_stride-log_size-clause-transposed g c =
    let none : c.args.log_stride - c.args.log_size ≡ 0 = omega arith in
    rw none (AreTransposed-one c.args.log_stride c.args.log_size c.requires.within _ _ c.transpose_square_on.ensures.transposed)

-- The chunks are rows, whose number is a power of two.
use Rattle.std.proofs.Common.{◌+◌, ◌^◌, ◌≤◌, mul_comm, arith}
use Rattle.std.proofs.lemmas.Nat.{pow-add, pow_pos}
use Rattle.p3_util_kernels.specs.SwapCounts.{short_swaps}
use Rattle.p3_util_kernels.proofs.BitsLemmas.Powers.{exponent-lt}
use Rattle.p3_util_kernels.proofs.ReverseLemmas.SwapCounts.{chunks_bound}
use Rattle.p3_util_kernels.proofs.reverse.reverse_chunks_on.Goals as goal

pub pow2-requires : goal.pow2-requires
pow2-requires g c =
    let few : c.args.lb_num_chunks + c.args.lb_chunk_size ≤ 63 = exponent-lt _ 63 (omega (arith, c.requires, c.len-len.ensures)) in
    omega arith

pub swap_rows-requires-clause-few : goal.swap_rows-requires-clause-few
swap_rows-requires-clause-few g c =
    let few : c.args.lb_num_chunks + c.args.lb_chunk_size ≤ 63 = exponent-lt _ 63 (omega (arith, c.requires, c.len-len.ensures)) in
    omega arith

pub swap_rows-requires-clause-rows : goal.swap_rows-requires-clause-rows
swap_rows-requires-clause-rows g c =
    rw c.pow2.ensures (omega (arith, c.requires, pow-add 2 c.args.lb_num_chunks c.args.lb_chunk_size))

pub swap_rows-requires-clause-wide : goal.swap_rows-requires-clause-wide
swap_rows-requires-clause-wide g c = rw c.pow2.ensures (pow_pos c.args.lb_chunk_size)

pub returns-clause-order : goal.returns-clause-order
returns-clause-order g c = rw c.pow2.ensures at c.swap_rows.ensures.order

pub returns-clause-count : goal.returns-clause-count
returns-clause-count g c =
    rw (c.pow2.ensures, mul_comm (2 ^ c.args.lb_chunk_size) (short_swaps c.args.lb_num_chunks)) at c.swap_rows.ensures.count

pub returns-clause-bound : goal.returns-clause-bound
returns-clause-bound g c = chunks_bound _ _ _ c.requires

pub returns-clause-holder : goal.returns-clause-holder
returns-clause-holder g c =
    rw (c.pow2.ensures, mul_comm (2 ^ c.args.lb_chunk_size) (short_swaps c.args.lb_num_chunks)) at c.swap_rows.ensures.holder

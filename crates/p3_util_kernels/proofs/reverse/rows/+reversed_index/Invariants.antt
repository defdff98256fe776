use Rattle.p3_util_kernels.proofs.reverse.rows.+reversed_index.Given as goal

-- each call has six digits less
abbrev pub decreases-reversed_index : goal.decreases-reversed_index
decreases-reversed_index l = l.digits

use Rattle.p3_util_kernels.proofs.transpose.split.+transpose_source_split_on.Given as goal

-- each nested split has fewer levels
abbrev pub decreases-transpose_source_split_on : goal.decreases-transpose_source_split_on
decreases-transpose_source_split_on g l = l.levels

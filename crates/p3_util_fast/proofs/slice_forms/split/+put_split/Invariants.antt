use Rattle.p3_util_fast.proofs.slice_forms.split.+put_split.Given as goal

-- each nested split has fewer levels
abbrev pub decreases-put_split : goal.decreases-put_split
decreases-put_split g l = l.levels

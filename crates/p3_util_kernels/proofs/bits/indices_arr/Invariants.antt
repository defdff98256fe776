use Rattle.std.proofs.Common.{◌≡◌, ℕ, ◌-◌, ◌<◌, ◌≤◌, length, get_or}
use Rattle.p3_util_kernels.proofs.bits.indices_arr.Given as goal

-- the places before i hold their own index
abbrev pub invariant-loop-i : goal.invariant-loop-i
invariant-loop-i g l = (l.i ≤ g.row.N) × (length l.indices ≡ g.row.N) × ((k : ℕ) → k < l.i → get_or l.indices k 0 ≡ k)

abbrev pub decreases-loop-i : goal.decreases-loop-i
decreases-loop-i g l = g.row.N - l.i

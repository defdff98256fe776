use Rattle.std.proofs.Common.{ℕ, [], ◌≡◌, ◌<◌, get_or, length}
use Rattle.p3_util.proofs.views.places.each_in_its_row.Given as goal

-- the rows before r have N items each
abbrev pub invariant-loop-r : goal.invariant-loop-r
invariant-loop-r g l = (k : ℕ) → k < l.r → length (get_or l.rows k []) ≡ g.row.N

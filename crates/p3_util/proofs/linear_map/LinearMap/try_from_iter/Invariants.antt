use Rattle.std.proofs.Common.{◌≡◌, []}
use Rattle.p3_util.specs.LinearMap.{put_all}
use Rattle.p3_util.proofs.linear_map.LinearMap.try_from_iter.Given as goal

-- the map has the pairs so far, put in order
abbrev pub invariant-loop-k : goal.invariant-loop-k
invariant-loop-k g l = l.map ≡ put_all g.K.PartialEq.eq [] l.yielded

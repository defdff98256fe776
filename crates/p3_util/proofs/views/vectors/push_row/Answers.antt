-- Each turn of the loop moves one more item.
use Rattle.std.proofs.Common.{arith}
use Rattle.p3_util.proofs.Moved.{left-more, moved-more}
use Rattle.p3_util.proofs.views.vectors.push_row.Goals as goal

pub loop-item-preserved : goal.loop-item-preserved
loop-item-preserved g c =
    let before = c.loop-item.invariant in
    let row = c.loop-item.row in
    let old = c.args.row.now in
    let k = c.loop-item.item-index in record {
      moved = rw c.push_reserved.ensures.items (moved-more _ _ row old k _ _ before.left (omega arith) before.moved c.take.ensures.value);
      left = left-more row old k c.take.new.dest before.left;
      full = omega arith;
      room = omega arith;
    }

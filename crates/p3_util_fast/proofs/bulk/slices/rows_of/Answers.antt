-- Each turn of the loop adds one more row.
use Rattle.std.proofs.Common.{◌≡◌, ◌+◌, ◌-◌, ◌*◌, ◌≤◌, ℕ, length, take, drop, ap, ◌∙◌, sym, length-set, arith}
use Rattle.std.proofs.lemmas.List.{length-drop, length-take-le, take_all}
use Rattle.p3_util_fast.proofs.BulkLemmas.Blocks.{AreRows-more}
use Rattle.p3_util_fast.proofs.bulk.slices.rows_of.Goals as goal

pub slice_bounds-rows-end-in-loop-r : goal.slice_bounds-rows-end-in-loop-r
slice_bounds-rows-end-in-loop-r g c =
    let start : ℕ = c.args.block.from + c.loop-r.r * c.args.block.width in
    let tail = drop start c.args.items.now in
    let len : length tail ≡ length c.args.items.now - start = length-drop start c.args.items.now in
    let room : start + c.args.block.cols ≤ length c.args.items.now =
    omega (arith, c.requires.inside c.loop-r.r (c.args.block.cols - 1) (omega (arith, c.requires.rows, c.loop-r-test.true)) (omega (arith, c.requires.cols)), c.requires.cols) in
    sym (rw (take_all (length c.args.items.now - start) tail (omega (arith, len))) (length-take-le c.args.block.cols tail (omega (arith, len, room))))

pub loop-r-preserved : goal.loop-r-preserved
loop-r-preserved g c =
    let start : ℕ = c.args.block.from + c.loop-r.r * c.args.block.width in
    let tail = drop start c.args.items.now in
    record {
      len = length-set c.loop-r.rows _ _ ∙ c.loop-r.invariant.len;
      are = AreRows-more c.args.block c.args.items.now c.loop-r.rows c.loop-r.r _ (omega (arith, c.loop-r.invariant.len, c.requires.most, c.loop-r-test.true))
          (ap (take c.args.block.cols) (take_all (length c.args.items.now - start) tail (omega (arith, length-drop start c.args.items.now))))
          c.loop-r.invariant.are;
    }

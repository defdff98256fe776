-- Each turn of the inner loop puts one more item of the block.
use Rattle.std.proofs.Common.{◌≡◌, ◌+◌, ◌*◌, refl, arith}
use Rattle.p3_util_fast.proofs.BulkLemmas.Blocks.{IsBlockPut-more}
use Rattle.p3_util_fast.proofs.bulk.Blocked.put_block_singly.Goals as goal

pub loop-r-init : goal.loop-r-init
loop-r-init g c =
    let none : c.args.block.rows * c.loop-c.c + 0 ≡ c.args.block.rows * c.loop-c.c = omega arith in
    rw none c.loop-c.invariant

pub overflow_mul-c : goal.overflow_mul-c
overflow_mul-c g c = omega (arith, c.requires.room c.loop-r.r c.loop-c.c (omega arith) (omega arith), c.loop-r.invariant.put.same_length)

pub overflow_mul-r : goal.overflow_mul-r
overflow_mul-r g c = omega (arith, c.requires.inside c.loop-r.r c.loop-c.c (omega arith) (omega arith))

pub overflow_add-from : goal.overflow_add-from
overflow_add-from g c = omega (arith, c.requires.inside c.loop-r.r c.loop-c.c (omega arith) (omega arith))

pub overflow_add-from-in-loop-r : goal.overflow_add-from-in-loop-r
overflow_add-from-in-loop-r g c = omega (arith, c.requires.inside c.loop-r.r c.loop-c.c (omega arith) (omega arith))

pub overflow_add-to : goal.overflow_add-to
overflow_add-to g c = omega (arith, c.requires.room c.loop-r.r c.loop-c.c (omega arith) (omega arith), c.loop-r.invariant.put.same_length)

pub overflow_add-to-in-loop-r : goal.overflow_add-to-in-loop-r
overflow_add-to-in-loop-r g c = omega (arith, c.requires.room c.loop-r.r c.loop-c.c (omega arith) (omega arith), c.loop-r.invariant.put.same_length)

pub at-requires : goal.at-requires
at-requires g c = c.requires.inside c.loop-r.r c.loop-c.c (omega arith) (omega arith)

pub put-requires : goal.put-requires
put-requires g c = omega (arith, c.requires.room c.loop-r.r c.loop-c.c (omega arith) (omega arith), c.loop-r.invariant.put.same_length)

pub loop-r-preserved : goal.loop-r-preserved
loop-r-preserved g c = record {
  put = IsBlockPut-more c.args.block _ _ c.requires c.loop-r.r c.loop-c.c _ _ _ _ _ refl (omega arith) (omega arith) c.loop-r.invariant.put c.at.ensures c.put.ensures.written;
  holder = g.met.Self.Cells.same_holder_trans _ _ _ _ _ _ c.loop-r.invariant.holder c.put.ensures.holder (omega arith);
}

pub loop-c-preserved : goal.loop-c-preserved
loop-c-preserved g c =
    let column : c.args.block.rows * (c.loop-c.c + 1) ≡ c.args.block.rows * c.loop-c.c + c.loop-r.r = omega arith in
    rw column c.loop-r.invariant

pub returns-clause-put : goal.returns-clause-put
returns-clause-put g c = let end : c.loop-c.c ≡ c.args.block.cols = omega arith in rw end at c.loop-c.invariant.put

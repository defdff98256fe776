-- The state after all calls, from the run that `apply_to_chunks` made over all bytes.
use Rattle.std.proofs.Common.{rules, ◌≡◌, lit<}
use Rattle.p3_util_examples.proofs.uses.absorb_blocks.Goals as goal

pub returns-clause-absorbed : goal.returns-clause-absorbed
returns-clause-absorbed g c =
    let run = (c.apply_to_chunks.ensures.runs (lit< tt)).2 in
    let all : run.0.items ≡ c.args.bytes.now = search rules in
    (run.3.0, rw all at run.3.1)

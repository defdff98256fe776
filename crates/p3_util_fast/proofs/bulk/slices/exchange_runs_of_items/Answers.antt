-- The exchange between the two parts of the slice is one of runs in the slice.
use Rattle.std.proofs.Common.{arith}
use Rattle.p3_util_fast.proofs.BulkLemmas.Runs.{RunsExchanged-ordered, RunsExchanged-slices}
use Rattle.p3_util_fast.proofs.bulk.slices.exchange_runs_of_items.Goals as goal

pub returns : goal.returns
returns g c =
    let cut = c.split_at_mut-front.ensures in
    let swapped = c.swap_with_slice.ensures in
    let low = c.min-low.result in
    let high = c.max-high.result in
    RunsExchanged-ordered c.args.i c.args.j low high c.args.len _ _ c.min-low.ensures c.max-high.ensures
    (RunsExchanged-slices low high c.args.len _ c.args.items.now _ _ _ _ (omega arith) (omega arith) (omega arith) cut.front cut.back
    swapped.after swapped.other_after)

-- Each turn of the loop puts all columns one line further.
use Rattle.std.proofs.Common.{◌≡◌, ℕ, ◌-◌, bit_and, arith}
use Rattle.p3_util_dispatch.specs.Lines.{items_to, limit}
use Rattle.p3_util_kernels.specs.Region.{items_of}
use Rattle.p3_util_dispatch.proofs.LinesLemmas.{IsPutTo-all, IsPutTo-none, items_to-all, items_to-none, limit-all, limit-none}
use Rattle.p3_util_dispatch.proofs.lines.PanelPutRegion.put.Goals as goal

pub loop-rows_done-init : goal.loop-rows_done-init
loop-rows_done-init g c =
    let none = limit-none c.args.region c.args.self.0.cells c.args.self.0.before _ c.requires.ready.inside.rows_in_order in
    record {
      put = IsPutTo-none c.args.region _ _ _ _ _ none;
      holder = rw (items_to-none c.args.region _ none) (g.met.M.Cells.same_holder_refl _);
    }

pub returns-clause-transposed : goal.returns-clause-transposed
returns-clause-transposed g c =
    IsPutTo-all c.args.region _ _ _ _ _ _
    (λ x. limit-all c.args.region c.args.self.0.cells c.args.self.0.before _ c.requires.ready.inside.rows_in_order c.most_before-most.result c.loop-rows_done.rows_done x (c.most_before-most.ensures.most x) (omega arith))
    c.loop-rows_done.invariant.put

pub returns-clause-holder : goal.returns-clause-holder
returns-clause-holder g c =
    let last : ℕ → ℕ = limit c.args.region c.args.self.0.cells c.args.self.0.before (bit_and c.args.matrix.height (c.args.self.0.cells - 1)) c.loop-rows_done.rows_done in
    let all : items_to c.args.region last ≡ items_of c.args.region =
    items_to-all c.args.region last (λ x. limit-all c.args.region _ _ _ c.requires.ready.inside.rows_in_order c.most_before-most.result c.loop-rows_done.rows_done x (c.most_before-most.ensures.most x) (omega arith)) in
    rw all at c.loop-rows_done.invariant.holder

pub loop-rows_done-preserved-then-next-rows : goal.loop-rows_done-preserved-then-next-rows
loop-rows_done-preserved-then-next-rows g c = record { put = c.put_row-out.ensures.0 _ c.loop-rows_done.invariant.put; holder = c.put_row-out.ensures.1 _ c.loop-rows_done.invariant.holder }

pub loop-rows_done-preserved : goal.loop-rows_done-preserved
loop-rows_done-preserved g c = record { put = c.put_edge_row-out.ensures.0 _ c.loop-rows_done.invariant.put; holder = c.put_edge_row-out.ensures.1 _ c.loop-rows_done.invariant.holder }

-- Three stages make columns of 8 rows.
use Rattle.std.proofs.Common.{◌≡◌, ◌%◌, arith}
use Rattle.p3_util_fast.specs.Registers.{items_of_four}
use Rattle.p3_util_fast.proofs.RegistersLines.{AreLines-stages}
use Rattle.p3_util_fast.proofs.registers.line_blocks.load_lines.Goals as goal

pub returns : goal.returns
returns g c =
    AreLines-stages c.args.from c.args.width c.starts.result _ (items_of_four g.D.Register.items c.load-one.result) (items_of_four g.D.Register.items c.next_stage-two.result)
    (items_of_four g.D.Register.items c.next_stage.result) (λ r h. let same : r % 8 ≡ r = omega arith in rw same at (c.starts.ensures.are r h)) _
    c.requires.side c.load-one.ensures c.next_stage-two.ensures c.next_stage.ensures

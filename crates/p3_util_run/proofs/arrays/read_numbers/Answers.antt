-- An item that is not an unsigned number is in no list of numbers.
use Rattle.std.proofs.Common.{arith}
use Rattle.std.proofs.lemmas.Grind.{common_steps}
use Rattle.serde_json.specs.View.{view}
use Rattle.p3_util_run.proofs.NumberLists.{refused_item}
use Rattle.p3_util_run.proofs.arrays.read_numbers.Goals as goal

pub returns-in_default-as_u64-clause-refused : goal.returns-in_default-as_u64-clause-refused
returns-in_default-as_u64-clause-refused c _ xs same =
    refused_item view c.args.items.now xs c.loop-item.item-index c.item-item.result c.loop-item-test.true c.item-item.is c.in_default-as_u64.ensures same

pub loop-item-preserved : goal.loop-item-preserved
loop-item-preserved c = grind (arith, common_steps)

pub returns-clause-read : goal.returns-clause-read
returns-clause-read c = grind (arith, common_steps)

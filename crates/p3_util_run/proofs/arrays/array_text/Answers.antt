-- The text of an array of numbers has no float, so it is written exactly.
use Rattle.std.proofs.Common.{◌∙◌, string_bytes, ap, arith}
use Rattle.std.proofs.lemmas.Grind.{common_steps}
use Rattle.serde_json.specs.Data.{array}
use Rattle.serde_json.specs.View.{items_of}
use Rattle.p3_util_run.proofs.NumberLists.{text_of_numbers}
use Rattle.p3_util_run.proofs.arrays.array_text.Goals as goal

pub returns : goal.returns
returns c = text_of_numbers string_bytes _ c.args.numbers.items c.to_string.result (c.from-2.ensures ∙ ap (λ ds. array (items_of ds)) (grind (arith, common_steps))) c.to_string.ensures.text

pub loop-number-preserved : goal.loop-number-preserved
loop-number-preserved c = grind (arith, common_steps)

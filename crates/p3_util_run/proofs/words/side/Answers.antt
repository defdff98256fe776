-- The number that `parse` reads is the side that the word names.
use Rattle.std.proofs.Common.{sym}
use Rattle.p3_util_run.proofs.Sides.{side_parsed}
use Rattle.p3_util_run.proofs.words.side.Goals as goal

pub returns-then-is_all_digits : goal.returns-then-is_all_digits
returns-then-is_all_digits c = rw c.ok.ensures.value (side_parsed c.args.word.now c.parse.result c.parse.ensures.value.0 (sym c.if-is_all_digits.ensures))

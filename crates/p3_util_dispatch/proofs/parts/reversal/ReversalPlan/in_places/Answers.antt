-- Rows of whole places fill the list of these places.
use Rattle.std.proofs.Common.{rules, arith}
use Rattle.p3_util_dispatch.proofs.RowBytes.{list_whole, no_rows, places_whole, row_fits, rows_of_places}
use Rattle.p3_util_dispatch.proofs.parts.reversal.ReversalPlan.in_places.Goals as goal

pub new-requires : goal.new-requires
new-requires c = no_rows

pub overflow_mul-row : goal.overflow_mul-row
overflow_mul-row c = omega (arith, row_fits _ _ c.args.size c.requires.rows (omega arith) c.requires.fits)

pub new-requires-2 : goal.new-requires-2
new-requires-2 c = rows_of_places _ _ _ _ c.requires.rows c.whole_places-bytes.ensures.some c.whole_places-bytes.ensures.whole

pub returns-clause-all : goal.returns-clause-all
returns-clause-all c = grind (arith, list_whole)

pub returns-clause-plan : goal.returns-clause-plan
returns-clause-plan c = search rules

pub returns-clause-width : goal.returns-clause-width
returns-clause-width c some = rw c.new-2.ensures.width (places_whole _ _ c.whole_places-bytes.ensures.whole)

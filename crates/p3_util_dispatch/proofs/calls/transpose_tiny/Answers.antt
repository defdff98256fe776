-- Each way puts the region that is the whole matrix.
use Rattle.p3_util_dispatch.proofs.WholeMatrix.{whole_order}
use Rattle.p3_util_dispatch.proofs.calls.transpose_tiny.Goals as goal

pub returns-then-TESTS_INDICES-clause-order : goal.returns-then-TESTS_INDICES-clause-order
returns-then-TESTS_INDICES-clause-order g c = whole_order _ _ _ _ _ c.requires.output_fits (rw (c.whole-whole.ensures, c.new-matrix.ensures.source, c.new-matrix.ensures.width, c.new-matrix.ensures.height) at c.put.ensures.transposed)

pub returns-then-height-le-SHORT_COLUMN-clause-order : goal.returns-then-height-le-SHORT_COLUMN-clause-order
returns-then-height-le-SHORT_COLUMN-clause-order g c = whole_order _ _ _ _ _ c.requires.output_fits (rw (c.whole-whole.ensures, c.new-matrix.ensures.source, c.new-matrix.ensures.width, c.new-matrix.ensures.height) at c.put-then-height-le-SHORT_COLUMN.ensures.transposed)

pub returns-else-height-le-SHORT_COLUMN-clause-order : goal.returns-else-height-le-SHORT_COLUMN-clause-order
returns-else-height-le-SHORT_COLUMN-clause-order g c = whole_order _ _ _ _ _ c.requires.output_fits (rw (c.whole-whole.ensures, c.new-matrix.ensures.source, c.new-matrix.ensures.width, c.new-matrix.ensures.height) at c.put-else-height-le-SHORT_COLUMN.ensures.transposed)

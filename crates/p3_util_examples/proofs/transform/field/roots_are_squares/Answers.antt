-- Each root of the table is the square of the next, modulo the prime.
use Rattle.p3_util_examples.proofs.TransformLemmas.Numbers.{root-square}
use Rattle.p3_util_examples.proofs.transform.field.roots_are_squares.Goals as goal

pub returns-clause-squares : goal.returns-clause-squares
returns-clause-squares c = root-square

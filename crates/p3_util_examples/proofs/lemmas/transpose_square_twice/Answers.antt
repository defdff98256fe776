use Rattle.std.proofs.Common.{rules}
use Rattle.p3_util.proofs.Callers.{square_back}
use Rattle.p3_util_examples.proofs.lemmas.transpose_square_twice.Goals as goal

pub returns : goal.returns
returns g c = search (rules, square_back)

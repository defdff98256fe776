-- The inverse transform undoes the transform, in either order.
use Rattle.std.proofs.Common.{get_or}
use Rattle.p3_util_examples.specs.declared.transform.field.TheConstants.{ROOTS}
use Rattle.p3_util_examples.proofs.TransformLemmas.Law.{AreBelowPrime-each, IsInverseTransformed-same_list, IsTransformed-same_list}
use Rattle.p3_util_examples.proofs.TransformLemmas.Roots.{IsRoot-table, root-order}
use Rattle.p3_util_examples.proofs.transform.transforms_are_inverse.Goals as goal

pub returns-clause-inverse_last : goal.returns-clause-inverse_last
returns-clause-inverse_last c k width old mid new list =
    IsInverseTransformed-same_list k (get_or ROOTS k 0) width old mid new (IsRoot-table k list.0) (root-order k list.0) (AreBelowPrime-each old list.2) list.1

pub returns-clause-inverse_first : goal.returns-clause-inverse_first
returns-clause-inverse_first c k width old mid new list =
    IsTransformed-same_list k (get_or ROOTS k 0) width old mid new (IsRoot-table k list.0) (root-order k list.0) (AreBelowPrime-each old list.2) list.1

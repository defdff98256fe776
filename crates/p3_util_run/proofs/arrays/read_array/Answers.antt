-- If the numbers are refused, the input is the array of no list.
use Rattle.std.proofs.Common.{◌≡◌, ◌∙◌, Some, map, ap, sym}
use Rattle.serde_json.specs.Read.{read}
use Rattle.serde_json.specs.View.{view}
use Rattle.p3_util_run.specs.Arrays.{array_of, number_of}
use Rattle.p3_util_run.proofs.NumberLists.{items_of_numbers}
use Rattle.p3_util_run.proofs.arrays.read_array.Goals as goal

pub returns-in-Some-clause-refused : goal.returns-in-Some-clause-refused
returns-in-Some-clause-refused c was xs is =
    let both : Some (view c.in-Ok.value) ≡ Some (array_of xs) = sym c.in-Ok.ensures.ok.1 ∙ (ap read c.as_slice.ensures.value ∙ is.1) in
    let value : view c.in-Ok.value ≡ array_of xs = cc in
    let items : map view c.in-Some.items.now.items ≡ map number_of xs = items_of_numbers _ (view c.in-Ok.value) xs c.in-Some.ensures value in
    c.read_numbers.ensures.refused was xs (ap (map view) c.as_slice-in-Some.ensures.value ∙ items)

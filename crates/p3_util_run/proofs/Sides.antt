-- The value of a word of the command line that consists of decimal digits.
use Rattle.std.proofs.Common.{◌≡◌, ℕ, ◌<◌, ◌^◌, List, length, true, Some, None, Result, Ok, Err, rules, arith}
use Rattle.std.specs.Char.{is_ascii_digit}
use Rattle.std.specs.List.{list_all}
use Rattle.std.specs.Str.Parse.{ParsesUnsigned}
use Rattle.std.specs.Result.{result_ok}
use Rattle.std.proofs.lemmas.Bool.Decides.{nat_tests}
use Rattle.std.proofs.lemmas.Str.Parse.{IsNumeralModel, numerals_by_weight, parse_digits}
use Rattle.p3_util_run.specs.Words.{decimal_value, side_of}

-- words of digits and their values
own : IsNumeralModel (λ ds. list_all is_ascii_digit ds ≡ true) decimal_value
own = numerals_by_weight _ (search rules) decimal_value (search rules)

side_at_ok : (word : List ℕ) (n : ℕ) → (0 < length word) × (decimal_value word < 2 ^ 64) → n ≡ decimal_value word
    → list_all is_ascii_digit word ≡ true → Some n ≡ side_of word
side_at_ok word n fits e digits = grind (arith, nat_tests)

side_at_err : (word : List ℕ) → ((0 < length word) × (decimal_value word < 2 ^ 64) → ⊥) → list_all is_ascii_digit word ≡ true
    → None ≡ side_of word
side_at_err word unfit digits = grind (arith, nat_tests)

-- the number that `parse` reads from a word of digits is the side that the word names
pub side_parsed : {E : Type 0} → (word : List ℕ) (r : Result ℕ E) → ParsesUnsigned 64 10 word r → list_all is_ascii_digit word ≡ true
    → result_ok r ≡ side_of word
side_parsed {E} word (Ok n) parsed digits = let h = parse_digits own {E = E} 64 word (Ok n) parsed digits in side_at_ok word n h.0 h.1 digits
side_parsed {E} word (Err e) parsed digits = side_at_err word (parse_digits own {E = E} 64 word (Err e) parsed digits) digits

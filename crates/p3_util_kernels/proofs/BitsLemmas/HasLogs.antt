-- A number that meets the precondition of a strict logarithm is a power.
use Rattle.std.proofs.Common.{◌≡◌, ℕ, zero, suc, true, ◌==◌, ◌-◌, ◌&&◌, not, ◌^◌, bit_and, inl, inr}
use Rattle.std.proofs.lemmas.Bool.{and_parts, or_cases, eqb-true, eqb-false, not-true, false≢true}
use Rattle.std.specs.Int.{IsPowerOfTwo, is_power_of_two}
use Rattle.p3_util_kernels.specs.Powers.{HasLog2, HasLog3, IsPowerOfThree, any_below}
use Rattle.p3_util_kernels.proofs.ReverseLemmas.Lengths.{unshared}
use Rattle.p3_util_kernels.proofs.BitsLemmas.Powers.{power_of_two_test}

pub power_of_two : (n : ℕ) → HasLog2 n → IsPowerOfTwo n
power_of_two n (inl power) = power
power_of_two n (inr test) =
    elim (or_cases (not (n == 0) && bit_and n (n - 1) == 0) (is_power_of_two n) test) [
      | inl computed ↦
          let parts = and_parts (not (n == 0)) (bit_and n (n - 1) == 0) computed in
          elim (unshared n (eqb-true (bit_and n (n - 1)) 0 parts.1)) [ inl z ↦ absurd (eqb-false n 0 (not-true (n == 0) parts.0) z) | inr power ↦ power ]
      | inr tested ↦ (power_of_two_test n).0 tested
    ]

one-below : (count n : ℕ) → any_below count (λ e. n == 3 ^ e) ≡ true → IsPowerOfThree n
one-below zero n found = absurd (false≢true found)
one-below (suc count) n found =
    elim (or_cases (any_below count (λ e. n == 3 ^ e)) (n == 3 ^ count) found) [
      | inl below ↦ one-below count n below
      | inr last ↦ (count, eqb-true n (3 ^ count) last)
    ]

pub power_of_three : (n : ℕ) → HasLog3 n → IsPowerOfThree n
power_of_three n (inl power) = power
power_of_three n (inr found) = one-below 41 n found

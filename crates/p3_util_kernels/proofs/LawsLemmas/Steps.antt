-- Steps from one list to another: no step, one step, and the steps of two lists together.
use Rattle.std.proofs.Common.{◌≡◌, ℕ, ◌+◌, List, [], ◌∷◌, ◌++◌, slice_set, length-append, refl, sym, ◌∙◌, ap, swap, arith}
use Rattle.p3_util_kernels.specs.Least.{PutsLead, StepsLead, SwapsLead, after_puts, after_swaps}

more_steps : {A S : Type 0} (after : List A → List S → List A) → ((xs : List A) (s t : List S) → after xs (s ++ t) ≡ after (after xs s) t)
    → (m n all : ℕ) (a b c : List A) → StepsLead after m a b → StepsLead after n b c → m + n ≡ all → StepsLead after all a c
more_steps after append m n all a b c (s, sn, sb) (t, tn, tc) sum =
    (s ++ t, length-append s t ∙ omega (arith, sn, tn, sum), append a s t ∙ ap (λ xs. after xs t) sb ∙ tc)

pub no_puts : {A : Type 0} (xs : List A) → PutsLead 0 xs xs
unfolding after_puts
no_puts xs = ([], refl, refl)

pub one_put : {A : Type 0} (xs ys : List A) (i : ℕ) (v : A) → ys ≡ slice_set xs i v → PutsLead 1 xs ys
unfolding after_puts
one_put xs ys i v put = ((i, v) ∷ [], refl, sym put)

puts-append : {A : Type 0} (xs : List A) (s t : List (ℕ × A)) → after_puts xs (s ++ t) ≡ after_puts (after_puts xs s) t
unfolding after_puts
puts-append xs [] t = refl
puts-append xs (put ∷ s) t = puts-append (slice_set xs put.0 put.1) s t

pub more_puts : {A : Type 0} (m n all : ℕ) (a b c : List A) → PutsLead m a b → PutsLead n b c → m + n ≡ all → PutsLead all a c
more_puts = more_steps after_puts puts-append

pub no_swaps : {A : Type 0} (xs : List A) → SwapsLead 0 xs xs
unfolding after_swaps
no_swaps xs = ([], refl, refl)

pub one_swap : {A : Type 0} (xs ys : List A) (i j : ℕ) → ys ≡ swap xs i j → SwapsLead 1 xs ys
unfolding after_swaps
one_swap xs ys i j swapped = ((i, j) ∷ [], refl, sym swapped)

swaps-append : {A : Type 0} (xs : List A) (s t : List (ℕ × ℕ)) → after_swaps xs (s ++ t) ≡ after_swaps (after_swaps xs s) t
unfolding after_swaps
swaps-append xs [] t = refl
swaps-append xs (pair ∷ s) t = swaps-append (swap xs pair.0 pair.1) s t

pub more_swaps : {A : Type 0} (m n all : ℕ) (a b c : List A) → SwapsLead m a b → SwapsLead n b c → m + n ≡ all → SwapsLead all a c
more_swaps = more_steps after_swaps swaps-append

-- An input has an answer or one refusal, and never both.
use Rattle.std.proofs.Common.{◌≡◌, ◌↔◌, ◌⊎◌, inl, inr, ℕ, List, length, Some, None, Option, Result, Ok, Err, IsOk, IfErr, IfSome, MatchResult, MatchOption, ap, subst, sym, refl, ◌∙◌}
use Rattle.std.specs.Prelude.{IsSomeAnd, ⊤}
use Rattle.std.proofs.KnownBytes.{Consumes-whole}
use Rattle.p3_util_kernels.proofs.TransposeLemmas.Matrix.{IsTranspose-unique}
use Rattle.p3_util_kernels.proofs.ReverseLemmas.Reversal.{IsReversal-unique, IsRowReversal-unique}
use Rattle.p3_util_run.proofs.NumberLists.{array_of_injective}
use Rattle.p3_util_run.specs.Arrays.{IsArrayOf, array_of, line_of}
use Rattle.p3_util_run.specs.Program.{Answers, Fault, Fits, IsDefined, IsRearranged, IsSettled, misfit, Out, ReadsAll, Refuses}
use Rattle.p3_util_run.specs.Words.{command_of}
use Rattle.p3_util_run.specs.declared.fault.RunFault.{RunFault}
use Rattle.p3_util_run.specs.declared.fault.RunFault.TheVariants.{Memory, Write, UnknownCommand}
use Rattle.p3_util_run.specs.declared.words.Command.{Command}
use Rattle.p3_util_run.specs.declared.words.Command.TheVariants.{Revbits, Revrows, Transpose}

-- an input is the array of at most one list
same_list : (input xs ys : List ℕ) → IsArrayOf input xs → IsArrayOf input ys → xs ≡ ys
same_list input xs ys first second =
    let both : Some (array_of xs) ≡ Some (array_of ys) = sym first.1 ∙ second.1 in
    let arrays : array_of xs ≡ array_of ys = cc in
    array_of_injective xs ys arrays

answered_or_refused : (command : Command) (input text : List ℕ) (fault : RunFault) → Answers command input text → Refuses command input fault → ⊥
answered_or_refused command input text fault answer (inl none) = none.1 answer.0 answer.2
answered_or_refused command input text fault answer (inr unfit) =
    let same : answer.0 ≡ unfit.0 = same_list input answer.0 unfit.0 answer.2 unfit.1 in
    let fits : List ℕ → Type 0 = λ xs. Fits command (length xs) in
    unfit.2 (subst fits same answer.3)

one_refusal : (command : Command) (input : List ℕ) (f g : RunFault) → Refuses command input f → Refuses command input g → f ≡ g
one_refusal command input f g (inl none) (inl none') = none.0 ∙ sym none'.0
one_refusal command input f g (inl none) (inr unfit) = absurd (none.1 unfit.0 unfit.1)
one_refusal command input f g (inr unfit) (inl none) = absurd (none.1 unfit.0 unfit.1)
one_refusal command input f g (inr unfit) (inr unfit') =
    let same : unfit.0 ≡ unfit'.0 = same_list input unfit.0 unfit'.0 unfit.1 unfit'.1 in
    unfit.3 ∙ (ap (λ xs. misfit command (length xs)) same ∙ sym unfit'.3)

one_list : (command : Command) (old a b : List ℕ) → Fits command (length old) → IsRearranged command old a → IsRearranged command old b → a ≡ b
one_list Revbits old a b fits p q = IsReversal-unique old a b fits p q
one_list (Revrows width) old a b fits p q = IsRowReversal-unique width old a b fits p q
one_list (Transpose width height) old a b fits p q = IsTranspose-unique width height old a b p q

one_answer : (command : Command) (input a b : List ℕ) → Answers command input a → Answers command input b → a ≡ b
one_answer command input a b p q =
    let same : q.0 ≡ p.0 = same_list input q.0 p.0 q.2 p.2 in
    let moved : IsRearranged command p.0 q.1 = subst (λ (xs : List ℕ). IsRearranged command xs q.1) same q.4 in
    p.5 ∙ (ap line_of (one_list command p.0 p.1 q.1 p.3 p.4 moved) ∙ sym q.5)

one_text_of : (named : Option Command) (input a b : List ℕ) → IsSomeAnd named (λ k. Answers k input a) → IsSomeAnd named (λ k. Answers k input b) → a ≡ b
one_text_of None input a b p q = absurd p
one_text_of (Some command) input a b p q = one_answer command input a b p q

-- for the same words of the command line and the same input there is at most one output
pub one_text : (words : List (List ℕ)) (input a b : List ℕ) → Out words input a → Out words input b → a ≡ b
one_text words input a b p q = one_text_of (command_of words) input a b p q

-- an output of a command is an output of the words that name the command
out_from_answers : (words : List (List ℕ)) (command : Command) (input text : List ℕ) → Some command ≡ command_of words → Answers command input text
    → Out words input text
out_from_answers words command input text named answer =
    let P : Option Command → Type 0 = λ o. IsSomeAnd o (λ k. Answers k input text) in subst P named answer

answers_from_out : (words : List (List ℕ)) (command : Command) (input text : List ℕ) → Some command ≡ command_of words → Out words input text
    → Answers command input text
answers_from_out words command input text named out =
    let P : Option Command → Type 0 = λ o. IsSomeAnd o (λ k. Answers k input text) in subst P (sym named) out

fault_from_refuses : (words : List (List ℕ)) (command : Command) (input : List ℕ) (fault : RunFault) → Some command ≡ command_of words
    → Refuses command input fault → Fault words input fault
fault_from_refuses words command input fault named refused =
    let P : Option Command → Type 0 = λ o. MatchOption o (fault ≡ UnknownCommand) (λ k. Refuses k input fault) in subst P named refused

refuses_from_fault : (words : List (List ℕ)) (command : Command) (input : List ℕ) (fault : RunFault) → Some command ≡ command_of words
    → Fault words input fault → Refuses command input fault
refuses_from_fault words command input fault named told =
    let P : Option Command → Type 0 = λ o. MatchOption o (fault ≡ UnknownCommand) (λ k. Refuses k input fault) in subst P (sym named) told

-- what is known of a run that read its whole input
abbrev pub Ends : {T : Type 0} → Command → List ℕ → Result T RunFault → Type 0
Ends command input r = MatchResult r (λ _. (text : List ℕ) × Answers command input text) (λ fault. IsSettled {T = ⊤} (Err fault) → Refuses command input fault)

pub ends_written : {T : Type 0} → (command : Command) (input text : List ℕ) (r : Result T RunFault) → Answers command input text
    → IfErr r (λ fault. fault ≡ Write) → Ends command input r
ends_written command input text (Ok v) answer kind = (text, answer)
ends_written command input text (Err fault) answer kind =
    λ settled. let P : RunFault → Type 0 = λ f. IsSettled {T = ⊤} (Err f) in absurd (subst P kind settled)

pub ends_refused : (command : Command) (input : List ℕ) (fault : RunFault) → (fault ≡ Memory) ⊎ Refuses command input fault
    → IsSettled {T = ⊤} (Err fault) → Refuses command input fault
ends_refused command input fault (inl memory) settled = let P : RunFault → Type 0 = λ f. IsSettled {T = ⊤} (Err f) in absurd (subst P memory settled)
ends_refused command input fault (inr refused) settled = refused

-- the clauses of `run` about what is known when it ends
answers_both_ways : {T : Type 0} → (words : List (List ℕ)) (command : Command) (input : List ℕ) (r : Result T RunFault) → Some command ≡ command_of words
    → Ends command input r → IsSettled r → IsOk r ↔ IsDefined words input
answers_both_ways words command input (Ok v) named ends settled =
    (λ _. (ends.0, out_from_answers words command input ends.0 named ends.1), λ _. refl)
answers_both_ways words command input (Err fault) named ends settled =
    (λ ok. absurd cc, λ defined. absurd (answered_or_refused command input defined.0 fault (answers_from_out words command input defined.0 named defined.1) (ends settled)))

refuses_both_ways : {T : Type 0} → (words : List (List ℕ)) (command : Command) (input : List ℕ) (r : Result T RunFault) → Some command ≡ command_of words
    → Ends command input r → IsSettled r → (fault : RunFault) → (r ≡ Err fault) ↔ Fault words input fault
refuses_both_ways words command input (Ok v) named ends settled fault = (
  λ is. absurd cc,
  λ told. absurd (answered_or_refused command input ends.0 fault ends.1 (refuses_from_fault words command input fault named told)),
)
refuses_both_ways words command input (Err f) named ends settled fault = (
  λ is. let same : f ≡ fault = cc in subst (Fault words input) same (fault_from_refuses words command input f named (ends settled)),
  λ told. ap Err (one_refusal command input f fault (ends settled) (refuses_from_fault words command input fault named told)),
)

pub answers : {T : Type 0} → (words : List (List ℕ)) (command : Command) (a b : Option (List ℕ)) (input : List ℕ) (r : Result T RunFault)
    → Some command ≡ command_of words → ReadsAll a b input → Ends command input r
    → IfSome a (λ input'. IsSettled r → IsOk r ↔ IsDefined words input')
answers words command a b input r named all ends =
    Consumes-whole a b input (λ input'. IsSettled r → IsOk r ↔ IsDefined words input') all.0 all.1 (answers_both_ways words command input r named ends)

pub refuses : {T : Type 0} → (words : List (List ℕ)) (command : Command) (a b : Option (List ℕ)) (input : List ℕ) (r : Result T RunFault)
    → Some command ≡ command_of words → ReadsAll a b input → Ends command input r
    → IfSome a (λ input'. IsSettled r → (fault : RunFault) → (r ≡ Err fault) ↔ Fault words input' fault)
refuses words command a b input r named all ends =
    Consumes-whole a b input (λ input'. IsSettled r → (fault : RunFault) → (r ≡ Err fault) ↔ Fault words input' fault) all.0 all.1
    (refuses_both_ways words command input r named ends)

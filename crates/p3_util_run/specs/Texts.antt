-- What is printed for a fault. Numbers are decimal. Source: new.
use Rattle.std.specs.Prelude.{ℕ, List, ◌++◌, codes}
use Rattle.std.specs.Fmt.{decimal}
use Rattle.p3_util_run.specs.declared.fault.RunFault.{RunFault}
use Rattle.p3_util_run.specs.declared.fault.RunFault.TheVariants.{UnknownCommand, Read, NotAnArray, BadLength, NotTheLength, Memory, Write, BadRows}

-- the line that is printed for a fault, without the line feed at its end. Numbers are decimal
abbrev pub fault_text : RunFault → List ℕ
fault_text UnknownCommand = codes "error: unknown command"
fault_text Read = codes "error: input cannot be read"
fault_text NotAnArray = codes "error: input is not a JSON array of u64"
fault_text (BadLength len) = codes "error: length " ++ decimal len ++ codes " is neither zero nor a power of two"
fault_text (NotTheLength width height len) = codes "error: " ++ (decimal width ++ (codes " by " ++ (decimal height ++ (codes " is not the length " ++ decimal len))))
fault_text Memory = codes "error: out of memory"
fault_text Write = codes "error: output cannot be written"
fault_text (BadRows width len) = codes "error: length " ++ decimal len ++ codes " is not " ++ decimal width ++ codes " times zero or a power of two"

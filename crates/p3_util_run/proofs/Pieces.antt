-- A text that is written in pieces is written completely.
use Rattle.std.proofs.Common.{◌≡◌, ℕ, ◌-◌, List, ◌++◌, length, take, drop, Option, ap, ◌∙◌, append_assoc, take-append-drop}
use Rattle.std.proofs.KnownBytes.{Appends-trans}
use Rattle.std.proofs.lemmas.List.{take_rest}
use Rattle.std.specs.Io.KnownBytes.{Appends}

-- the bytes that are known to be written, followed by the bytes that are still to be written, are the text
abbrev pub IsPartOf : Option (List ℕ) → Option (List ℕ) → (rest text : List ℕ) → Type 0
IsPartOf old new rest text = (done : List ℕ) × Appends old new done × (done ++ rest ≡ text)

-- n more bytes are written
pub part_more : (old mid new : Option (List ℕ)) (rest text : List ℕ) (n : ℕ) → IsPartOf old mid rest text → Appends mid new (take n rest)
    → IsPartOf old new (take (length rest - n) (drop n rest)) text
part_more old mid new rest text n part more = (
  part.0 ++ take n rest,
  Appends-trans old mid new part.0 (take n rest) part.1 more,
  rw take_rest (append_assoc part.0 (take n rest) (drop n rest) ∙ (ap (λ l. part.0 ++ l) (take-append-drop n rest) ∙ part.2)),
)

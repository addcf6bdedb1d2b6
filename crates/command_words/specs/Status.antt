-- Where the exit status of a whole program comes from.
use Rattle.std.specs.Prelude.{◌≡◌, ◌⊎◌, ℕ, List, Result, Err, IsErrAnd}
use Rattle.std.specs.declared.io.Error as io
use denote.Bor.{Bor}
use Rattle.command_words.specs.declared.line_fault.LineFault.{LineFault}
use Rattle.command_words.specs.declared.line_fault.LineFault.TheVariants.{NoMemory}

-- what came of the call: of some words, or of some error of the system in their place, or memory ran out
abbrev pub IsMade : {L : Type 0} → (List (Bor (List ℕ)) → Result L LineFault → Type 0) → (io.Error → LineFault → Type 0) → Result L LineFault → Type 0
IsMade made_of missing_by made = ((words : List (Bor (List ℕ))) × made_of words made) ⊎ (IsErrAnd made (λ fault. (error : io.Error) × missing_by error fault) ⊎ (made ≡ Err NoMemory))

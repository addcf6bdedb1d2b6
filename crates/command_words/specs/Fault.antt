-- Why words are no command line, and the exit statuses that go with it.
use Rattle.std.specs.Prelude.{◌≡◌, ◌≢◌, ◌↔◌, ◌⊎◌, ⊤, ℕ}
use Rattle.clap.specs.Words.{kind_of}
use Rattle.clap.specs.declared.error.Error as clap
use Rattle.clap.specs.declared.error.kind.ErrorKind.{ErrorKind}
use Rattle.clap.specs.declared.error.kind.ErrorKind.TheVariants.{DisplayHelp, DisplayVersion, OutOfMemory}
use Rattle.command_words.specs.declared.line_fault.LineFault.{LineFault}
use Rattle.command_words.specs.declared.line_fault.LineFault.TheVariants.{Words, NoMemory}

-- what a fault of clap is to the program
abbrev pub line_fault_by : ErrorKind → clap.Error → LineFault
line_fault_by OutOfMemory error = NoMemory
line_fault_by _ error = Words error

abbrev pub line_fault_of : clap.Error → LineFault
line_fault_of error = line_fault_by (kind_of error) error

-- 64 where the words are wrong, 0 where they ask for help or the version, 4 where memory ran out
abbrev pub IsLineStatus : LineFault → ℕ → Type 0
IsLineStatus NoMemory status = status ≡ 4
IsLineStatus (Words error) status = ((status ≡ 0) ⊎ (status ≡ 64)) × ((status ≡ 64) ↔ ((kind_of error ≢ DisplayHelp) × (kind_of error ≢ DisplayVersion)))

-- or 3 where help or the version was asked for, and could not be printed
abbrev pub IsPrintedStatus : LineFault → ℕ → Type 0
IsPrintedStatus NoMemory status = status ≡ 4
IsPrintedStatus (Words error) status = ((status ≡ 0) ⊎ (status ≡ 3) ⊎ (status ≡ 64)) × ((status ≡ 64) ↔ ((kind_of error ≢ DisplayHelp) × (kind_of error ≢ DisplayVersion)))

-- the words are at fault by an error of this kind, but for memory
abbrev pub IsOfKind : ErrorKind → LineFault → Type 0
IsOfKind kind (Words error) = kind_of error ≡ kind
IsOfKind kind NoMemory = ⊤

-- Exit statuses of the program's faults.
use Rattle.std.specs.Prelude.{◌≡◌, ◌⊎◌, ⊤, ℕ, List, nat_eq, if◌then◌else◌}
use Rattle.types.specs.declared.refusal.Refusal.{Refusal}
use Rattle.types.specs.declared.refusal.Refusal.TheVariants.{SourceFault, SinkFault, NoMemory}
use Rattle.clap.specs.Words.{App, IsAmong, fault_of, kind_of}
use Rattle.clap.specs.declared.error.kind.ErrorKind.TheVariants.{Io}
use Rattle.convert.specs.declared.hex_text.HexFault as hex
use Rattle.engine.specs.declared.stopped.Stopped.{Stopped}
use Rattle.program.specs.declared.fault.Fault as fault
use Rattle.command_words.specs.declared.line_fault.LineFault.{LineFault}
use Rattle.command_words.specs.declared.line_fault.LineFault.TheVariants.{Words, NoMemory as NoMemoryForWords}
use Rattle.command_words.specs.Fault.{IsOfKind}
use Rattle.program.specs.Program.{IsProgram}

-- 1 where octets are refused, 3 where a device failed, 4 where memory ran out
abbrev pub refusal_status : Refusal → ℕ
refusal_status SourceFault = 3
refusal_status SinkFault = 3
refusal_status NoMemory = 4
refusal_status _ = 1

-- 2 where a module is refused, 4 where memory ran out
abbrev pub module_status : ℕ → ℕ
module_status number = if nat_eq number 33 then 4 else 2

abbrev pub fault_status : fault.Fault → ℕ
fault_status (fault.TheVariants.Refused refusal done) = refusal_status refusal
fault_status fault.TheVariants.NotHexadecimal = 1
fault_status fault.TheVariants.TextTooLong = 1
fault_status (fault.TheVariants.CannotRead path) = 3
fault_status (fault.TheVariants.Module refused) = module_status refused.number
fault_status fault.TheVariants.NoSuchType = 64
fault_status fault.TheVariants.SharedInput = 64

-- of the program's command `clap` refuses the words, and the error is of a kind that it has there
abbrev pub IsRefusalOf : List (List ℕ) → LineFault → Type 0
IsRefusalOf words (Words error) = (app : App) × IsProgram app × IsAmong (kind_of error) (fault_of app words)
IsRefusalOf words NoMemoryForWords = ⊤

-- a word is not UTF-8, but for memory
abbrev pub IsNotText : LineFault → Type 0
IsNotText = IsOfKind Io

-- what a refusal of octets is to the program, before which no value was done
abbrev pub fault_of_refusal : Refusal → fault.Fault
fault_of_refusal refusal = fault.TheVariants.Refused refusal 0

-- what a call over a stream that stopped is to it
abbrev pub fault_of_stopped : Stopped → fault.Fault
fault_of_stopped stopped = fault.TheVariants.Refused stopped.refusal stopped.done

-- what a refusal of text is to it
abbrev pub fault_of_text : hex.HexFault → fault.Fault
fault_of_text hex.TheVariants.NotHex = fault.TheVariants.NotHexadecimal
fault_of_text hex.TheVariants.TooLong = fault.TheVariants.TextTooLong
fault_of_text hex.TheVariants.NoMemory = fault_of_refusal NoMemory

-- 1, 3 or 4: the fault is not one of the command line
abbrev pub IsFaultOfInput : fault.Fault → Type 0
IsFaultOfInput f = (fault_status f ≡ 1) ⊎ (fault_status f ≡ 3) ⊎ (fault_status f ≡ 4)

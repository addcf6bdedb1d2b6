-- Exit statuses.
use Rattle.std.specs.Prelude.{◌≡◌, ◌≤◌, ◌⊎◌, ◌==◌, if◌then◌else◌, ℕ}
use Rattle.std.specs.IoError.{error_kind}
use Rattle.std.specs.declared.io.ErrorKind.{ErrorKind}
use Rattle.std.specs.declared.io.ErrorKind.TheVariants.{OutOfMemory}
use Rattle.types.specs.declared.refusal.Refusal.{Refusal}
use Rattle.types.specs.declared.refusal.Refusal.TheVariants.{NoMemory as RefusedMemory}
use Rattle.view_faults.specs.declared.fault.Fault.{Fault}
use Rattle.view_faults.specs.declared.fault.Fault.TheVariants.{Refused, CannotRead, NotHexadecimal, Output, NoValue, CannotWrite, NoMemory}
use Rattle.view_faults.specs.declared.no_type.NoType.{NoType}
use Rattle.view_faults.specs.declared.no_type.NoType.TheVariants.{CannotRead as NoModule, Module, NotAssigned, NotBuiltIn}

-- 0 where all is done, 1 where octets are refused, 2 a module, 3 a file, 4 out of memory
abbrev pub IsEnd : ℕ → Type 0
IsEnd status = status ≤ 4

-- an end, or 64 where no built-in type and no refusal is so named
abbrev pub IsStatus : ℕ → Type 0
IsStatus status = IsEnd status ⊎ (status ≡ 64)

-- the status where octets are refused
abbrev pub status_of_refusal : Refusal → ℕ
status_of_refusal RefusedMemory = 4
status_of_refusal _ = 1

-- the status where the program stops at a file
abbrev pub status_of : Fault → ℕ
status_of (Refused refusal) = status_of_refusal refusal
status_of CannotRead = 3
status_of NotHexadecimal = 1
status_of Output = 0
status_of NoValue = 1
status_of CannotWrite = 3
status_of NoMemory = 4

-- the status where a module's file cannot be read
abbrev pub status_of_kind : ErrorKind → ℕ
status_of_kind OutOfMemory = 4
status_of_kind _ = 3

-- the status where a module is refused: 33 is memory's number
abbrev pub status_of_number : ℕ → ℕ
status_of_number number = if number == 33 then 4 else 2

-- the status where there is no type
abbrev pub status_without : NoType → ℕ
status_without (NoModule error) = status_of_kind (error_kind error)
status_without (Module fault) = status_of_number fault.number
status_without (NotAssigned fault names) = status_of_number fault.number
status_without NotBuiltIn = 64

-- What the program did with an input.
use Rattle.std.specs.Prelude.{◌≡◌, ◌⊎◌, ℕ, Bool, true, false, List, Option, Some, IfSome}
use Rattle.octets.specs.Rule.{Rule}
use Rattle.types.specs.declared.refusal.Refusal.{Refusal}
use Rattle.types.specs.Shape.{Shape}
use Rattle.engine.specs.Rule.{rule_of}
use Rattle.program.specs.declared.command_line.Line.{Line}
use Rattle.program.specs.declared.command_line.Verb.TheVariants as verb
use Rattle.program.specs.declared.tasks.Task.{Task}
use Rattle.program.specs.declared.tasks.Task.TheVariants.{Show, Check, Convert}
use Rattle.program.specs.Fault.{refusal_status}
use Rattle.convert.specs.HexText.{IsHexInput, IsRefusedText}
use Rattle.program.specs.Line.{IsLineType}
use Rattle.program.specs.Task.{IsDone, IsTaskStopped}

-- what the line asks for
abbrev pub IsTaskOf : Line → Task → Type 0
IsTaskOf line Show = line.verb ≡ verb.Show
IsTaskOf line Check = line.verb ≡ verb.Check
IsTaskOf line (Convert to) = (line.verb ≡ verb.Convert) × (line.to ≡ Some to)

-- the task was done with all of an input: with its octets, or with those that its hexadecimal text spells
abbrev pub IsInputDone : Bool → Task → Rule → Shape → Option (List ℕ) → Option (List ℕ) → Option (List ℕ) → Type 0
IsInputDone false task from shape input old new = IsDone task false from shape input old new
IsInputDone true task from shape input old new = IfSome input (λ text. (octets : List ℕ) × IsHexInput octets text × IsDone task true from shape (Some octets) old new)

-- the task stopped at a refusal of this status: 1 at octets that it refuses, 3 at a device, 4 without memory
abbrev pub IsStoppedAt : ℕ → Bool → Task → Rule → Shape → Option (List ℕ) → Option (List ℕ) → Option (List ℕ) → Type 0
IsStoppedAt status hex task from shape octets old new =
    (done : ℕ) × (refusal : Refusal) × (refusal_status refusal ≡ status) × IsTaskStopped task hex from shape done refusal octets old new

-- an input stopped the task with this status: by its octets or, with 1, because its text spells none or is too long, and
-- then nothing was written, or by those that it spells
abbrev pub IsInputStopped : ℕ → Bool → Task → Rule → Shape → Option (List ℕ) → Option (List ℕ) → Option (List ℕ) → Type 0
IsInputStopped status false task from shape input old new = IsStoppedAt status false task from shape input old new
IsInputStopped status true task from shape input old new = IfSome input (λ text. ((status ≡ 1) × IsRefusedText text × (new ≡ old))
    ⊎ ((octets : List ℕ) × IsHexInput octets text × IsStoppedAt status true task from shape (Some octets) old new))

-- what is so of an input by the line's task, its rule to read by and the type that its name means
pub record OfInput (Holds : Bool → Task → Rule → Shape → Option (List ℕ) → Option (List ℕ) → Option (List ℕ) → Type 0)
    (line : Line) (file : List ℕ) (input old new : Option (List ℕ)) : Type 0 where
  pub type : Shape
  pub task : Task
  pub is_type : IsLineType line file type
  pub is_task : IsTaskOf line task
  pub holds : Holds line.hex task (rule_of line.from) type input old new

-- all was done; the input stopped the task with this status
abbrev pub IsRun : Line → List ℕ → Option (List ℕ) → Option (List ℕ) → Option (List ℕ) → Type 0
IsRun = OfInput IsInputDone

abbrev pub IsStoppedRun : ℕ → Line → List ℕ → Option (List ℕ) → Option (List ℕ) → Option (List ℕ) → Type 0
IsStoppedRun status = OfInput (IsInputStopped status)

-- What the program does with a stream of values.
use Rattle.std.specs.Prelude.{◌≡◌, ◌≢◌, ◌++◌, ◌∷◌, ℕ, Bool, true, false, List, [], Option, Some, None, IfSome, Result, IfOk, IfErr, ⊤, codes, decimal}
use Rattle.octets.specs.Rule.{Rule}
use Rattle.types.specs.declared.refusal.Refusal.{Refusal}
use Rattle.types.specs.declared.refusal.Refusal.TheVariants.{SinkFault}
use Rattle.types.specs.Encoding.{IsAccepted}
use Rattle.types.specs.Shape.{Shape}
use Rattle.texts.specs.Shown.{IsShown}
use Rattle.engine.specs.Rule.{canonical_rule_of}
use Rattle.engine.specs.Stream.{IsChecked, IsCheckStopped, IsConverted, IsLine, IsListed, IsStopped, OfStream}
use Rattle.engine.specs.Canonical.{Canonical}
use Rattle.program.specs.declared.fault.Fault.{Fault}
use Rattle.program.specs.declared.fault.Fault.TheVariants.{Refused}
use Rattle.program.specs.Fault.{IsFaultOfInput}
use Rattle.program.specs.declared.tasks.Task.{Task}
use Rattle.program.specs.declared.tasks.Task.TheVariants.{Show, Check, Convert}

-- the line that says how many values there were
abbrev pub count_line : ℕ → List ℕ
count_line count = codes "ok " ++ decimal count ++ 10 ∷ []

-- the task that writes values: as their encodings by a rule or, without one, as lines of text
abbrev pub writing : Option Canonical → Task
writing None = Show
writing (Some to) = Convert to

-- where values are converted to hexadecimal text: the stream was converted to some octets
abbrev pub IsTextOf : Rule → Canonical → Shape → List ℕ → Type 0
IsTextOf from to shape stream = (count : ℕ) × (octets : List ℕ) × IsConverted from (canonical_rule_of to) shape count stream octets

-- the task was done with all octets that a source had: they are encodings of values of the type, and what was written
-- is what the task asks for
abbrev pub IsDone : Task → Bool → Rule → Shape → Option (List ℕ) → Option (List ℕ) → Option (List ℕ) → Type 0
IsDone Show hex from shape left old new = OfStream left old new (λ stream written. (count : ℕ) × IsListed (IsShown shape) from shape count stream written)
IsDone Check hex from shape left old new = OfStream left old new (λ stream written. (count : ℕ) × IsChecked from shape count stream × (written ≡ count_line count))
IsDone (Convert to) false from shape left old new = OfStream left old new (λ stream written. (count : ℕ) × IsConverted from (canonical_rule_of to) shape count stream written)
IsDone (Convert to) true from shape left old new = IfSome left (IsTextOf from to shape)

-- so many values were converted to hexadecimal text, and then a refusal came
pub record IsTextStopped (from : Rule) (to : Canonical) (shape : Shape) (done : ℕ) (refusal : Refusal) (stream : List ℕ) : Type 0 where
  pub read : IsCheckStopped from shape done refusal stream
  -- but where the text could not be written, some octets were what there was to write
  pub written : refusal ≢ SinkFault → (octets : List ℕ) × IsStopped (IsAccepted (canonical_rule_of to) shape) from shape done refusal stream octets

-- the task stopped at a refusal behind so many values: they are at the front of the octets that the source had, and the
-- rest says why. What `check` wrote is not named here: `run` says that after 1 and 4 it wrote nothing (`kept`). After 3 a
-- part of its line may be written, and of a write that failed std tells no octets
abbrev pub IsTaskStopped : Task → Bool → Rule → Shape → ℕ → Refusal → Option (List ℕ) → Option (List ℕ) → Option (List ℕ) → Type 0
IsTaskStopped Show hex from shape done refusal left old new = OfStream left old new (IsStopped (IsLine (IsShown shape)) from shape done refusal)
IsTaskStopped Check hex from shape done refusal left old new = IfSome left (IsCheckStopped from shape done refusal)
IsTaskStopped (Convert to) false from shape done refusal left old new = OfStream left old new (IsStopped (IsAccepted (canonical_rule_of to) shape) from shape done refusal)
IsTaskStopped (Convert to) true from shape done refusal left old new = IfSome left (IsTextStopped from to shape done refusal)

-- and the fault says so
abbrev pub IsTaskFault : Task → Bool → Rule → Shape → Option (List ℕ) → Option (List ℕ) → Option (List ℕ) → Fault → Type 0
IsTaskFault task hex from shape left old new (Refused refusal done) = IsTaskStopped task hex from shape done refusal left old new
IsTaskFault task hex from shape left old new _ = ⊥

-- what it came to with the values of a source, where what is written goes behind what was
pub record HasPerformed (task : Task) (hex : Bool) (from : Rule) (shape : Shape) (left old new : Option (List ℕ)) (result : Result ⊤ Fault) : Type 0 where
  pub done : IfOk result (λ _. IsDone task hex from shape left old new)
  pub stopped : IfErr result (IsTaskFault task hex from shape left old new)
  pub status : IfErr result IsFaultOfInput

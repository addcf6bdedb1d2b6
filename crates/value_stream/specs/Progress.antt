-- How far the values of a source were returned.
use Rattle.std.specs.Prelude.{◌≡◌, ◌+◌, ℕ, List, ⊤, Option, Some, None, Result, Ok, Err}
use Rattle.std.specs.Io.KnownBytes.{IsAtEnd}
use Rattle.octets.specs.Rule as encoding
use Rattle.types.specs.declared.refusal.Refusal.{Refusal}
use Rattle.types.specs.declared.ty.Ty.{Ty}
use Rattle.types.specs.Shape.{Val}
use Rattle.types.specs.View.{ty_view}
use Rattle.engine.specs.declared.rule.Rule.{Rule}
use Rattle.engine.specs.declared.stopped.Stopped.{Stopped}
use Rattle.engine.specs.Refusal.{IsOfChecking}
use Rattle.engine.specs.Rule.{rule_of}
use Rattle.engine.specs.Stream.{source_failures}
use Rattle.value_stream.specs.Next.{IsNext, IsStop}

-- what was returned of a source, and what is left
pub record Progress : Type 0 where
  pub rule : Rule
  pub ty : Ty
  -- how many values were returned, and how many octets they have
  pub done : ℕ
  pub offset : ℕ
  -- the octets behind those that were read, where the source tells them
  pub left : Option (List ℕ)
  -- how many reads of the source failed
  pub failures : ℕ
  -- the end, or why no value is returned any more
  pub ended : Option (Result ⊤ Refusal)

abbrev pub progress : Rule → Ty → ℕ → ℕ → Option (List ℕ) → ℕ → Option (Result ⊤ Refusal) → Progress
progress rule ty done offset left failures ended = record { rule = rule; ty = ty; done = done; offset = offset; left = left; failures = failures; ended = ended }

-- the value was next, and was returned
pub record Returns (v : Val) (old new : Progress) : Type 0 where
  pub rule : new.rule ≡ old.rule
  pub type : new.ty ≡ old.ty
  pub next : IsNext (rule_of old.rule) (ty_view old.ty) v old.offset new.offset old.left new.left
  pub done : new.done ≡ old.done + 1

-- the refusal is right to stop before the next value
abbrev pub StopsBefore : Refusal → Progress → Progress → Type 0
StopsBefore refusal old new = IsStop (rule_of old.rule) (ty_view old.ty) refusal old.offset old.left new.left

-- what a call says of those that follow
abbrev pub ending : {V : Type 0} → Result (Option V) Stopped → Option (Result ⊤ Refusal)
ending (Ok (Some _)) = None
ending (Ok None) = Some (Ok tt)
ending (Err stopped) = Some (Err stopped.refusal)

abbrev pub failures_at : Option (Result ⊤ Refusal) → ℕ
failures_at (Some (Err refusal)) = source_failures refusal
failures_at _ = 0

-- what holds once no value is returned any more
abbrev pub HasEnded : encoding.Rule → Option (List ℕ) → Option (Result ⊤ Refusal) → Type 0
HasEnded rule left None = ⊤
HasEnded rule left (Some (Ok _)) = IsAtEnd left
HasEnded rule left (Some (Err refusal)) = IsOfChecking rule refusal

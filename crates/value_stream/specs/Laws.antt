-- What all values that are returned come to.
use Rattle.std.specs.Prelude.{◌≡◌, ◌+◌, ℕ, List, [], ◌∷◌, Some, IfSome, length}
use Rattle.std.specs.Io.KnownBytes.{IsAtEnd}
use Rattle.types.specs.declared.refusal.Refusal.{Refusal}
use Rattle.types.specs.Shape.{Val}
use Rattle.types.specs.Stream.{IsStream}
use Rattle.types.specs.View.{ty_view}
use Rattle.engine.specs.Rule.{rule_of}
use Rattle.engine.specs.Stream.{BeginsWith, IsCheckStopped}
use Rattle.value_stream.specs.Progress.{Progress, Returns, StopsBefore}

-- these values were returned, one after another
abbrev pub ReturnsAll : List Val → Progress → Progress → Type 0
ReturnsAll [] old new = new ≡ old
ReturnsAll (v ∷ values) old new = (between : Progress) × Returns v old between × ReturnsAll values between new

-- they are counted, and are the values at the front of the stream: all of its values at the end, and before a stop those that `check` counts
pub record AreThoseOf (stream : List ℕ) (values : List Val) (first last : Progress) : Type 0 where
  pub counted : last.done ≡ first.done + length values
  pub front : IfSome last.left (BeginsWith (rule_of first.rule) (ty_view first.ty) values stream)
  pub all : IsAtEnd last.left → IsStream (rule_of first.rule) (ty_view first.ty) values stream
  pub stopped : (refusal : Refusal) (new : Progress) → StopsBefore refusal last new → IsCheckStopped (rule_of first.rule) (ty_view first.ty) (length values) refusal stream

-- so it is of the values returned since the source was given
abbrev pub ValuesAreThoseOfTheSource : Type 0
ValuesAreThoseOfTheSource =
    (stream : List ℕ) (values : List Val) (first last : Progress) → first.offset ≡ 0 → first.left ≡ Some stream → ReturnsAll values first last → AreThoseOf stream values first last

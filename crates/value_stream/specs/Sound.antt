-- What holds of a source that is read value by value.
use Rattle.std.specs.Prelude.{◌≡◌, ◌≤◌, ℕ, List, [], None}
use Rattle.engine.specs.declared.any_reader.AnyReader.{AnyReader}
use Rattle.engine.specs.AnyReader.{read_rule, StandsBy}
use Rattle.engine.specs.Rule.{rule_of}
use Rattle.value_stream.specs.Progress.{Progress, failures_at, HasEnded}
use Rattle.value_stream.specs.Unread.{IsWithin}
use Rattle.types.specs.View.{ty_view}
use Rattle.engine.specs.Stream.{most_streamed}

-- between two values: no value is begun
pub record IsBetween (progress : Progress) (reader : AnyReader) (at : ℕ) (piece : List ℕ) (read : ℕ) : Type 0 where
  pub rule : read_rule reader ≡ rule_of progress.rule
  pub fresh : StandsBy (ty_view progress.ty) reader []
  pub within : IsWithin at piece read
  pub offset : progress.offset ≡ read

pub record IsSound (progress : Progress) (reader : AnyReader) (at : ℕ) (piece : List ℕ) (read : ℕ) : Type 0 where
  pub between : progress.ended ≡ None → IsBetween progress reader at piece read
  pub ended : HasEnded (rule_of progress.rule) progress.left progress.ended
  pub failures : progress.failures ≡ failures_at progress.ended
  pub done : progress.done ≤ progress.offset
  pub offset : progress.offset ≤ most_streamed

-- Streams of values: what a call over one has done, and why it stops.
use Rattle.std.specs.Prelude.{◌≡◌, ◌≢◌, ◌≤◌, ◌<◌, ℕ, List, [], ◌∷◌, ◌++◌, length, Option, Result, IfSome, MatchResult}
use Rattle.std.specs.Io.KnownBytes.{Appends}
use Rattle.std.specs.List.{AllZip, concat}
use Rattle.octets.specs.Front.{HasFront}
use Rattle.octets.specs.Rule.{Rule, ber, IsCanonical}
use Rattle.types.specs.declared.refusal.Refusal.{Refusal}
use Rattle.types.specs.declared.refusal.Refusal.TheVariants.{NotCanonical, StreamTooLong, OutputTooLong, SourceFault, SinkFault}
use Rattle.types.specs.Encoding.{Meaning, IsAccepted, IsSomeAccepted}
use Rattle.types.specs.Refusal.{IsOfOctets, IsFinal}
use Rattle.types.specs.Shape.{Shape, Val}
use Rattle.types.specs.Stream.{IsStream}
use Rattle.engine.specs.declared.stopped.Stopped.{Stopped}

-- the most octets of a stream (own)
abbrev pub most_streamed : ℕ
most_streamed = 4_294_967_295

-- the octets are what stands for each of the values, one after another with nothing between
pub record AreWritten (Stands : Meaning) (values : List Val) (octets : List ℕ) : Type 0 where
  pub parts : List (List ℕ)
  pub each : AllZip Stands values parts
  pub whole : octets ≡ concat parts

-- a line of text for a value: its text and a line feed
pub record IsLine (IsText : Meaning) (v : Val) (octets : List ℕ) : Type 0 where
  pub text : List ℕ
  pub shown : IsText v text
  pub whole : octets ≡ text ++ 10 ∷ []

-- a stream was converted: it is encodings of so many values, and what was written is their encodings by the
-- other rule, which BER reads as the same values
pub record IsConverted (from to : Rule) (shape : Shape) (count : ℕ) (stream written : List ℕ) : Type 0 where
  pub values : List Val
  pub counted : length values ≡ count
  pub read : IsStream from shape values stream
  pub put : IsStream to shape values written
  pub again : IsStream ber shape values written
  pub size : length stream ≤ most_streamed

-- a stream was checked: it is encodings of so many values
pub record IsChecked (from : Rule) (shape : Shape) (count : ℕ) (stream : List ℕ) : Type 0 where
  pub values : List Val
  pub counted : length values ≡ count
  pub read : IsStream from shape values stream
  pub size : length stream ≤ most_streamed

-- a stream was listed: it is encodings of so many values, and what was written is a line for each
pub record IsListed (IsText : Meaning) (from : Rule) (shape : Shape) (count : ℕ) (stream written : List ℕ) : Type 0 where
  pub checked : IsChecked from shape count stream
  pub put : AreWritten (IsLine IsText) checked.values written

-- the octets are encodings of the values and then a rest
pub record BeginsWith (rule : Rule) (shape : Shape) (values : List Val) (octets rest : List ℕ) : Type 0 where
  pub front : List ℕ
  pub read : IsStream rule shape values front
  pub whole : octets ≡ front ++ rest

-- the octets are what stands for the values and then a part of something
pub record BeginsWritten (Stands : Meaning) (values : List Val) (octets part : List ℕ) : Type 0 where
  pub front : List ℕ
  pub put : AreWritten Stands values front
  pub whole : octets ≡ front ++ part

-- the refusal is right to stop a reader before the rest of a stream
pub record Refuses (rule : Rule) (shape : Shape) (refusal : Refusal) (stream rest : List ℕ) : Type 0 where
  -- 1 to 12: there is a rest, and no front of it is accepted
  pub begun : IsOfOctets refusal → rest ≢ []
  pub none : IsOfOctets refusal → ¬ HasFront (IsSomeAccepted rule shape) rest
  -- 2 to 12: nor is one of any octets that begin so
  pub never : IsFinal refusal → (more : List ℕ) → ¬ HasFront (IsSomeAccepted rule shape) (rest ++ more)
  -- 12 is of the canonical rules, and a front of the rest is accepted by BER
  pub strict : refusal ≡ NotCanonical → IsCanonical rule
  pub by_ber : refusal ≡ NotCanonical → HasFront (IsSomeAccepted ber shape) rest
  -- 13
  pub stream_limit : refusal ≡ StreamTooLong → most_streamed < length stream

-- the octets begin what stands for the value, and are not all of it
abbrev pub IsCut : Meaning → Val → List ℕ → Type 0
IsCut Stands v part = (missing : List ℕ) × (missing ≢ []) × Stands v (part ++ missing)

-- the refusal is right to stop a writer before the value whose encoding is at the front of the rest
pub record RefusesToWrite (rule : Rule) (shape : Shape) (Stands : Meaning) (refusal : Refusal) (rest part : List ℕ) : Type 0 where
  -- 14: nothing stands for that value
  pub too_long : refusal ≡ OutputTooLong → HasFront (λ front. (v : Val) × IsAccepted rule shape v front × ((octets : List ℕ) → ¬ Stands v octets)) rest
  -- 16: a part of what stands for that value may have been written, and nothing else after any other refusal
  pub cut : refusal ≡ SinkFault → HasFront (λ front. (v : Val) × IsAccepted rule shape v front × IsCut Stands v part) rest
  pub whole : refusal ≢ SinkFault → part ≡ []

-- a call stopped behind so many values: they are at the front of the stream, what was written is what stands for
-- them, and the rest of the stream says why
pub record IsStopped (Stands : Meaning) (from : Rule) (shape : Shape) (done : ℕ) (refusal : Refusal) (stream written : List ℕ) : Type 0 where
  pub values : List Val
  pub counted : length values ≡ done
  pub rest : List ℕ
  pub part : List ℕ
  pub read : BeginsWith from shape values stream rest
  pub put : BeginsWritten Stands values written part
  pub refused : Refuses from shape refusal stream rest
  pub unwritten : RefusesToWrite from shape Stands refusal rest part

-- a call that writes nothing stopped at a refusal behind so many values
pub record IsCheckStopped (from : Rule) (shape : Shape) (done : ℕ) (refusal : Refusal) (stream : List ℕ) : Type 0 where
  pub values : List Val
  pub counted : length values ≡ done
  pub rest : List ℕ
  pub read : BeginsWith from shape values stream rest
  pub refused : Refuses from shape refusal stream rest

-- P holds of all octets that the source had, where it tells them, and of those that the sink took
abbrev pub OfStream : Option (List ℕ) → Option (List ℕ) → Option (List ℕ) → (List ℕ → List ℕ → Type 0) → Type 0
OfStream left taken_old taken_new P = IfSome left (λ stream. (written : List ℕ) × Appends taken_old taken_new written × P stream written)

-- behind a refusal: 15 exactly where the source failed, 16 exactly where the sink did
abbrev pub source_failures : Refusal → ℕ
source_failures SourceFault = 1
source_failures _ = 0

abbrev pub sink_failures : Refusal → ℕ
sink_failures SinkFault = 1
sink_failures _ = 0

-- behind a call the count of failures is none, or as the refusal says for which it stopped
abbrev pub CountsBy : (Refusal → ℕ) → Result ℕ Stopped → ℕ → Type 0
CountsBy failures_of result failures = MatchResult result (λ _. failures ≡ 0) (λ stopped. failures ≡ failures_of stopped.refusal)

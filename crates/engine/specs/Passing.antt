-- A stream passed on piece by piece: what stands between two reads, and behind each piece. `StandsAt` is what is
-- said of a reader and the octets that it took since it was fresh.
use Rattle.std.specs.Prelude.{◌≡◌, ◌≤◌, ◌+◌, ℕ, List, [], ◌∷◌, ◌++◌, length, map, drop, Bool, IsTrue, Option, MatchOption}
use Rattle.std.specs.Io.KnownBytes.{Appends, Consumes}
use Rattle.std.specs.List.{AllZip, concat}
use Rattle.octets.specs.Rule.{Rule, ber}
use Rattle.types.specs.declared.refusal.Refusal.{Refusal}
use Rattle.types.specs.declared.refusal.Refusal.TheVariants.{OutputTooLong}
use Rattle.types.specs.declared.value.Value.{Value}
use Rattle.types.specs.Encoding.{Meaning, IsAccepted}
use Rattle.types.specs.Refusal.{IsOfWriting}
use Rattle.types.specs.Shape.{Shape, Val}
use Rattle.types.specs.View.{value_view}
use Rattle.engine.specs.declared.any_reader.AnyReader.{AnyReader}
use Rattle.engine.specs.AnyReader.{read_rule, StandsBy}
use Rattle.engine.specs.Feeding.{IsUnfinished}
use Rattle.engine.specs.Refusal.{IsOfConverting}
use Rattle.engine.specs.Stream.{most_streamed, BeginsWith, BeginsWritten, Refuses, RefusesToWrite, source_failures}

-- the octets are encodings of values and then a rest; the batch is what stands for each of these values, and the
-- lengths are those of its parts
pub record Gathers (rule : Rule) (shape : Shape) (Stands : Meaning) (octets rest batch lengths : List ℕ) : Type 0 where
  pub values : List Val
  pub encodings : List (List ℕ)
  pub parts : List (List ℕ)
  pub read : AllZip (IsAccepted rule shape) values encodings
  pub put : AllZip Stands values parts
  pub octets_are : octets ≡ concat encodings ++ rest
  pub batch_is : batch ≡ concat parts
  pub lengths_are : lengths ≡ map length parts

-- some part that stands for a value is added to what is gathered, and its length to the lengths
pub record IsAdded (Stands : List ℕ → Type 0) (octets octets_new lengths lengths_new : List ℕ) : Type 0 where
  pub part : List ℕ
  pub stands : Stands part
  pub octets_are : octets_new ≡ octets ++ part
  pub lengths_are : lengths_new ≡ lengths ++ length part ∷ []

-- nothing is added for the value, for a refusal
pub record IsNotAdded (Stands : List ℕ → Type 0) (CanBeTooLong : Type 0) (refusal : Refusal) : Type 0 where
  pub too_long : refusal ≡ OutputTooLong → (octets : List ℕ) → ¬ Stands octets
  pub long : refusal ≡ OutputTooLong → CanBeTooLong
  pub numbers : IsOfWriting refusal

-- in front of the rest stands the encoding of the value in the slot, for which nothing is gathered yet
pub record Awaits (rule : Rule) (shape : Shape) (Stands : Meaning) (stream : List ℕ) (slot : Option Value) (rest batch lengths : List ℕ) : Type 0 where
  pub encoding : List ℕ
  pub read : MatchOption slot ⊥ (λ value. IsAccepted rule shape (value_view value) encoding)
  pub gathers : Gathers rule shape Stands stream (encoding ++ rest) batch lengths

-- what stands for the value in the slot is added, and for values by the rule in so many octets behind it
pub record AreAdded (rule : Rule) (shape : Shape) (Stands : Meaning) (slot : Option Value) (behind octets octets_new lengths lengths_new : List ℕ) (used : ℕ) : Type 0 where
  pub there : used ≤ length behind
  pub gathered : (stream : List ℕ) → Awaits rule shape Stands stream slot behind octets lengths → Gathers rule shape Stands stream (drop used behind) octets_new lengths_new
  pub few : length lengths_new ≤ length lengths + 1 + used

-- or up to one for which nothing is added, which is in the slot then
pub record AreAddedUpTo (rule : Rule) (shape : Shape) (Stands : Meaning) (CanBeTooLong : Type 0) (slot slot_new : Option Value) (behind octets octets_new lengths lengths_new : List ℕ) (refusal : Refusal) : Type 0 where
  pub rest : List ℕ
  pub gathered : (stream : List ℕ) → Awaits rule shape Stands stream slot behind octets lengths → Awaits rule shape Stands stream slot_new rest octets_new lengths_new
  pub few : length lengths_new ≤ length lengths + length behind
  pub refused : MatchOption slot_new ⊥ (λ value. IsNotAdded (Stands (value_view value)) CanBeTooLong refusal)

-- what stands for the values by BER in so many octets at the front is added
pub record AreLeavesAdded (shape : Shape) (Stands : Meaning) (front octets octets_new lengths lengths_new : List ℕ) (used : ℕ) : Type 0 where
  pub there : used ≤ length front
  pub gathered : (stream : List ℕ) → Gathers ber shape Stands stream front octets lengths → Gathers ber shape Stands stream (drop used front) octets_new lengths_new
  pub few : length lengths_new ≤ length lengths + used

-- the refusal is right, whatever came before the rest and whatever follows it
pub record StopsAnyway (rule : Rule) (shape : Shape) (Stands : Meaning) (refusal : Refusal) (rest part : List ℕ) : Type 0 where
  pub refused : (stream more : List ℕ) → Refuses rule shape refusal stream (rest ++ more)
  pub unwritten : (more : List ℕ) → RefusesToWrite rule shape Stands refusal (rest ++ more) part

-- a piece was taken whole: the reader stands at the rest
pub record HasGathered (StandsAt : List ℕ → Type 0) (rule : Rule) (shape : Shape) (Stands : Meaning) (octets batch lengths : List ℕ) : Type 0 where
  pub rest : List ℕ
  pub gathers : Gathers rule shape Stands octets rest batch lengths
  pub stands : StandsAt rest

-- a piece was refused, in whole or behind some values
pub record StopsGathering (rule : Rule) (shape : Shape) (Stands : Meaning) (refusal : Refusal) (octets batch lengths : List ℕ) : Type 0 where
  pub rest : List ℕ
  pub gathers : Gathers rule shape Stands octets rest batch lengths
  pub stops : StopsAnyway rule shape Stands refusal rest []

-- the octets are encodings of so many values and then a rest, and what was written is what stands for these values
-- and then a part
pub record Writes (rule : Rule) (shape : Shape) (Stands : Meaning) (count : ℕ) (octets rest written part : List ℕ) : Type 0 where
  pub values : List Val
  pub counted : length values ≡ count
  pub read : BeginsWith rule shape values octets rest
  pub put : BeginsWritten Stands values written part

-- a piece was passed on, and what it completes was written; `now` values are done, of which `before` were
pub record PassesOn (StandsAt : List ℕ → Type 0) (rule : Rule) (shape : Shape) (Stands : Meaning) (before now : ℕ) (octets : List ℕ) (taken_old taken_new : Option (List ℕ)) : Type 0 where
  pub rest : List ℕ
  pub written : List ℕ
  pub count : ℕ
  pub counted : now ≡ before + count
  pub takes : Appends taken_old taken_new written
  pub writes : Writes rule shape Stands count octets rest written []
  pub stands : StandsAt rest

-- a piece was not passed on whole
pub record StopsPassing (rule : Rule) (shape : Shape) (Stands : Meaning) (before done : ℕ) (refusal : Refusal) (octets : List ℕ) (taken_old taken_new : Option (List ℕ)) : Type 0 where
  pub rest : List ℕ
  pub written : List ℕ
  pub part : List ℕ
  pub count : ℕ
  pub counted : done ≡ before + count
  pub takes : Appends taken_old taken_new written
  pub writes : Writes rule shape Stands count octets rest written part
  pub stops : StopsAnyway rule shape Stands refusal rest part

-- a piece can be passed on: no value is complete where the reader stands, what is copied stands for its value, the sink
-- has not failed, and no more octets are counted than a stream may have
pub record CanPass (shape : Shape) (Stands : Meaning) (reader : AnyReader) (copies : Bool) (failures total : ℕ) : Type 0 where
  pub stands : (front : List ℕ) × IsUnfinished (StandsBy shape reader) (read_rule reader) shape front
  pub copied : IsTrue copies → (v : Val) (octets : List ℕ) → IsAccepted (read_rule reader) shape v octets → Stands v octets
  pub sink : failures ≡ 0
  pub room : total ≤ most_streamed

-- it was passed on, behind whatever octets the reader stood at before
pub record HasPassed (shape : Shape) (Stands : Meaning) (old new : AnyReader) (before now : ℕ) (piece : List ℕ) (taken_old taken_new : Option (List ℕ)) : Type 0 where
  pub same_rule : read_rule new ≡ read_rule old
  pub passed : (front : List ℕ) → IsUnfinished (StandsBy shape old) (read_rule old) shape front
      → PassesOn (IsUnfinished (StandsBy shape new) (read_rule old) shape) (read_rule old) shape Stands before now (front ++ piece) taken_old taken_new
  pub few : now ≤ before + length piece

-- or it was not
pub record HasNotPassed (shape : Shape) (Stands : Meaning) (CanBeTooLong : Type 0) (reader : AnyReader) (before done : ℕ) (refusal : Refusal) (piece : List ℕ) (taken_old taken_new : Option (List ℕ)) : Type 0 where
  pub stopped : (front : List ℕ) → IsUnfinished (StandsBy shape reader) (read_rule reader) shape front
      → StopsPassing (read_rule reader) shape Stands before done refusal (front ++ piece) taken_old taken_new
  pub source : source_failures refusal ≡ 0
  pub long : refusal ≡ OutputTooLong → CanBeTooLong
  pub numbers : IsOfConverting (read_rule reader) refusal

-- between two reads: what was given is encodings of the values done and what the reader stands at
pub record StandsAfter (StandsAt : List ℕ → Type 0) (rule : Rule) (shape : Shape) (Stands : Meaning) (done total : ℕ) (left_old left_new taken_old taken_new : Option (List ℕ)) : Type 0 where
  pub given : List ℕ
  pub written : List ℕ
  pub rest : List ℕ
  pub gives : Consumes left_old left_new given
  pub takes : Appends taken_old taken_new written
  pub writes : Writes rule shape Stands done given rest written []
  pub stands : StandsAt rest
  pub size : length given ≡ total

-- What a call that writes the first value comes to.
use Rattle.std.specs.Prelude.{◌≡◌, ◌≢◌, ◌≤◌, ℕ, List, [], length, take}
use Rattle.octets.specs.Front.{HasFront}
use Rattle.octets.specs.Rule.{Rule}
use Rattle.types.specs.declared.refusal.Refusal.{Refusal}
use Rattle.types.specs.declared.refusal.Refusal.TheVariants.{OutputTooLong}
use Rattle.types.specs.declared.ty.Ty.{Ty}
use Rattle.types.specs.declared.value.Value.{Value}
use Rattle.types.specs.Encoding.{Meaning, IsAccepted}
use Rattle.types.specs.Refusal.{refusal_number}
use Rattle.types.specs.Shape.{Shape, Val}
use Rattle.types.specs.View.{ty_view, value_view}
use Rattle.texts.specs.Shown.{IsShown}
use Rattle.engine.specs.Canonical.{Canonical}
use Rattle.engine.specs.Refusal.{IsOfTranscoding}
use Rattle.engine.specs.Rule.{canonical_rule_of}
use Rattle.engine.specs.Stream.{IsLine}
use Rattle.asn1x_c.specs.Done.{HasNoFirst, IsPut, StoppedBy}
use Rattle.asn1x_c.specs.Numbers.{wrong_argument}
use Rattle.asn1x_c.specs.declared.done.One.{One}

-- so many octets at the front encode a value, and what is written stands for it
pub record IsFirstWritten (Stands : Meaning) (rule : Rule) (shape : Shape) (octets : List ℕ) (count : ℕ) (written : List ℕ) : Type 0 where
  pub value : Val
  pub within : count ≤ length octets
  pub read : IsAccepted rule shape value (take count octets)
  pub put : Stands value written

-- a value is at the front for which nothing stands
abbrev pub HasMuteFirst : Meaning → Rule → Shape → List ℕ → Type 0
HasMuteFirst Stands rule shape octets = HasFront (λ front. (v : Val) × IsAccepted rule shape v front × ((written : List ℕ) → ¬ Stands v written)) octets

-- the refusal is right where nothing is written for a first value
pub record RefusesFirst (Stands : Meaning) (rule : Rule) (shape : Shape) (octets : List ℕ) (refusal : Refusal) : Type 0 where
  -- 1 to 12
  pub none : HasNoFirst rule shape octets refusal
  -- 14
  pub too_long : refusal ≡ OutputTooLong → HasMuteFirst Stands rule shape octets
  -- and 17
  pub numbers : IsOfTranscoding rule refusal

-- a line of text stands for it
abbrev pub IsFirstLine : Rule → Shape → List ℕ → ℕ → List ℕ → Type 0
IsFirstLine rule shape = IsFirstWritten (IsLine (IsShown shape)) rule shape

-- or no line does, for a refusal
abbrev pub RefusesFirstLine : Rule → Shape → List ℕ → Refusal → Type 0
RefusesFirstLine rule shape = RefusesFirst (IsLine (IsShown shape)) rule shape

-- the encoding of a value by a rule
abbrev pub IsEncoding : Canonical → Ty → Value → List ℕ → Type 0
IsEncoding to ty value = IsAccepted (canonical_rule_of to) (ty_view ty) (value_view value)

-- what stands for the first value was written, or nothing
pub record HasWrittenFirst (Stands : Meaning) (rule : Rule) (shape : Shape) (octets old new : List ℕ) (one : One) : Type 0 where
  pub written : List ℕ
  pub put : IsPut written old new one.octets
  pub done : one.refusal ≡ 0 → IsFirstWritten Stands rule shape octets one.used written
  pub refused : one.refusal ≢ 0 → (one.used ≡ 0) × (written ≡ []) × StoppedBy one.refusal (RefusesFirst Stands rule shape octets)

-- the encoding by the rule `to` was
abbrev pub HasConvertedFirst : Rule → Rule → Shape → List ℕ → List ℕ → List ℕ → One → Type 0
HasConvertedFirst from to shape = HasWrittenFirst (IsAccepted to shape) from shape

-- a line of text
abbrev pub HasShownFirst : Rule → Shape → List ℕ → List ℕ → List ℕ → One → Type 0
HasShownFirst from shape = HasWrittenFirst (IsLine (IsShown shape)) from shape

-- nothing was done, since an argument is none, and the buffer is as it was
abbrev pub IsNoOne : List ℕ → List ℕ → One → Type 0
IsNoOne old new one = (one.refusal ≡ wrong_argument) × (one.used ≡ 0) × (one.octets ≡ 0) × (new ≡ old)

-- how C gets what was written for so many octets
abbrev pub IsPutOne : ℕ → List ℕ → List ℕ → List ℕ → One → Type 0
IsPutOne used written old new one = (one.refusal ≡ 0) × (one.used ≡ used) × IsPut written old new one.octets

-- and how a refusal
abbrev pub IsRefusedOne : Refusal → List ℕ → List ℕ → One → Type 0
IsRefusedOne refusal old new one = (one.refusal ≡ refusal_number refusal) × (one.used ≡ 0) × IsPut [] old new one.octets

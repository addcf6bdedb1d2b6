-- What holds of all conversions of one value.
use Rattle.std.specs.Prelude.{◌≡◌, ◌↔◌, ℕ, List}
use Rattle.octets.specs.declared.canonical.Canonical.{Canonical}
use Rattle.octets.specs.Rule as encoding
use Rattle.types.specs.Encoding.{IsAccepted}
use Rattle.types.specs.Same.{IsSame}
use Rattle.types.specs.Shape.{Shape, Val}
use Rattle.types.specs.WellFormed.{IsWellFormed}
use Rattle.engine.specs.declared.rule.Rule.{Rule}
use Rattle.engine.specs.Rule.{rule_of, canonical_rule_of}
use Rattle.engine.specs.Transcoding.{IsTranscoded}

-- two accepted inputs become the same octets exactly if their values are the same
abbrev pub EqualExactlyIfSame : Type 0
EqualExactlyIfSame =
    (from other : Rule) (to : Canonical) (shape : Shape) (v w : Val) (a b x y : List ℕ) → IsWellFormed shape → IsAccepted (rule_of from) shape v a → IsAccepted (rule_of other) shape w b
    → IsTranscoded (rule_of from) (canonical_rule_of to) shape a x → IsTranscoded (rule_of other) (canonical_rule_of to) shape b y → (x ≡ y) ↔ IsSame shape v w

-- the octets become themselves, and nothing else
pub record StayAsTheyAre (from to : encoding.Rule) (shape : Shape) (octets : List ℕ) : Type 0 where
  pub stay : IsTranscoded from to shape octets octets
  pub only : (others : List ℕ) → IsTranscoded from to shape octets others → others ≡ octets

-- so it is with what was written, read by BER or by the rule that it was written by
abbrev pub WrittenOctetsStay : Type 0
WrittenOctetsStay =
    (from : Rule) (to : Canonical) (shape : Shape) (octets written : List ℕ) → IsWellFormed shape → IsTranscoded (rule_of from) (canonical_rule_of to) shape octets written
    → StayAsTheyAre encoding.ber (canonical_rule_of to) shape written × StayAsTheyAre (canonical_rule_of to) (canonical_rule_of to) shape written

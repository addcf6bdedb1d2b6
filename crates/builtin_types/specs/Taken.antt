-- What a type takes of the notation behind DEFAULT: the value, and nothing only where the notation has none of the type.
use Rattle.std.specs.Prelude.{◌≡◌, ◌≢◌, ℕ, List, Option, MatchOption}
use Rattle.strings.specs.declared.text.TextKind.{TextKind}
use Rattle.strings.specs.declared.text.TextKind.TheVariants.{Bmp}
use Rattle.strings.specs.Alphabet.{IsText}
use Rattle.types.specs.declared.value.Value.{Value}
use Rattle.types.specs.Shape.{SimpleType, StringType, SimpleValue, StringValue, Val, Shape}
use Rattle.types.specs.View.{value_view}
use Rattle.syntax.specs.Tree.{Value as Notation}
use Rattle.builtin_types.specs.Defaults.{IsSimpleDefault, IsStringDefault, IsDefault}

abbrev pub IsSimpleTaken : SimpleType → Notation → Option Value → Type 0
IsSimpleTaken type written found =
    MatchOption found ((v : SimpleValue) → ¬ IsSimpleDefault type written v) (λ value. (v : SimpleValue) × IsSimpleDefault type written v × (value_view value ≡ Val.simple v))

abbrev pub IsStringTaken : StringType → Notation → Option Value → Type 0
IsStringTaken type written found =
    MatchOption found ((v : StringValue) → ¬ IsStringDefault type written v) (λ value. (v : StringValue) × IsStringDefault type written v × (value_view value ≡ Val.string v))

-- a character string type takes the octets of its alphabet, and BMPString none
abbrev pub IsTakenText : TextKind → List ℕ → Type 0
IsTakenText kind octets = (kind ≢ Bmp) × IsText kind octets

abbrev pub IsTaken : Shape → Notation → Option Value → Type 0
IsTaken type written found = MatchOption found ((v : Val) → ¬ IsDefault type written v) (λ value. IsDefault type written (value_view value))

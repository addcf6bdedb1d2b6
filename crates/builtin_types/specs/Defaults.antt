-- The values behind DEFAULT, each judged by the component's type (X.680 25.1, and each type's value notation).
use Rattle.std.specs.Prelude.{◌≡◌, ◌≢◌, ◌+◌, ◌<◌, ◌/◌, ◌%◌, ℕ, Bool, true, false, List, [], ◌∷◌, ◌++◌, map, replicate, nat_lt, All, FitsSigned, Contains, if◌then◌else◌}
use Rattle.std.specs.List.{flat_map}
use Rattle.std.specs.Int.{w128}
use Rattle.primitives.specs.Bits.{bit_of, IsTrimmed}
use Rattle.strings.specs.declared.text.TextKind.TheVariants.{Bmp}
use Rattle.strings.specs.Alphabet.{IsText}
use Rattle.lexis.specs.Spelling.{doubled}
use Rattle.types.specs.Shape.{EnumerationItem, SimpleType, StringType, SimpleValue, StringValue, Val, Requirement, Shape}
use Rattle.syntax.specs.Tree.{Value, truth, falsity, integer, item_name, binary_value, hex_value, chars_value, Ending, required, optional, default}
use Rattle.builtin_types.specs.Numbering.{number_of}

-- `0` is octet 48, and `1` is 49
abbrev pub bit_digit : Bool → ℕ
bit_digit false = 48
bit_digit true = 49

-- `0` to `9` are octets 48 to 57, and `A` to `F` are 65 to 70
abbrev pub hex_digit : ℕ → ℕ
hex_digit value = if nat_lt value 10 then 48 + value else 55 + value

-- digits between apostrophes, and a letter behind
abbrev pub digit_string : List ℕ → ℕ → List ℕ
digit_string digits letter = 39 ∷ digits ++ 39 ∷ letter ∷ []

-- the spelling of these bits, with `B` behind
abbrev pub binary_string : List Bool → List ℕ
binary_string bits = digit_string (map bit_digit bits) 66

-- the spelling of these values of digits, each below 16, with `H` behind
pub record IsHexString (spelling values : List ℕ) : Type 0 where
  pub each : All (λ value. value < 16) values
  pub spelt : spelling ≡ digit_string (map hex_digit values) 72

-- the four bits of a digit, the most significant first
abbrev pub four_bits : ℕ → List Bool
four_bits value = map (bit_of value) (8 ∷ 4 ∷ 2 ∷ 1 ∷ [])

-- the two digits of an octet, the most significant first
abbrev pub two_digits : ℕ → List ℕ
two_digits octet = octet / 16 ∷ octet % 16 ∷ []

-- the spelling of these octets, each quotation mark twice, between quotation marks
abbrev pub character_string : List ℕ → List ℕ
character_string octets = 34 ∷ doubled octets ++ 34 ∷ []

-- TRUE and FALSE on BOOLEAN, a number of 128 bits on INTEGER, the name of an item on ENUMERATED
abbrev pub IsSimpleDefault : SimpleType → Value → SimpleValue → Type 0
IsSimpleDefault SimpleType.boolean truth value = value ≡ SimpleValue.boolean true
IsSimpleDefault SimpleType.boolean falsity value = value ≡ SimpleValue.boolean false
IsSimpleDefault SimpleType.integer (integer number) value = FitsSigned w128 (number_of number) × (value ≡ SimpleValue.integer (number_of number))
IsSimpleDefault (SimpleType.enumerated items) (item_name name) value =
    (item : EnumerationItem) × Contains items item × (item.name ≡ name) × (value ≡ SimpleValue.enumerated item.number)
IsSimpleDefault _ _ _ = ⊥

-- the bits of a binary string, or of a hexadecimal one of four bits a digit
abbrev pub AreWritten : Value → List Bool → Type 0
AreWritten (binary_value spelling) bits = spelling ≡ binary_string bits
AreWritten (hex_value spelling) bits = (values : List ℕ) × IsHexString spelling values × (bits ≡ flat_map four_bits values)
AreWritten _ bits = ⊥

-- on BIT STRING the bits that are written, where it has named bits without the bits 0 at their end (X.680 22.7); on OCTET
-- STRING a hexadecimal string of two digits an octet; on a character string type, BMPString left out, a character string
-- whose octets its alphabet has
abbrev pub IsStringDefault : StringType → Value → StringValue → Type 0
IsStringDefault StringType.bit_string written value = (bits : List Bool) × AreWritten written bits × (value ≡ StringValue.bits bits)
IsStringDefault (StringType.named_bits names) written value =
    (bits : List Bool) × IsTrimmed bits × ((zeros : ℕ) × AreWritten written (bits ++ replicate zeros false)) × (value ≡ StringValue.bits bits)
IsStringDefault StringType.octet_string (hex_value spelling) value = (octets : List ℕ) × IsHexString spelling (flat_map two_digits octets) × (value ≡ StringValue.octets octets)
IsStringDefault (StringType.text kind) (chars_value spelling) value =
    (octets : List ℕ) × (spelling ≡ character_string octets) × (kind ≢ Bmp) × IsText kind octets × (value ≡ StringValue.text octets)
IsStringDefault _ _ _ = ⊥

-- the value that this notation stands for on a type, which is seen through explicit tags
abbrev pub IsDefault : Shape → Value → Val → Type 0
IsDefault (Shape.simple tag type) written v = (value : SimpleValue) × IsSimpleDefault type written value × (v ≡ Val.simple value)
IsDefault (Shape.string tag type) written v = (value : StringValue) × IsStringDefault type written value × (v ≡ Val.string value)
IsDefault (Shape.explicit tag type) written v = IsDefault type written v
IsDefault _ _ _ = ⊥

-- what stands behind a component's type says whether the component may be absent
abbrev pub IsRequirement : Shape → Ending → Requirement → Type 0
IsRequirement type required requirement = requirement ≡ Requirement.required
IsRequirement type optional requirement = requirement ≡ Requirement.optional
IsRequirement type (default written) requirement = (v : Val) × IsDefault type written v × (requirement ≡ Requirement.default v)

-- Texts of values without parts.
use Rattle.std.specs.Prelude.{◌+◌, ◌/◌, ◌%◌, ◌==◌, ◌&&◌, ℕ, ℤ, Bool, true, false, List, [], ◌∷◌, ◌++◌, map, flat_map, codes, decimal, if◌then◌else◌, nat_le, nat_lt}
use Rattle.std.specs.Fmt.{signed_decimal}
use Rattle.std.specs.Ordering.{int_eq}
use Rattle.strings.specs.declared.text.TextKind.{TextKind}
use Rattle.strings.specs.declared.text.TextKind.TheVariants.{Bmp}
use Rattle.types.specs.Shape.{EnumerationItem, SimpleType, StringType, SimpleValue, StringValue}

abbrev pub boolean_text : Bool → List ℕ
boolean_text true = codes "TRUE"
boolean_text false = codes "FALSE"

-- the name of the first item that has the number
abbrev pub item_name : List EnumerationItem → ℤ → List ℕ
item_name [] number = []
item_name (i ∷ items) number = if int_eq i.number number then i.name else item_name items number

-- arcs in decimal, with dots between them
abbrev pub arcs_text : List ℕ → List ℕ
arcs_text [] = []
arcs_text (arc ∷ arcs) = decimal arc ++ flat_map (λ other. codes "." ++ decimal other) arcs

-- `1` is octet 49, and `0` 48
abbrev pub bit_digit : Bool → ℕ
bit_digit true = 49
bit_digit false = 48

-- a digit for each bit, in quotes
abbrev pub bits_text : List Bool → List ℕ
bits_text bits = codes "'" ++ map bit_digit bits ++ codes "'B"

-- `0` to `9` are octets 48 to 57, and `A` to `F` 65 to 70
abbrev pub hex_digit : ℕ → ℕ
hex_digit value = if nat_lt value 10 then 48 + value else 55 + value

-- the high four bits first
abbrev pub hex_digits : ℕ → List ℕ
hex_digits octet = hex_digit (octet / 16) ∷ hex_digit (octet % 16) ∷ []

-- two digits for each octet, in quotes
abbrev pub octets_text : List ℕ → List ℕ
octets_text octets = codes "'" ++ flat_map hex_digits octets ++ codes "'H"

-- an INTEGER past 128 bits as the contents octets that it has
abbrev pub simple_text : SimpleType → SimpleValue → List ℕ
simple_text SimpleType.boolean (SimpleValue.boolean truth) = boolean_text truth
simple_text SimpleType.integer (SimpleValue.integer number) = signed_decimal number
simple_text SimpleType.integer (SimpleValue.wide_integer octets) = octets_text octets
simple_text (SimpleType.enumerated items) (SimpleValue.enumerated number) = item_name items number
simple_text SimpleType.null SimpleValue.null = codes "NULL"
simple_text SimpleType.oid (SimpleValue.oid arcs) = arcs_text arcs
simple_text SimpleType.relative_oid (SimpleValue.relative_oid arcs) = arcs_text arcs
simple_text _ _ = []

-- octet 34, which is `"`, stands twice
abbrev pub quoted_octet : ℕ → List ℕ
quoted_octet octet = if octet == 34 then 34 ∷ 34 ∷ [] else octet ∷ []

-- the octets in double quotes
abbrev pub quoted_text : List ℕ → List ℕ
quoted_text octets = codes "\"" ++ flat_map quoted_octet octets ++ codes "\""

-- from a space, which is 32, to `~`, which is 126
abbrev pub is_printable : ℕ → Bool
is_printable octet = nat_le 32 octet && nat_le octet 126

abbrev pub are_printable : List ℕ → Bool
are_printable [] = true
are_printable (octet ∷ octets) = is_printable octet && are_printable octets

-- the octets in double quotes where each is printable, and else as those of an OCTET STRING
abbrev pub readable_text : List ℕ → List ℕ
readable_text octets = if are_printable octets then quoted_text octets else octets_text octets

-- a BMPString has two octets for each character, so they are not shown as characters
abbrev pub text_of_kind : TextKind → List ℕ → List ℕ
text_of_kind Bmp octets = octets_text octets
text_of_kind _ octets = readable_text octets

abbrev pub string_text : StringType → StringValue → List ℕ
string_text StringType.bit_string (StringValue.bits bits) = bits_text bits
string_text (StringType.named_bits names) (StringValue.bits bits) = bits_text bits
string_text StringType.octet_string (StringValue.octets octets) = octets_text octets
string_text (StringType.text kind) (StringValue.text octets) = text_of_kind kind octets
string_text (StringType.time kind) (StringValue.text octets) = readable_text octets
string_text _ _ = []

-- Types that have a tag of the universal class before any tag is written.
use Rattle.std.specs.Prelude.{ℕ, List, map}
use Rattle.strings.specs.declared.text.TextKind.TheVariants.{Utf8, Numeric, Printable, Ia5, Visible, Bmp}
use Rattle.strings.specs.declared.time.TimeKind.TheVariants.{Utc, Generalized}
use Rattle.types.specs.Shape.{NamedBitView, StringType, Shape, Components}
use Rattle.types.specs.Universal.{bit_string_tag, sequence_tag, set_tag, boolean_type, integer_type, bit_string_type, octet_string_type, null_type, oid_type, relative_oid_type, text_type, time_type}
use Rattle.syntax.specs.declared.tree.Group.{Group}
use Rattle.syntax.specs.declared.tree.Group.TheVariants.{Sequence, Set}
use Rattle.syntax.specs.declared.tree.Simple.{Simple}
use Rattle.syntax.specs.declared.tree.Simple.TheVariants.{Boolean, Integer, Null, BitString, OctetString, ObjectIdentifier, RelativeOid, Utf8String, NumericString, PrintableString, Ia5String, VisibleString, BmpString, UtcTime, GeneralizedTime}

-- the type that the reserved words name
abbrev pub named_by_words : Simple → Shape
named_by_words Boolean = boolean_type
named_by_words Integer = integer_type
named_by_words BitString = bit_string_type
named_by_words OctetString = octet_string_type
named_by_words Null = null_type
named_by_words ObjectIdentifier = oid_type
named_by_words Utf8String = text_type Utf8
named_by_words RelativeOid = relative_oid_type
named_by_words NumericString = text_type Numeric
named_by_words PrintableString = text_type Printable
named_by_words Ia5String = text_type Ia5
named_by_words UtcTime = time_type Utc
named_by_words GeneralizedTime = time_type Generalized
named_by_words VisibleString = text_type Visible
named_by_words BmpString = text_type Bmp

abbrev pub named_bit : List ℕ × ℕ → NamedBitView
named_bit bit = record { name = bit.0; number = bit.1 }

-- a BIT STRING with these named bits (X.680 clause 22)
abbrev pub with_named_bits : List (List ℕ × ℕ) → Shape
with_named_bits bits = Shape.string bit_string_tag (StringType.named_bits (map named_bit bits))

-- a SEQUENCE or SET of these components
abbrev pub list_of : Group → Components → Shape
list_of Sequence components = Shape.sequence sequence_tag components
list_of Set components = Shape.set set_tag components

-- a SEQUENCE OF or SET OF this type
abbrev pub repeated : Group → Shape → Shape
repeated Sequence type = Shape.sequence_of sequence_tag type
repeated Set type = Shape.set_of set_tag type

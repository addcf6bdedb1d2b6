-- Tags of the universal class, and the types under them (X.680 8.4, Table 1).
use Rattle.std.specs.Prelude.{ℕ}
use Rattle.octets.specs.declared.tag.Class.TheVariants.{Universal}
use Rattle.octets.specs.declared.tag.Tag.{Tag}
use Rattle.strings.specs.declared.text.TextKind.{TextKind}
use Rattle.strings.specs.declared.text.TextKind.TheVariants.{Utf8, Numeric, Printable, Ia5, Visible, Bmp}
use Rattle.strings.specs.declared.time.TimeKind.{TimeKind}
use Rattle.strings.specs.declared.time.TimeKind.TheVariants.{Utc, Generalized}
use Rattle.types.specs.Shape.{SimpleType, StringType, Shape}

abbrev pub universal : ℕ → Tag
universal number = record { class = Universal; number = number }

abbrev pub bit_string_tag : Tag
bit_string_tag = universal 3

abbrev pub enumerated_tag : Tag
enumerated_tag = universal 10

-- of SEQUENCE and of SEQUENCE OF
abbrev pub sequence_tag : Tag
sequence_tag = universal 16

-- of SET and of SET OF
abbrev pub set_tag : Tag
set_tag = universal 17

abbrev pub boolean_type : Shape
boolean_type = Shape.simple (universal 1) SimpleType.boolean

abbrev pub integer_type : Shape
integer_type = Shape.simple (universal 2) SimpleType.integer

abbrev pub bit_string_type : Shape
bit_string_type = Shape.string bit_string_tag StringType.bit_string

abbrev pub octet_string_type : Shape
octet_string_type = Shape.string (universal 4) StringType.octet_string

abbrev pub null_type : Shape
null_type = Shape.simple (universal 5) SimpleType.null

abbrev pub oid_type : Shape
oid_type = Shape.simple (universal 6) SimpleType.oid

abbrev pub relative_oid_type : Shape
relative_oid_type = Shape.simple (universal 13) SimpleType.relative_oid

abbrev pub text_tag : TextKind → Tag
text_tag Utf8 = universal 12
text_tag Numeric = universal 18
text_tag Printable = universal 19
text_tag Ia5 = universal 22
text_tag Visible = universal 26
text_tag Bmp = universal 30

abbrev pub text_type : TextKind → Shape
text_type kind = Shape.string (text_tag kind) (StringType.text kind)

abbrev pub time_tag : TimeKind → Tag
time_tag Utc = universal 23
time_tag Generalized = universal 24

abbrev pub time_type : TimeKind → Shape
time_type kind = Shape.string (time_tag kind) (StringType.time kind)

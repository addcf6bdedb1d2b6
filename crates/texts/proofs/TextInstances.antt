-- Worked texts, held against the definition of the text of a value.
use Rattle.std.proofs.Common.{◌≡◌, ℕ, ℤ, pos, negsuc, Bool, true, false, List, [], ◌∷◌, ◌∙◌, ◌++◌, codes, decimal, append-nil, get_or, inr, refl, sym, ap, ap₂, arith}
use Rattle.std.proofs.lemmas.Fmt.{decimal_digit, decimal_step}
use Rattle.octets.specs.declared.tag.Class.TheVariants.{Universal, Context}
use Rattle.octets.specs.declared.tag.Tag.{Tag}
use Rattle.strings.specs.declared.text.TextKind.TheVariants.{Utf8, Ia5, Visible, Bmp}
use Rattle.strings.specs.declared.time.TimeKind.TheVariants.{Generalized}
use Rattle.types.specs.Shape.{EnumerationItem, SimpleType, StringType, SimpleValue, StringValue, Val, no_slot, absent, present, no_item, item, listed, required, optional, Shape, Components, no_component, component, Alternatives, no_alternative, alternative}
use Rattle.std.proofs.lemmas.List.Sorted.{IsPermutation-refl}
use Rattle.octets.specs.Rule.{der}
use Rattle.types.specs.Same.{IsSame}
use Rattle.types.specs.Order.{IsPaddedAtMost}
use Rattle.types.proofs.LeafInstances.{small}
use Rattle.types.proofs.OrderInstances.{alike, less, three_ascend}
use Rattle.types.proofs.OrderLemmas.{padded_refl}
use Rattle.types.proofs.SameInstances.{three_items, turned}
use Rattle.types.proofs.TypeInstances.{set_of_integer, well_formed_set_of}
use Rattle.texts.specs.Shown.{IsShown}
use Rattle.texts.proofs.ShownLemmas.{one_text}
use Rattle.texts.specs.Text.{in_braces, text_of}

abbrev context : ℕ → Tag
context number = record { class = Context; number = number }

abbrev universal : ℕ → Tag
universal number = record { class = Universal; number = number }

abbrev boolean : Shape
boolean = Shape.simple (universal 1) SimpleType.boolean

abbrev integer : Shape
integer = Shape.simple (universal 2) SimpleType.integer

abbrev null : Shape
null = Shape.simple (universal 5) SimpleType.null

abbrev nothing : Val
nothing = Val.simple SimpleValue.null

abbrev number : ℤ → Val
number n = Val.simple (SimpleValue.integer n)

abbrev bits : List Bool → Val
bits list = Val.string (StringValue.bits list)

abbrev octets : List ℕ → Val
octets list = Val.string (StringValue.octets list)

abbrev text : List ℕ → Val
text list = Val.string (StringValue.text list)

abbrev bit_string : Shape
bit_string = Shape.string (universal 3) StringType.bit_string

abbrev octet_string : Shape
octet_string = Shape.string (universal 4) StringType.octet_string

true_text : text_of boolean (Val.simple (SimpleValue.boolean true)) ≡ codes "TRUE"
true_text = refl

false_text : text_of boolean (Val.simple (SimpleValue.boolean false)) ≡ codes "FALSE"
false_text = refl

null_text : text_of null nothing ≡ codes "NULL"
null_text = refl

zero_text : text_of integer (number (pos 0)) ≡ codes "0"
zero_text = decimal_digit 0 (omega arith)

seven_text : text_of integer (number (pos 7)) ≡ codes "7"
seven_text = decimal_digit 7 (omega arith)

-- digits of numbers of more than one
decimal_100 : decimal 100 ≡ codes "100"
decimal_100 = decimal_step 100 (omega arith) (omega arith) ∙ ap (λ d. d ++ codes "0") (decimal_step 10 (omega arith) (omega arith) ∙ ap (λ d. d ++ codes "0") (decimal_digit 1 (omega arith)))

decimal_128 : decimal 128 ≡ codes "128"
decimal_128 = decimal_step 128 (omega arith) (omega arith) ∙ ap (λ d. d ++ codes "8") (decimal_step 12 (omega arith) (omega arith) ∙ ap (λ d. d ++ codes "2") (decimal_digit 1 (omega arith)))

below_zero_text : text_of integer (number (negsuc 127)) ≡ codes "-128"
below_zero_text = ap (λ d. codes "-" ++ d) decimal_128

-- ENUMERATED { a(1), b(2), c(0), d(3) }
abbrev letters : List EnumerationItem
letters = record { name = codes "a"; number = pos 1 } ∷ record { name = codes "b"; number = pos 2 } ∷ record { name = codes "c"; number = pos 0 } ∷ record { name = codes "d"; number = pos 3 } ∷ []

item_text : text_of (Shape.simple (universal 10) (SimpleType.enumerated letters)) (Val.simple (SimpleValue.enumerated (pos 2))) ≡ codes "b"
item_text = refl

later_item_text : text_of (Shape.simple (universal 10) (SimpleType.enumerated letters)) (Val.simple (SimpleValue.enumerated (pos 0))) ≡ codes "c"
later_item_text = refl

oid_text : text_of (Shape.simple (universal 6) SimpleType.oid) (Val.simple (SimpleValue.oid (2 ∷ 100 ∷ 3 ∷ []))) ≡ codes "2.100.3"
oid_text = ap₂ (λ d e. d ++ (codes "." ++ e)) (decimal_digit 2 (omega arith)) (ap₂ (λ d e. d ++ (codes "." ++ (e ++ []))) decimal_100 (decimal_digit 3 (omega arith)))

relative_oid_text : text_of (Shape.simple (universal 13) SimpleType.relative_oid) (Val.simple (SimpleValue.relative_oid (100 ∷ []))) ≡ codes "100"
relative_oid_text = append-nil (decimal 100) ∙ decimal_100

one_bit_text : text_of bit_string (bits (true ∷ [])) ≡ codes "'1'B"
one_bit_text = refl

bits_in_order_text : text_of bit_string (bits (true ∷ false ∷ false ∷ true ∷ true ∷ [])) ≡ codes "'10011'B"
bits_in_order_text = refl

no_bits_text : text_of bit_string (bits []) ≡ codes "''B"
no_bits_text = refl

octet_text : text_of octet_string (octets (0x0A ∷ [])) ≡ codes "'0A'H"
octet_text = refl

octets_in_order_text : text_of octet_string (octets (0x9F ∷ 0x00 ∷ 0xCB ∷ [])) ≡ codes "'9F00CB'H"
octets_in_order_text = refl

no_octets_text : text_of octet_string (octets []) ≡ codes "''H"
no_octets_text = refl

name_text : text_of (Shape.string (universal 26) (StringType.text Visible)) (text (codes "Jones")) ≡ codes "\"Jones\""
name_text = refl

-- each `"` is doubled
quotes_text : text_of (Shape.string (universal 22) (StringType.text Ia5)) (text (codes "a\"b\"")) ≡ codes "\"a\"\"b\"\"\""
quotes_text = refl

no_characters_text : text_of (Shape.string (universal 12) (StringType.text Utf8)) (text []) ≡ codes "\"\""
no_characters_text = refl

edges_text : text_of (Shape.string (universal 22) (StringType.text Ia5)) (text (0x20 ∷ 0x7E ∷ [])) ≡ codes "\" ~\""
edges_text = refl

-- one octet past the edges, and the text is in hexadecimal
line_feed_text : text_of (Shape.string (universal 22) (StringType.text Ia5)) (text (0x41 ∷ 0x1F ∷ [])) ≡ codes "'411F'H"
line_feed_text = refl

delete_text : text_of (Shape.string (universal 22) (StringType.text Ia5)) (text (0x7F ∷ [])) ≡ codes "'7F'H"
delete_text = refl

accent_text : text_of (Shape.string (universal 12) (StringType.text Utf8)) (text (0xC3 ∷ 0xA9 ∷ [])) ≡ codes "'C3A9'H"
accent_text = refl

-- a BMPString is in hexadecimal, whatever its octets
bmp_text : text_of (Shape.string (universal 30) (StringType.text Bmp)) (text (0x41 ∷ 0x42 ∷ [])) ≡ codes "'4142'H"
bmp_text = refl

no_bmp_text : text_of (Shape.string (universal 30) (StringType.text Bmp)) (text []) ≡ codes "''H"
no_bmp_text = refl

time_text : text_of (Shape.string (universal 24) (StringType.time Generalized)) (text (codes "20240229120000Z")) ≡ codes "\"20240229120000Z\""
time_text = refl

empty_text : text_of (Shape.sequence (universal 16) no_component) (Val.fields no_slot) ≡ codes "{ }"
empty_text = refl

-- SET { a INTEGER, b CHOICE { x [5] IMPLICIT NULL, y BOOLEAN } }, a 7 and x chosen
abbrev either : Alternatives
either = alternative (codes "x") (Shape.simple (context 5) SimpleType.null) (alternative (codes "y") boolean no_alternative)

abbrev set_with_choice : Components
set_with_choice = component (codes "a") integer required (component (codes "b") (Shape.choice either) required no_component)

set_text : text_of (Shape.set (universal 17) set_with_choice) (Val.fields (present (number (pos 7)) (present (Val.chosen 0 nothing) no_slot))) ≡ codes "{ a 7, b x : NULL }"
set_text = ap (λ d. in_braces ((codes "a " ++ d) ∷ (codes "b " ++ codes "x : NULL") ∷ [])) seven_text

other_alternative_text : text_of (Shape.choice either) (Val.chosen 1 (Val.simple (SimpleValue.boolean true))) ≡ codes "y : TRUE"
other_alternative_text = refl

-- what is absent leaves no trace, nor does its comma
abbrev three_optional : Components
three_optional = component (codes "a") integer optional (component (codes "b") integer optional (component (codes "c") integer optional no_component))

one : decimal 1 ≡ codes "1"
one = decimal_digit 1 (omega arith)

two : decimal 2 ≡ codes "2"
two = decimal_digit 2 (omega arith)

three : decimal 3 ≡ codes "3"
three = decimal_digit 3 (omega arith)

first_absent_text : text_of (Shape.sequence (universal 16) three_optional) (Val.fields (absent (present (number (pos 2)) (present (number (pos 3)) no_slot)))) ≡ codes "{ b 2, c 3 }"
first_absent_text = ap₂ (λ d e. in_braces ((codes "b " ++ d) ∷ (codes "c " ++ e) ∷ [])) two three

middle_absent_text : text_of (Shape.sequence (universal 16) three_optional) (Val.fields (present (number (pos 1)) (absent (present (number (pos 3)) no_slot)))) ≡ codes "{ a 1, c 3 }"
middle_absent_text = ap₂ (λ d e. in_braces ((codes "a " ++ d) ∷ (codes "c " ++ e) ∷ [])) one three

last_absent_text : text_of (Shape.sequence (universal 16) three_optional) (Val.fields (present (number (pos 1)) (present (number (pos 2)) (absent no_slot)))) ≡ codes "{ a 1, b 2 }"
last_absent_text = ap₂ (λ d e. in_braces ((codes "a " ++ d) ∷ (codes "b " ++ e) ∷ [])) one two

all_absent_text : text_of (Shape.sequence (universal 16) three_optional) (Val.fields (absent (absent (absent no_slot)))) ≡ codes "{ }"
all_absent_text = refl

no_items_text : text_of (Shape.sequence_of (universal 16) integer) (Val.items no_item) ≡ codes "{ }"
no_items_text = refl

nested_text : text_of (Shape.sequence_of (universal 16) (Shape.sequence_of (universal 16) integer)) (Val.items (item (Val.items (item (number (pos 1)) (item (number (pos 2)) no_item))) (item (Val.items no_item) no_item))) ≡ codes "{ { 1, 2 }, { } }"
nested_text = ap₂ (λ d e. in_braces (in_braces (d ∷ e ∷ []) ∷ in_braces [] ∷ [])) one two

-- an explicit tag leaves no trace
explicit_text : text_of (Shape.explicit (context 0) (Shape.explicit (context 1) integer)) (number (pos 5)) ≡ codes "5"
explicit_text = decimal_digit 5 (omega arith)

-- SET OF INTEGER 5, 3, 5 is shown with its items in order
three_five : IsPaddedAtMost (0x02 ∷ 0x01 ∷ 0x03 ∷ []) (0x02 ∷ 0x01 ∷ 0x05 ∷ [])
three_five = alike 0x02 (0x01 ∷ 0x03 ∷ []) (0x01 ∷ 0x05 ∷ []) (alike 0x01 (0x03 ∷ []) (0x05 ∷ []) (less 0x03 0x05 [] [] (omega arith)))

set_of_535 : IsShown set_of_integer (Val.items (three_items 5 3 5)) (codes "{ 3, 5, 5 }")
set_of_535 = record {
  ordered = Val.items (three_items 3 5 5);
  same = record { order = listed (three_items 3 5 5); permutes = turned (number (pos 5)) (number (pos 3)) (number (pos 5) ∷ []); each = (refl, (refl, (refl, tt))) };
  ascends = (
    (tt, (tt, (tt, tt))),
    inr record {
      encodings = (0x02 ∷ 0x01 ∷ 0x03 ∷ []) ∷ (0x02 ∷ 0x01 ∷ 0x05 ∷ []) ∷ (0x02 ∷ 0x01 ∷ 0x05 ∷ []) ∷ [];
      each = (small der 3 (omega arith) refl, (small der 5 (omega arith) refl, (small der 5 (omega arith) refl, tt)));
      ascends = three_ascend (0x02 ∷ 0x01 ∷ 0x03 ∷ []) (0x02 ∷ 0x01 ∷ 0x05 ∷ []) (0x02 ∷ 0x01 ∷ 0x05 ∷ []) three_five three_five (padded_refl (0x02 ∷ 0x01 ∷ 0x05 ∷ []));
    },
  );
  is = sym (ap₂ (λ d e. in_braces (d ∷ e ∷ e ∷ [])) three (decimal_digit 5 (omega arith)));
}

-- and in no other order
same_535 : IsSame set_of_integer (Val.items (three_items 5 3 5)) (Val.items (three_items 5 3 5))
same_535 = record { order = listed (three_items 5 3 5); permutes = IsPermutation-refl (listed (three_items 5 3 5)); each = (refl, (refl, (refl, tt))) }

not_in_the_order_read : IsShown set_of_integer (Val.items (three_items 5 3 5)) (codes "{ 5, 3, 5 }") → ⊥
not_in_the_order_read h =
    let same = one_text set_of_integer (Val.items (three_items 5 3 5)) (Val.items (three_items 5 3 5)) (codes "{ 3, 5, 5 }") (codes "{ 5, 3, 5 }") well_formed_set_of same_535 set_of_535 h in
    let third : 51 ≡ 53 = ap (λ (l : List ℕ). get_or l 2 0) same in
    absurd (omega (arith, third))

-- Values behind DEFAULT, and some that a type does not take.
use Rattle.std.proofs.Common.{◌≡◌, ◌<◌, ◌/◌, ◌%◌, inl, inr, ℕ, Bool, true, false, pos, negsuc, List, [], ◌∷◌, refl, sym, ap, ◌∙◌, subst, arith}
use Rattle.std.specs.Prelude.{All, codes}
use Rattle.std.specs.List.{flat_map}
use Rattle.std.proofs.lemmas.Int.{ints}
use Rattle.std.proofs.lemmas.List.Elements.{All-nil, All-cons, All-head}
use Rattle.primitives.specs.Bits.{IsTrimmed}
use Rattle.strings.specs.declared.text.TextKind.{TextKind}
use Rattle.strings.specs.declared.text.TextKind.TheVariants.{Numeric, Ia5, Bmp}
use Rattle.strings.specs.Alphabet.{IsNumericOctet, IsIa5Octet}
use Rattle.types.specs.Shape.{EnumerationItem, SimpleType, StringType, SimpleValue, StringValue, Val, Shape, Alternatives}
use Rattle.types.proofs.ListLemmas.{contains_first, contains_later, contains_cases, not_in_nil}
use Rattle.syntax.specs.Tree.{Value, integer, item_name, binary_value, hex_value, chars_value}
use Rattle.types.specs.Universal.{universal}
use Rattle.builtin_types.specs.Tagging.{context}
use Rattle.builtin_types.specs.Defaults.{IsHexString, two_digits, IsDefault}
use Rattle.builtin_types.proofs.DefaultLemmas.{one_default}
use Rattle.builtin_types.proofs.SpellingLemmas.{tails, one_hex_string, one_character_string}
use Rattle.builtin_types.proofs.NameInstances.{a, b, apart}

abbrev bit_string : Shape
bit_string = Shape.string (universal 3) StringType.bit_string

abbrev octet_string : Shape
octet_string = Shape.string (universal 4) StringType.octet_string

abbrev text_of : ℕ → TextKind → Shape
text_of number kind = Shape.string (universal number) (StringType.text kind)

abbrev bits : List Bool → Val
bits value = Val.string (StringValue.bits value)

one_below : (value : ℕ) → value < 16 → All (λ (digit : ℕ). digit < 16) (value ∷ [])
one_below value less = All-cons (λ (digit : ℕ). digit < 16) value [] less (All-nil (λ (digit : ℕ). digit < 16))

-- BIT STRING: four bits a hexadecimal digit, the most significant first, and one a binary digit
hex_a : IsHexString (codes "'A'H") (10 ∷ [])
hex_a = record { each = one_below 10 (omega arith); spelt = refl }

bits_of_a : IsDefault bit_string (hex_value (codes "'A'H")) (bits (true ∷ false ∷ true ∷ false ∷ []))
bits_of_a = (StringValue.bits (true ∷ false ∷ true ∷ false ∷ []), (true ∷ false ∷ true ∷ false ∷ [], (10 ∷ [], hex_a, refl), refl), refl)

bits_of_0 : IsDefault bit_string (hex_value (codes "'0'H")) (bits (false ∷ false ∷ false ∷ false ∷ []))
bits_of_0 = (StringValue.bits (false ∷ false ∷ false ∷ false ∷ []), (false ∷ false ∷ false ∷ false ∷ [], (0 ∷ [], record { each = one_below 0 (omega arith); spelt = refl }, refl), refl), refl)

bits_of_101 : IsDefault bit_string (binary_value (codes "'101'B")) (bits (true ∷ false ∷ true ∷ []))
bits_of_101 = (StringValue.bits (true ∷ false ∷ true ∷ []), (true ∷ false ∷ true ∷ [], refl, refl), refl)

no_bits : IsDefault bit_string (binary_value (codes "''B")) (bits [])
no_bits = (StringValue.bits [], ([], refl, refl), refl)

-- the bits 0 at the end are the value's too
bits_of_1010 : IsDefault bit_string (binary_value (codes "'1010'B")) (bits (true ∷ false ∷ true ∷ false ∷ []))
bits_of_1010 = (StringValue.bits (true ∷ false ∷ true ∷ false ∷ []), (true ∷ false ∷ true ∷ false ∷ [], refl, refl), refl)

trimmed_all_the_same : IsDefault bit_string (binary_value (codes "'1010'B")) (bits (true ∷ false ∷ true ∷ [])) → ⊥
trimmed_all_the_same h =
    let is = one_default bit_string (binary_value (codes "'1010'B")) (bits (true ∷ false ∷ true ∷ [])) (bits (true ∷ false ∷ true ∷ false ∷ [])) tt h bits_of_1010 in
    cc

-- and with named bits they are not
abbrev named_bits : Shape
named_bits = Shape.string (universal 3) (StringType.named_bits (record { name = a; number = 0 } ∷ record { name = b; number = 7 } ∷ []))

trimmed_101 : IsTrimmed (true ∷ false ∷ true ∷ [])
trimmed_101 = inr (true ∷ false ∷ [], refl)

named_1010 : IsDefault named_bits (binary_value (codes "'1010'B")) (bits (true ∷ false ∷ true ∷ []))
named_1010 = (StringValue.bits (true ∷ false ∷ true ∷ []), (true ∷ false ∷ true ∷ [], trimmed_101, (1, refl), refl), refl)

named_100 : IsDefault named_bits (binary_value (codes "'100'B")) (bits (true ∷ []))
named_100 = (StringValue.bits (true ∷ []), (true ∷ [], inr ([], refl), (2, refl), refl), refl)

hex_a0 : IsHexString (codes "'A0'H") (10 ∷ 0 ∷ [])
hex_a0 = record { each = All-cons (λ (digit : ℕ). digit < 16) 10 (0 ∷ []) (omega arith) (one_below 0 (omega arith)); spelt = refl }

named_a0 : IsDefault named_bits (hex_value (codes "'A0'H")) (bits (true ∷ false ∷ true ∷ []))
named_a0 = (StringValue.bits (true ∷ false ∷ true ∷ []), (true ∷ false ∷ true ∷ [], trimmed_101, (5, (10 ∷ 0 ∷ [], hex_a0, refl)), refl), refl)

named_0 : IsDefault named_bits (binary_value (codes "'0'B")) (bits [])
named_0 = (StringValue.bits [], ([], inl refl, (1, refl), refl), refl)

named_none : IsDefault named_bits (binary_value (codes "''B")) (bits [])
named_none = (StringValue.bits [], ([], inl refl, (0, refl), refl), refl)

-- also where they fill an octet, and no name of a bit is a value
untrimmed : IsDefault named_bits (hex_value (codes "'A0'H")) (bits (true ∷ false ∷ true ∷ false ∷ false ∷ false ∷ false ∷ false ∷ [])) → ⊥
untrimmed h =
    let is = one_default named_bits (hex_value (codes "'A0'H")) (bits (true ∷ false ∷ true ∷ false ∷ false ∷ false ∷ false ∷ false ∷ [])) (bits (true ∷ false ∷ true ∷ [])) tt h named_a0 in
    cc

no_name : (v : Val) → IsDefault named_bits (item_name a) v → ⊥
no_name v h = h.1.2.1

-- OCTET STRING: two digits an octet
octet_10 : IsDefault octet_string (hex_value (codes "'0A'H")) (Val.string (StringValue.octets (10 ∷ [])))
octet_10 = (
  StringValue.octets (10 ∷ []),
  (
    10 ∷ [],
    record { each = All-cons (λ (digit : ℕ). digit < 16) 0 (10 ∷ []) (omega arith) (one_below 10 (omega arith)); spelt = refl },
    refl,
  ),
  refl,
)

-- and no odd number of them, and no binary string
odd : (octets : List ℕ) → flat_map two_digits octets ≡ 10 ∷ [] → ⊥
odd [] e = cc
odd (x ∷ xs) e = let rest = tails (x / 16) 10 (x % 16 ∷ flat_map two_digits xs) [] e in cc

odd_digits : (v : Val) → IsDefault octet_string (hex_value (codes "'A'H")) v → ⊥
odd_digits v h = odd h.1.0 (sym (one_hex_string (codes "'A'H") (10 ∷ []) (flat_map two_digits h.1.0) hex_a h.1.1))

binary_octets : (v : Val) → IsDefault octet_string (binary_value (codes "'00001010'B")) v → ⊥
binary_octets v h = h.1

-- character strings: a doubled quotation mark stands for one
quoted : IsDefault (text_of 22 Ia5) (chars_value (codes "\"a\"\"b\"")) (Val.string (StringValue.text (97 ∷ 34 ∷ 98 ∷ [])))
quoted = (
  StringValue.text (97 ∷ 34 ∷ 98 ∷ []),
  (
    97 ∷ 34 ∷ 98 ∷ [],
    refl,
    (λ same. cc),
    All-cons IsIa5Octet 97 (34 ∷ 98 ∷ []) (omega arith) (All-cons IsIa5Octet 34 (98 ∷ []) (omega arith) (All-cons IsIa5Octet 98 [] (omega arith) (All-nil IsIa5Octet))),
    refl,
  ),
  refl,
)

-- none on BMPString, and none outside the alphabet
bmp : (v : Val) → IsDefault (text_of 30 Bmp) (chars_value (codes "\"A\"")) v → ⊥
bmp v h = h.1.2 refl

not_numeric : (v : Val) → IsDefault (text_of 18 Numeric) (chars_value (codes "\"a\"")) v → ⊥
not_numeric v h =
    let is = one_character_string h.1.0 (97 ∷ []) (sym h.1.1) in
    let first : IsNumericOctet 97 = All-head IsNumericOctet 97 [] (subst (All IsNumericOctet) is h.1.3) in
    elim first [ inl digit ↦ absurd (omega (arith, digit)) | inr blank ↦ absurd (omega (arith, blank)) ]

-- INTEGER: -1, and not 2^127
abbrev number : Bool → ℕ → Value
number negative magnitude = integer (record { negative = negative; magnitude = magnitude })

minus_one : IsDefault (Shape.simple (universal 2) SimpleType.integer) (number true 1) (Val.simple (SimpleValue.integer (negsuc 0)))
minus_one = (SimpleValue.integer (negsuc 0), (omega (arith, ints), refl), refl)

too_great : (v : Val) → IsDefault (Shape.simple (universal 2) SimpleType.integer) (number false 170_141_183_460_469_231_731_687_303_715_884_105_728) v → ⊥
too_great v h = let fits = h.1.0 in omega (arith, ints, fits)

-- ENUMERATED: the name of an item, also through an explicit tag, and no number and no other name
abbrev two_items : List EnumerationItem
two_items = record { name = a; number = pos 0 } ∷ record { name = b; number = pos 1 } ∷ []

abbrev enumerated : Shape
enumerated = Shape.simple (universal 10) (SimpleType.enumerated two_items)

named : IsDefault (Shape.explicit (context 0) enumerated) (item_name b) (Val.simple (SimpleValue.enumerated (pos 1)))
named = (
  SimpleValue.enumerated (pos 1),
  (
    record { name = b; number = pos 1 },
    contains_later (record { name = a; number = pos 0 }) (record { name = b; number = pos 1 }) (record { name = b; number = pos 1 } ∷ []) (contains_first (record { name = b; number = pos 1 }) (record { name = b; number = pos 1 }) [] refl),
    refl,
    refl,
  ),
  refl,
)

no_number : (v : Val) → IsDefault enumerated (number false 1) v → ⊥
no_number v h = h.1

-- BOOLEAN takes no number, and a CHOICE nothing
no_truth : (v : Val) → IsDefault (Shape.simple (universal 1) SimpleType.boolean) (number false 3) v → ⊥
no_truth v h = h.1

no_choice : (alternatives : Alternatives) (v : Val) → IsDefault (Shape.choice alternatives) (number false 1) v → ⊥
no_choice alternatives v h = h

other_name : (v : Val) → IsDefault enumerated (item_name (99 ∷ [])) v → ⊥
other_name v h =
    let first : EnumerationItem = record { name = a; number = pos 0 } in
    let second : EnumerationItem = record { name = b; number = pos 1 } in
    elim (contains_cases first h.1.0 (second ∷ []) h.1.1) [ inl is ↦ apart 97 99 (λ same. absurd (omega (arith, same))) (ap (λ (item : EnumerationItem). item.name) is ∙ h.1.2) | inr later ↦ elim (contains_cases second h.1.0 [] later) [ inl is ↦ apart 98 99 (λ same. absurd (omega (arith, same))) (ap (λ (item : EnumerationItem). item.name) is ∙ h.1.2) | inr none ↦ not_in_nil h.1.0 none ] ]

-- What stands behind DEFAULT is one value at most.
use Rattle.std.proofs.Common.{◌≡◌, ℕ, Bool, false, List, ◌++◌, map, replicate, sym, ap, ◌∙◌}
use Rattle.std.specs.Prelude.{⊤}
use Rattle.std.specs.List.{flat_map}
use Rattle.types.specs.Shape.{EnumerationItem, SimpleType, StringType, SimpleValue, StringValue, Val, Requirement, Shape}
use Rattle.syntax.specs.Tree.{Value, truth, falsity, integer, item_name, binary_value, hex_value, chars_value, Ending, required, optional, default}
use Rattle.builtin_types.specs.Defaults.{four_bits, two_digits, AreWritten, IsSimpleDefault, IsStringDefault, IsDefault, IsRequirement}
use Rattle.types.proofs.TrimLemmas.{trimmed_unique}
use Rattle.builtin_types.specs.Names.{NamesDiffer}
use Rattle.builtin_types.proofs.NameLemmas.{one_of_name}
use Rattle.builtin_types.proofs.SpellingLemmas.{one_binary_string, one_hex_string, one_in_two_digits, one_character_string}

abbrev pub HasSimpleNamesOnce : SimpleType → Type 0
HasSimpleNamesOnce SimpleType.boolean = ⊤
HasSimpleNamesOnce SimpleType.integer = ⊤
HasSimpleNamesOnce (SimpleType.enumerated items) = NamesDiffer (map (λ item. item.name) items)
HasSimpleNamesOnce SimpleType.null = ⊤
HasSimpleNamesOnce SimpleType.oid = ⊤
HasSimpleNamesOnce SimpleType.relative_oid = ⊤

-- where the type is an ENUMERATED, seen through explicit tags, the names of its items differ
abbrev pub HasNamesOnce : Shape → Type 0
HasNamesOnce (Shape.simple tag type) = HasSimpleNamesOnce type
HasNamesOnce (Shape.explicit tag type) = HasNamesOnce type
HasNamesOnce _ = ⊤

one_simple_default : (type : SimpleType) (written : Value) (v w : SimpleValue) → HasSimpleNamesOnce type → IsSimpleDefault type written v → IsSimpleDefault type written w → v ≡ w
one_simple_default SimpleType.boolean truth v w once h g = h ∙ sym g
one_simple_default SimpleType.boolean falsity v w once h g = h ∙ sym g
one_simple_default SimpleType.integer (integer number) v w once h g = h.1 ∙ sym g.1
one_simple_default (SimpleType.enumerated items) (item_name name) v w once h g =
    let same = one_of_name (λ (item : EnumerationItem). item.name) items once h.0 g.0 h.1 g.1 (h.2 ∙ sym g.2) in
    h.3 ∙ ap (λ (item : EnumerationItem). SimpleValue.enumerated item.number) same ∙ sym g.3
one_simple_default _ _ v w once h g = absurd h

one_written : (written : Value) (a b : List Bool) → AreWritten written a → AreWritten written b → a ≡ b
one_written (binary_value spelling) a b h g = one_binary_string a b (sym h ∙ g)
one_written (hex_value spelling) a b h g = h.2 ∙ ap (λ (values : List ℕ). flat_map four_bits values) (one_hex_string spelling h.0 g.0 h.1 g.1) ∙ sym g.2
one_written _ a b h g = absurd h

one_string_default : (type : StringType) (written : Value) (v w : StringValue) → IsStringDefault type written v → IsStringDefault type written w → v ≡ w
one_string_default StringType.bit_string written v w h g = h.2 ∙ ap StringValue.bits (one_written written h.0 g.0 h.1 g.1) ∙ sym g.2
one_string_default (StringType.named_bits names) written v w h g =
    let same = one_written written (h.0 ++ replicate h.2.0 false) (g.0 ++ replicate g.2.0 false) h.2.1 g.2.1 in
    h.3 ∙ ap StringValue.bits (trimmed_unique h.0 g.0 h.2.0 g.2.0 h.1 g.1 same) ∙ sym g.3
one_string_default StringType.octet_string (hex_value spelling) v w h g =
    h.2 ∙ ap StringValue.octets (one_in_two_digits h.0 g.0 (one_hex_string spelling (flat_map two_digits h.0) (flat_map two_digits g.0) h.1 g.1)) ∙ sym g.2
one_string_default (StringType.text kind) (chars_value spelling) v w h g = h.4 ∙ ap StringValue.text (one_character_string h.0 g.0 (sym h.1 ∙ g.1)) ∙ sym g.4
one_string_default _ _ v w h g = absurd h

pub one_default : (type : Shape) (written : Value) (v w : Val) → HasNamesOnce type → IsDefault type written v → IsDefault type written w → v ≡ w
one_default (Shape.simple tag type) written v w once h g = h.2 ∙ ap Val.simple (one_simple_default type written h.0 g.0 once h.1 g.1) ∙ sym g.2
one_default (Shape.string tag type) written v w once h g = h.2 ∙ ap Val.string (one_string_default type written h.0 g.0 h.1 g.1) ∙ sym g.2
one_default (Shape.explicit tag type) written v w once h g = one_default type written v w once h g
one_default _ written v w once h g = absurd h

pub one_requirement : (type : Shape) (ending : Ending) (a b : Requirement) → HasNamesOnce type → IsRequirement type ending a → IsRequirement type ending b → a ≡ b
one_requirement type required a b once h g = h ∙ sym g
one_requirement type optional a b once h g = h ∙ sym g
one_requirement type (default written) a b once h g = h.2 ∙ ap Requirement.default (one_default type written h.0 g.0 once h.1 g.1) ∙ sym g.2

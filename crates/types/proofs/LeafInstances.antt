-- Encodings of values without parts under each rule, and octets that encode no such value (X.690 8.2 to 8.4, 8.8, 8.19 and 8.20).
use Rattle.std.proofs.Common.{◌≡◌, ℕ, ◌+◌, ◌^◌, ◌<◌, ◌≤◌, List, [], ◌∷◌, refl, arith, Bool, true, false, ℤ, pos, negsuc}
use Rattle.std.proofs.lemmas.Int.{ints}
use Rattle.std.proofs.lemmas.List.Elements.{All-nil, All-cons}
use Rattle.octets.specs.declared.tag.Class.{Class}
use Rattle.octets.specs.declared.tag.Class.TheVariants.{Universal}
use Rattle.octets.specs.declared.tag.Tag.{Tag}
use Rattle.octets.specs.Identifier.{class_bits, form_bit}
use Rattle.octets.specs.Rule.{Rule, ber, cer, der}
use Rattle.octets.specs.Base128.{IsBase128}
use Rattle.primitives.specs.Oid.{AreSubidentifiers, AreOfArcs, AreWithinLimits}
use Rattle.primitives.specs.Boolean.{IsBoolean}
use Rattle.primitives.specs.Integer.{integer_of}
use Rattle.types.specs.Shape.{SimpleType, Shape, SimpleValue, Val}
use Rattle.types.specs.Encoding.{IsEncoding}
use Rattle.types.proofs.EncodedLemmas.{encoded_conforms}
use Rattle.types.proofs.ListLemmas.{contains_first, contains_later}
use Rattle.types.proofs.FormInstances.{universal, one_octet, definite, definite_81}

abbrev pub boolean : Shape
boolean = Shape.simple (universal 1) SimpleType.boolean

abbrev pub integer : Shape
integer = Shape.simple (universal 2) SimpleType.integer

abbrev pub null : Tag → Shape
null tag = Shape.simple tag SimpleType.null

abbrev pub truth : Bool → Val
truth value = Val.simple (SimpleValue.boolean value)

abbrev pub number : ℤ → Val
number value = Val.simple (SimpleValue.integer value)

abbrev pub nothing : Val
nothing = Val.simple SimpleValue.null

-- FALSE is 00, and TRUE FF, under every rule
true_contents : (rule : Rule) → IsBoolean rule true (0xFF ∷ [])
true_contents ber = record { octet = 0xFF; below_256 = omega arith; not_zero = λ none. absurd (omega arith); is = refl }
true_contents cer = refl
true_contents der = refl

pub true_FF : (rule : Rule) → IsEncoding rule boolean (truth true) (0x01 ∷ 0x01 ∷ 0xFF ∷ [])
true_FF rule = record { value = SimpleValue.boolean true; is = refl; conforms = tt; contents = 0xFF ∷ []; spelt = true_contents rule; primitive = definite rule Universal 1 false (0xFF ∷ []) (omega arith) (omega arith) }

pub false_00 : (rule : Rule) → IsEncoding rule boolean (truth false) (0x01 ∷ 0x01 ∷ 0x00 ∷ [])
false_00 rule = record { value = SimpleValue.boolean false; is = refl; conforms = tt; contents = 0x00 ∷ []; spelt = refl; primitive = definite rule Universal 1 false (0x00 ∷ []) (omega arith) (omega arith) }

-- under BER TRUE is any other octet too, and the length may be 81 01
pub true_any : (octet : ℕ) → 1 ≤ octet → octet < 256 → IsEncoding ber boolean (truth true) (0x01 ∷ 0x01 ∷ octet ∷ [])
true_any octet some below = record {
  value = SimpleValue.boolean true;
  is = refl;
  conforms = tt;
  contents = octet ∷ [];
  spelt = record { octet = octet; below_256 = below; not_zero = λ none. absurd (omega arith); is = refl };
  primitive = definite ber Universal 1 false (octet ∷ []) (omega arith) (omega arith);
}

true_2A : IsEncoding ber boolean (truth true) (0x01 ∷ 0x01 ∷ 0x2A ∷ [])
true_2A = true_any 0x2A (omega arith) (omega arith)

true_81 : IsEncoding ber boolean (truth true) (0x01 ∷ 0x81 ∷ 0x01 ∷ 0xFF ∷ [])
true_81 = record { value = SimpleValue.boolean true; is = refl; conforms = tt; contents = 0xFF ∷ []; spelt = true_contents ber; primitive = definite_81 Universal 1 false (0xFF ∷ []) (omega arith) (omega arith) }

-- a number of one octet under every rule, and under BER with its length in 81 01
pub small : (rule : Rule) (n : ℕ) → n < 128 → integer_of (n ∷ []) ≡ pos n → IsEncoding rule integer (number (pos n)) (0x02 ∷ 0x01 ∷ n ∷ [])
small rule n low same = record {
  value = SimpleValue.integer (pos n);
  is = refl;
  conforms = omega (arith, ints, low);
  contents = n ∷ [];
  spelt = record { at_least_one = omega arith; below_256 = one_octet n (omega (arith, low)); shortest = tt; value = same };
  primitive = definite rule Universal 2 false (n ∷ []) (omega arith) (omega arith);
}

pub small_81 : (n : ℕ) → n < 128 → integer_of (n ∷ []) ≡ pos n → IsEncoding ber integer (number (pos n)) (0x02 ∷ 0x81 ∷ 0x01 ∷ n ∷ [])
small_81 n low same = record {
  value = SimpleValue.integer (pos n);
  is = refl;
  conforms = omega (arith, ints, low);
  contents = n ∷ [];
  spelt = record { at_least_one = omega arith; below_256 = one_octet n (omega (arith, low)); shortest = tt; value = same };
  primitive = definite_81 Universal 2 false (n ∷ []) (omega arith) (omega arith);
}

-- NULL has no contents octets
pub null_00 : (rule : Rule) (class : Class) (low : ℕ) → low ≤ 30 → IsEncoding rule (null record { class = class; number = low }) nothing ((class_bits class + form_bit false + low) ∷ 0x00 ∷ [])
null_00 rule class low few = record { value = SimpleValue.null; is = refl; conforms = tt; contents = []; spelt = refl; primitive = definite rule class low false [] few (omega arith) }

null_81 : IsEncoding ber (null (universal 5)) nothing (0x05 ∷ 0x81 ∷ 0x00 ∷ [])
null_81 = record { value = SimpleValue.null; is = refl; conforms = tt; contents = []; spelt = refl; primitive = definite_81 Universal 5 false [] (omega arith) (omega arith) }

-- -129 is 02 02 FF 7F
minus_129 : (rule : Rule) → IsEncoding rule integer (number (negsuc 128)) (0x02 ∷ 0x02 ∷ 0xFF ∷ 0x7F ∷ [])
minus_129 rule = record {
  value = SimpleValue.integer (negsuc 128);
  is = refl;
  conforms = omega (arith, ints);
  contents = 0xFF ∷ 0x7F ∷ [];
  spelt = record {
    at_least_one = omega arith;
    below_256 = All-cons (λ o. o < 256) 0xFF (0x7F ∷ []) (omega arith) (one_octet 0x7F (omega arith));
    shortest = (λ none. absurd (omega arith), λ all. omega arith);
    value = refl;
  };
  primitive = definite rule Universal 2 false (0xFF ∷ 0x7F ∷ []) (omega arith) (omega arith);
}

-- 3 of an ENUMERATED with the numbers 1 and 3 is 0A 01 03
abbrev pub enumerated : Shape
enumerated = Shape.simple (universal 10) (SimpleType.enumerated (record { name = 0x61 ∷ []; number = pos 1 } ∷ record { name = 0x62 ∷ []; number = pos 3 } ∷ []))

item_3 : (rule : Rule) → IsEncoding rule enumerated (Val.simple (SimpleValue.enumerated (pos 3))) (0x0A ∷ 0x01 ∷ 0x03 ∷ [])
item_3 rule = record {
  value = SimpleValue.enumerated (pos 3);
  is = refl;
  conforms = (contains_later (pos 1) (pos 3) (pos 3 ∷ []) (contains_first (pos 3) (pos 3) [] refl), omega (arith, ints));
  contents = 0x03 ∷ [];
  spelt = record { at_least_one = omega arith; below_256 = one_octet 0x03 (omega arith); shortest = tt; value = refl };
  primitive = definite rule Universal 10 false (0x03 ∷ []) (omega arith) (omega arith);
}

-- the arcs 2.100.3 are 06 03 81 34 03, and the arcs 180.3 relative to another are 0D 03 81 34 03
base_128_180 : IsBase128 180 (0x81 ∷ 0x34 ∷ [])
base_128_180 = record { digits = 1 ∷ 0x34 ∷ []; below_128 = All-cons (λ d. d < 128) 1 (0x34 ∷ []) (omega arith) (All-cons (λ d. d < 128) 0x34 [] (omega arith) (All-nil (λ d. d < 128))); at_least_one = omega arith; no_leading_zero = λ two none. absurd (omega arith); value = refl; spelt = refl }

base_128_3 : IsBase128 3 (0x03 ∷ [])
base_128_3 = record { digits = 3 ∷ []; below_128 = All-cons (λ d. d < 128) 3 [] (omega arith) (All-nil (λ d. d < 128)); at_least_one = omega arith; no_leading_zero = λ two none. absurd (omega arith); value = refl; spelt = refl }

subidentifiers_180_3 : AreSubidentifiers (180 ∷ 3 ∷ []) (0x81 ∷ 0x34 ∷ 0x03 ∷ [])
subidentifiers_180_3 = record { spellings = (0x81 ∷ 0x34 ∷ []) ∷ (0x03 ∷ []) ∷ []; each = (base_128_180, (base_128_3, tt)); joined = refl }

arcs_2_100_3 : AreOfArcs (2 ∷ 100 ∷ 3 ∷ []) (180 ∷ 3 ∷ [])
arcs_2_100_3 = record { first = 2; second = 100; others = 3 ∷ []; arcs_are = refl; at_most_2 = omega arith; at_most_39 = λ low. absurd (omega arith); numbers_are = refl }

within_180_3 : AreWithinLimits (180 ∷ 3 ∷ [])
within_180_3 = record { few = omega arith; below = All-cons (λ n. n < 2 ^ 128) 180 (3 ∷ []) (omega arith) (All-cons (λ n. n < 2 ^ 128) 3 [] (omega arith) (All-nil (λ n. n < 2 ^ 128))) }

oid_2_100_3 : (rule : Rule) → IsEncoding rule (Shape.simple (universal 6) SimpleType.oid) (Val.simple (SimpleValue.oid (2 ∷ 100 ∷ 3 ∷ []))) (0x06 ∷ 0x03 ∷ 0x81 ∷ 0x34 ∷ 0x03 ∷ [])
oid_2_100_3 rule = record {
  value = SimpleValue.oid (2 ∷ 100 ∷ 3 ∷ []);
  is = refl;
  conforms = record { numbers = 180 ∷ 3 ∷ []; of_arcs = arcs_2_100_3; within = within_180_3 };
  contents = 0x81 ∷ 0x34 ∷ 0x03 ∷ [];
  spelt = record { numbers = 180 ∷ 3 ∷ []; of_arcs = arcs_2_100_3; spelt = subidentifiers_180_3 };
  primitive = definite rule Universal 6 false (0x81 ∷ 0x34 ∷ 0x03 ∷ []) (omega arith) (omega arith);
}

relative_oid_180_3 : (rule : Rule) → IsEncoding rule (Shape.simple (universal 13) SimpleType.relative_oid) (Val.simple (SimpleValue.relative_oid (180 ∷ 3 ∷ []))) (0x0D ∷ 0x03 ∷ 0x81 ∷ 0x34 ∷ 0x03 ∷ [])
relative_oid_180_3 rule = record {
  value = SimpleValue.relative_oid (180 ∷ 3 ∷ []);
  is = refl;
  conforms = record { at_least_one = omega arith; within = within_180_3 };
  contents = 0x81 ∷ 0x34 ∷ 0x03 ∷ [];
  spelt = record { at_least_one = omega arith; spelt = subidentifiers_180_3 };
  primitive = definite rule Universal 13 false (0x81 ∷ 0x34 ∷ 0x03 ∷ []) (omega arith) (omega arith);
}

-- 2^127 does not conform, and so has no encoding
too_great : (rule : Rule) (octets : List ℕ) → IsEncoding rule integer (number (pos 170_141_183_460_469_231_731_687_303_715_884_105_728)) octets → ⊥
too_great rule octets h = omega (arith, ints, encoded_conforms rule integer (number (pos 170_141_183_460_469_231_731_687_303_715_884_105_728)) octets h)

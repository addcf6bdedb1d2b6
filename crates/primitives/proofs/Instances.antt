-- The definitions, held against octets of the standard and of its examples.
use Rattle.std.proofs.Common.{◌≡◌, inl, inr, ℕ, ◌+◌, ◌-◌, ◌*◌, ◌^◌, ◌<◌, ◌≤◌, Bool, true, false, List, [], ◌∷◌, ◌++◌, length, refl, sym, ◌∙◌, ap, arith, All, replicate, suc, subst, get_or}
use Rattle.std.specs.Prelude.{ℤ, pos, negsuc}
use Rattle.std.proofs.lemmas.List.{length-replicate}
use Rattle.std.proofs.lemmas.List.Elements.{All-cons, All-nil, All-replicate}
use Rattle.octets.specs.Base128.{IsBase128}
use Rattle.octets.specs.Rule.{Rule, ber, cer, der, IsCanonical}
use Rattle.octets.proofs.RuleLemmas.{der_is_canonical}
use Rattle.primitives.specs.Bits.{bits_of_octet, IsBits, IsTrimmed}
use Rattle.primitives.specs.Boolean.{IsBoolean}
use Rattle.primitives.specs.Integer.{IsInteger, IsWideInteger}
use Rattle.primitives.specs.Null.{IsNull}
use Rattle.primitives.specs.Oid.{AreOfArcs, IsOid, IsOidValue, IsRelativeOid, IsRelativeOidValue}
use Rattle.primitives.proofs.BitsLemmas.{CanBeUnused-from, one_bits_value, one_canonical_bits}
use Rattle.primitives.proofs.BooleanLemmas.{one_boolean_value, one_canonical_boolean}
use Rattle.primitives.proofs.IntegerLemmas.{IsWideInteger-from, above_sixteen}
use Rattle.primitives.proofs.OidLemmas.{one_oid_value, one_oid_encoding}
use Rattle.primitives.proofs.TrimLemmas.{last-from_IsTrimmed}

not_same : (a b : ℕ) → a < b → a ≡ b → ⊥
not_same a b less same = omega arith

-- BOOLEAN
true_is_FF : (rule : Rule) → IsBoolean rule true (255 ∷ [])
true_is_FF ber = record { octet = 255; below_256 = omega arith; not_zero = omega arith; is = refl }
true_is_FF cer = refl
true_is_FF der = refl

true_is_2A : IsBoolean ber true (42 ∷ [])
true_is_2A = record { octet = 42; below_256 = omega arith; not_zero = omega arith; is = refl }

true_is_2A_in_ber_alone : (rule : Rule) → IsCanonical rule → IsBoolean rule true (42 ∷ []) → ⊥
true_is_2A_in_ber_alone rule canonical h =
    let same = one_canonical_boolean rule der true (42 ∷ []) (255 ∷ []) canonical der_is_canonical h (true_is_FF der) in
    not_same 42 255 (omega arith) (ap (λ t. get_or t 0 0) same)

false_is_00 : (rule : Rule) → IsBoolean rule false (0 ∷ [])
false_is_00 rule = refl

true_is_not_00 : IsBoolean ber true (0 ∷ []) → ⊥
true_is_not_00 h = let same : true ≡ false = one_boolean_value ber ber true false (0 ∷ []) h refl in cc

false_is_not_FF : IsBoolean ber false (255 ∷ []) → ⊥
false_is_not_FF h = not_same 0 255 (omega arith) (ap (λ t. get_or t 0 0) (sym h))

true_is_not_empty : IsBoolean ber true [] → ⊥
true_is_not_empty h = let is = h.is in cc

true_is_no_two_octets : IsBoolean ber true (255 ∷ 255 ∷ []) → ⊥
true_is_no_two_octets h = let is = h.is in cc

true_is_no_octet_of_256 : IsBoolean ber true (256 ∷ []) → ⊥
true_is_no_octet_of_256 h = let same : 256 ≡ h.octet = cc h.is in absurd (omega (arith, h.below_256))

-- NULL
null_is_empty : IsNull []
null_is_empty = refl

null_is_not_00 : IsNull (0 ∷ []) → ⊥
null_is_not_00 h = cc h

-- INTEGER
zero_is_00 : IsInteger (pos 0) (0 ∷ [])
zero_is_00 = record { at_least_one = omega arith; below_256 = (All-cons (λ x. x < 256) 0 ([]) (omega arith) (All-nil (λ x. x < 256))); shortest = tt; value = refl }

one_hundred_and_twenty_eight_is_00_80 : IsInteger (pos 128) (0 ∷ 128 ∷ [])
one_hundred_and_twenty_eight_is_00_80 = record { at_least_one = omega arith; below_256 = (All-cons (λ x. x < 256) 0 (128 ∷ []) (omega arith) (All-cons (λ x. x < 256) 128 ([]) (omega arith) (All-nil (λ x. x < 256)))); shortest = (λ h. omega arith, λ h. omega arith); value = refl }

one_hundred_and_twenty_seven_is_7F : IsInteger (pos 127) (127 ∷ [])
one_hundred_and_twenty_seven_is_7F = record { at_least_one = omega arith; below_256 = (All-cons (λ x. x < 256) 127 ([]) (omega arith) (All-nil (λ x. x < 256))); shortest = tt; value = refl }

minus_1_is_FF : IsInteger (negsuc 0) (255 ∷ [])
minus_1_is_FF = record { at_least_one = omega arith; below_256 = (All-cons (λ x. x < 256) 255 ([]) (omega arith) (All-nil (λ x. x < 256))); shortest = tt; value = refl }

minus_128_is_80 : IsInteger (negsuc 127) (128 ∷ [])
minus_128_is_80 = record { at_least_one = omega arith; below_256 = (All-cons (λ x. x < 256) 128 ([]) (omega arith) (All-nil (λ x. x < 256))); shortest = tt; value = refl }

minus_129_is_FF_7F : IsInteger (negsuc 128) (255 ∷ 127 ∷ [])
minus_129_is_FF_7F = record { at_least_one = omega arith; below_256 = (All-cons (λ x. x < 256) 255 (127 ∷ []) (omega arith) (All-cons (λ x. x < 256) 127 ([]) (omega arith) (All-nil (λ x. x < 256)))); shortest = (λ h. omega arith, λ h. omega arith); value = refl }

two_hundred_and_fifty_six_is_01_00 : IsInteger (pos 256) (1 ∷ 0 ∷ [])
two_hundred_and_fifty_six_is_01_00 = record { at_least_one = omega arith; below_256 = (All-cons (λ x. x < 256) 1 (0 ∷ []) (omega arith) (All-cons (λ x. x < 256) 0 ([]) (omega arith) (All-nil (λ x. x < 256)))); shortest = (λ h. omega arith, λ h. omega arith); value = refl }

no_integer_is_empty : (number : ℤ) → IsInteger number [] → ⊥
no_integer_is_empty number h = let some = h.at_least_one in omega arith

one_hundred_and_twenty_eight_is_not_80 : IsInteger (pos 128) (128 ∷ []) → ⊥
one_hundred_and_twenty_eight_is_not_80 h = let v : negsuc 127 ≡ pos 128 = h.value in cc

no_integer_is_00_7F : (number : ℤ) → IsInteger number (0 ∷ 127 ∷ []) → ⊥
no_integer_is_00_7F number h = let few : 128 ≤ 127 = h.shortest.0 refl in omega arith

All-two : (first second : ℕ) (rest : List ℕ) → first < 256 → second < 256 → All (λ x. x < 256) rest → All (λ x. x < 256) (first ∷ second ∷ rest)
All-two first second rest low also below = All-cons (λ x. x < 256) first (second ∷ rest) low (All-cons (λ x. x < 256) second rest also below)

-- one more than 128 bits hold, and one less
two_to_the_127_is_wide : IsWideInteger (0 ∷ 128 ∷ replicate 15 0)
two_to_the_127_is_wide =
    IsWideInteger-from (0 ∷ 128 ∷ replicate 15 0) (omega arith) (omega arith) (All-two 0 128 (replicate 15 0) (omega arith) (omega arith) (All-replicate {X = ℕ} (λ x. x < 256) 15 0 (omega arith))) (λ h. omega arith, λ h. omega arith)

one_below_minus_two_to_the_127_is_wide : IsWideInteger (255 ∷ 127 ∷ replicate 15 255)
one_below_minus_two_to_the_127_is_wide =
    IsWideInteger-from (255 ∷ 127 ∷ replicate 15 255) (omega arith) (omega arith) (All-two 255 127 (replicate 15 255) (omega arith) (omega arith) (All-replicate {X = ℕ} (λ x. x < 256) 15 255 (omega arith))) (λ h. omega arith, λ h. omega arith)

seventeen_octets_from_00_7F_are_not_wide : IsWideInteger (0 ∷ 127 ∷ replicate 15 255) → ⊥
seventeen_octets_from_00_7F_are_not_wide h = let few : 128 ≤ 127 = h.spelt.shortest.0 refl in omega arith

minus_two_to_the_127_is_not_wide : IsWideInteger (128 ∷ replicate 15 0) → ⊥
minus_two_to_the_127_is_not_wide h = let many : 16 < 16 = above_sixteen (128 ∷ replicate 15 0) h in omega arith

octets_beyond_1024_are_not_wide : (contents : List ℕ) → length contents ≡ 1025 → IsWideInteger contents → ⊥
octets_beyond_1024_are_not_wide contents size h = omega (arith, h.within)

no_integer_is_FF_FF : (number : ℤ) → IsInteger number (255 ∷ 255 ∷ []) → ⊥
no_integer_is_FF_FF number h = let few : 255 < 128 = h.shortest.1 refl in omega arith

no_integer_is_FF_80 : (number : ℤ) → IsInteger number (255 ∷ 128 ∷ []) → ⊥
no_integer_is_FF_80 number h = let few : 128 < 128 = h.shortest.1 refl in omega arith

minus_129_is_not_7F : IsInteger (negsuc 128) (127 ∷ []) → ⊥
minus_129_is_not_7F h = let v : pos 127 ≡ negsuc 128 = h.value in cc

no_integer_is_00_01_00 : (number : ℤ) → IsInteger number (0 ∷ 1 ∷ 0 ∷ []) → ⊥
no_integer_is_00_01_00 number h = let few : 128 ≤ 1 = h.shortest.0 refl in omega arith

no_integer_is_an_octet_of_256 : (number : ℤ) → IsInteger number (256 ∷ []) → ⊥
no_integer_is_an_octet_of_256 number h = let low : 256 < 256 = h.below_256 0 0 (omega arith) in omega arith

-- OBJECT IDENTIFIER and RELATIVE-OID
subidentifier_3 : IsBase128 3 (3 ∷ [])
subidentifier_3 = record { digits = 3 ∷ []; below_128 = (All-cons (λ x. x < 128) 3 ([]) (omega arith) (All-nil (λ x. x < 128))); at_least_one = omega arith; no_leading_zero = λ h. omega arith; value = refl; spelt = refl }

subidentifier_80 : IsBase128 80 (80 ∷ [])
subidentifier_80 = record { digits = 80 ∷ []; below_128 = (All-cons (λ x. x < 128) 80 ([]) (omega arith) (All-nil (λ x. x < 128))); at_least_one = omega arith; no_leading_zero = λ h. omega arith; value = refl; spelt = refl }

subidentifier_120 : IsBase128 120 (120 ∷ [])
subidentifier_120 = record { digits = 120 ∷ []; below_128 = (All-cons (λ x. x < 128) 120 ([]) (omega arith) (All-nil (λ x. x < 128))); at_least_one = omega arith; no_leading_zero = λ h. omega arith; value = refl; spelt = refl }

subidentifier_180 : IsBase128 180 (129 ∷ 52 ∷ [])
subidentifier_180 = record { digits = 1 ∷ 52 ∷ []; below_128 = (All-cons (λ x. x < 128) 1 (52 ∷ []) (omega arith) (All-cons (λ x. x < 128) 52 ([]) (omega arith) (All-nil (λ x. x < 128)))); at_least_one = omega arith; no_leading_zero = λ h. omega arith; value = refl; spelt = refl }

subidentifier_1079 : IsBase128 1079 (136 ∷ 55 ∷ [])
subidentifier_1079 = record { digits = 8 ∷ 55 ∷ []; below_128 = (All-cons (λ x. x < 128) 8 (55 ∷ []) (omega arith) (All-cons (λ x. x < 128) 55 ([]) (omega arith) (All-nil (λ x. x < 128)))); at_least_one = omega arith; no_leading_zero = λ h. omega arith; value = refl; spelt = refl }

arcs_2_100_3 : IsOid (2 ∷ 100 ∷ 3 ∷ []) (129 ∷ 52 ∷ 3 ∷ [])
arcs_2_100_3 = record {
  numbers = 180 ∷ 3 ∷ [];
  of_arcs = record { first = 2; second = 100; others = 3 ∷ []; arcs_are = refl; at_most_2 = omega arith; at_most_39 = λ h. omega arith; numbers_are = refl };
  spelt = record { spellings = (129 ∷ 52 ∷ []) ∷ (3 ∷ []) ∷ []; each = (subidentifier_180, (subidentifier_3, tt)); joined = refl };
}

arcs_2_0 : IsOid (2 ∷ 0 ∷ []) (80 ∷ [])
arcs_2_0 = record {
  numbers = 80 ∷ [];
  of_arcs = record { first = 2; second = 0; others = []; arcs_are = refl; at_most_2 = omega arith; at_most_39 = λ h. omega arith; numbers_are = refl };
  spelt = record { spellings = (80 ∷ []) ∷ []; each = (subidentifier_80, tt); joined = refl };
}

arcs_2_40 : IsOid (2 ∷ 40 ∷ []) (120 ∷ [])
arcs_2_40 = record {
  numbers = 120 ∷ [];
  of_arcs = record { first = 2; second = 40; others = []; arcs_are = refl; at_most_2 = omega arith; at_most_39 = λ h. omega arith; numbers_are = refl };
  spelt = record { spellings = (120 ∷ []) ∷ []; each = (subidentifier_120, tt); joined = refl };
}

arcs_2_999_3 : IsOid (2 ∷ 999 ∷ 3 ∷ []) (136 ∷ 55 ∷ 3 ∷ [])
arcs_2_999_3 = record {
  numbers = 1079 ∷ 3 ∷ [];
  of_arcs = record { first = 2; second = 999; others = 3 ∷ []; arcs_are = refl; at_most_2 = omega arith; at_most_39 = λ h. omega arith; numbers_are = refl };
  spelt = record { spellings = (136 ∷ 55 ∷ []) ∷ (3 ∷ []) ∷ []; each = (subidentifier_1079, (subidentifier_3, tt)); joined = refl };
}

arcs_2_100_3_are_not_81_34 : IsOid (2 ∷ 100 ∷ 3 ∷ []) (129 ∷ 52 ∷ []) → ⊥
arcs_2_100_3_are_not_81_34 h = let same = one_oid_encoding (2 ∷ 100 ∷ 3 ∷ []) (129 ∷ 52 ∷ []) (129 ∷ 52 ∷ 3 ∷ []) h arcs_2_100_3 in cc

arcs_2_100_3_are_not_34_81_03 : IsOid (2 ∷ 100 ∷ 3 ∷ []) (52 ∷ 129 ∷ 3 ∷ []) → ⊥
arcs_2_100_3_are_not_34_81_03 h =
    let same = one_oid_encoding (2 ∷ 100 ∷ 3 ∷ []) (52 ∷ 129 ∷ 3 ∷ []) (129 ∷ 52 ∷ 3 ∷ []) h arcs_2_100_3 in
    cc

arcs_2_100_3_are_no_octet_of_180 : IsOid (2 ∷ 100 ∷ 3 ∷ []) (180 ∷ 3 ∷ []) → ⊥
arcs_2_100_3_are_no_octet_of_180 h = let same = one_oid_encoding (2 ∷ 100 ∷ 3 ∷ []) (180 ∷ 3 ∷ []) (129 ∷ 52 ∷ 3 ∷ []) h arcs_2_100_3 in cc

octets_50_are_not_1_40 : IsOid (1 ∷ 40 ∷ []) (80 ∷ []) → ⊥
octets_50_are_not_1_40 h =
    let same = one_oid_value (1 ∷ 40 ∷ []) (2 ∷ 0 ∷ []) (80 ∷ []) h arcs_2_0 in
    cc

octets_78_are_not_3_0 : IsOid (3 ∷ 0 ∷ []) (120 ∷ []) → ⊥
octets_78_are_not_3_0 h =
    let same = one_oid_value (3 ∷ 0 ∷ []) (2 ∷ 40 ∷ []) (120 ∷ []) h arcs_2_40 in
    cc

relative_arcs_180_3 : IsRelativeOid (180 ∷ 3 ∷ []) (129 ∷ 52 ∷ 3 ∷ [])
relative_arcs_180_3 = record {
  at_least_one = omega arith;
  spelt = record { spellings = (129 ∷ 52 ∷ []) ∷ (3 ∷ []) ∷ []; each = (subidentifier_180, (subidentifier_3, tt)); joined = refl };
}

-- the first arc is at most 2, and the second at most 39 below it
no_arcs_of : (arcs numbers : List ℕ) (first second : ℕ) (others : List ℕ) → arcs ≡ first ∷ second ∷ others → (first ≤ 2 → (first ≤ 1 → second ≤ 39) → ⊥) → AreOfArcs arcs numbers → ⊥
no_arcs_of arcs numbers first second others are none h =
    let whole : h.first ∷ h.second ∷ h.others ≡ first ∷ second ∷ others = sym h.arcs_are ∙ are in
    let same : h.first ≡ first = cc whole in
    let also : h.second ≡ second = cc whole in
    none (omega (arith, same, h.at_most_2)) (λ low. let few = h.at_most_39 (omega (arith, same, low)) in omega (arith, also, few))

no_value_1_40 : IsOidValue (1 ∷ 40 ∷ []) → ⊥
no_value_1_40 h = no_arcs_of (1 ∷ 40 ∷ []) h.numbers 1 40 [] refl (λ two few. let low : 40 ≤ 39 = few (omega arith) in omega arith) h.of_arcs

no_value_3_0 : IsOidValue (3 ∷ 0 ∷ []) → ⊥
no_value_3_0 h = no_arcs_of (3 ∷ 0 ∷ []) h.numbers 3 0 [] refl (λ two few. omega arith) h.of_arcs

no_value_2_alone : IsOidValue (2 ∷ []) → ⊥
no_value_2_alone h = let are = h.of_arcs.arcs_are in cc

no_value_of_no_arcs : IsOidValue [] → ⊥
no_value_of_no_arcs h = let are = h.of_arcs.arcs_are in cc

value_1_39 : IsOidValue (1 ∷ 39 ∷ [])
value_1_39 = record {
  numbers = 79 ∷ [];
  of_arcs = record { first = 1; second = 39; others = []; arcs_are = refl; at_most_2 = omega arith; at_most_39 = λ h. omega arith; numbers_are = refl };
  within = record { few = omega arith; below = All-cons (λ n. n < 2 ^ 128) 79 [] (omega arith) (All-nil (λ n. n < 2 ^ 128)) };
}

greatest_second_arc : IsOidValue (2 ∷ (2 ^ 128 - 81) ∷ [])
greatest_second_arc = record {
  numbers = (2 ^ 128 - 1) ∷ [];
  of_arcs = record { first = 2; second = 2 ^ 128 - 81; others = []; arcs_are = refl; at_most_2 = omega arith; at_most_39 = λ h. absurd (omega arith); numbers_are = refl };
  within = record { few = omega arith; below = All-cons (λ n. n < 2 ^ 128) (2 ^ 128 - 1) [] (omega arith) (All-nil (λ n. n < 2 ^ 128)) };
}

second_arc_too_great : IsOidValue (2 ∷ (2 ^ 128 - 80) ∷ []) → ⊥
second_arc_too_great h =
    let whole : h.of_arcs.first ∷ h.of_arcs.second ∷ h.of_arcs.others ≡ 2 ∷ (2 ^ 128 - 80) ∷ [] = sym h.of_arcs.arcs_are in
    let first : h.of_arcs.first ≡ 2 = cc whole in
    let second : h.of_arcs.second ≡ 2 ^ 128 - 80 = cc whole in
    let below = subst (All (λ n. n < 2 ^ 128)) h.of_arcs.numbers_are h.within.below in
    let low : 40 * h.of_arcs.first + h.of_arcs.second < 2 ^ 128 = below 0 0 (omega arith) in
    omega (arith, first, second, low)

-- 129 arcs are 128 subidentifiers
value_of_129_arcs : IsOidValue (1 ∷ 2 ∷ replicate 127 0)
value_of_129_arcs = record {
  numbers = 42 ∷ replicate 127 0;
  of_arcs = record { first = 1; second = 2; others = replicate 127 0; arcs_are = refl; at_most_2 = omega arith; at_most_39 = λ h. omega arith; numbers_are = refl };
  within = record {
    few = omega (arith, length-replicate {A = ℕ} 127 0);
    below = All-cons (λ n. n < 2 ^ 128) 42 (replicate 127 0) (omega arith) (All-replicate {X = ℕ} (λ n. n < 2 ^ 128) 127 0 (omega arith));
  };
}

no_value_of_130_arcs : (second : ℕ) (others : List ℕ) → length others ≡ 128 → IsOidValue (1 ∷ second ∷ others) → ⊥
no_value_of_130_arcs second others size h =
    let many = h.within.few in
    let arcs = ap length h.of_arcs.arcs_are in
    let numbers = ap length h.of_arcs.numbers_are in
    omega (arith, many, arcs, numbers)

relative_value_0 : IsRelativeOidValue (0 ∷ [])
relative_value_0 = record {
  at_least_one = omega arith;
  within = record { few = omega arith; below = All-cons (λ n. n < 2 ^ 128) 0 [] (omega arith) (All-nil (λ n. n < 2 ^ 128)) };
}

no_relative_value_of_no_arcs : IsRelativeOidValue [] → ⊥
no_relative_value_of_no_arcs h = let some = h.at_least_one in omega arith

no_relative_value_of_129_arcs : (arcs : List ℕ) → length arcs ≡ 129 → IsRelativeOidValue arcs → ⊥
no_relative_value_of_129_arcs arcs size h = omega (arith, h.within.few)

relative_arc_too_great : IsRelativeOidValue (2 ^ 128 ∷ []) → ⊥
relative_arc_too_great h = let low : 2 ^ 128 < 2 ^ 128 = h.within.below 0 0 (omega arith) in omega arith

-- BIT STRING
no_bits_are_00 : (rule : Rule) → IsBits rule [] (0 ∷ [])
no_bits_are_00 ber = record { unused = 0; octets = []; tail = []; contents_are = refl; at_most_7 = omega arith; below_256 = All-nil (λ x. x < 256); bits_are = refl; tail_is = refl; free = tt }
no_bits_are_00 cer = record { unused = 0; octets = []; tail = []; contents_are = refl; at_most_7 = omega arith; below_256 = All-nil (λ x. x < 256); bits_are = refl; tail_is = refl; free = All-nil (λ bit. bit ≡ false) }
no_bits_are_00 der = record { unused = 0; octets = []; tail = []; contents_are = refl; at_most_7 = omega arith; below_256 = All-nil (λ x. x < 256); bits_are = refl; tail_is = refl; free = All-nil (λ bit. bit ≡ false) }

eight_zeros : IsBits ber (replicate 8 false) (0 ∷ 0 ∷ [])
unfolding bits_of_octet
eight_zeros = record { unused = 0; octets = 0 ∷ []; tail = []; contents_are = refl; at_most_7 = omega arith; below_256 = (All-cons (λ x. x < 256) 0 ([]) (omega arith) (All-nil (λ x. x < 256))); bits_are = refl; tail_is = refl; free = tt }

eight_bits_are_00_F0 : IsBits ber (replicate 4 true ++ replicate 4 false) (0 ∷ 240 ∷ [])
unfolding bits_of_octet
eight_bits_are_00_F0 = record { unused = 0; octets = 240 ∷ []; tail = []; contents_are = refl; at_most_7 = omega arith; below_256 = (All-cons (λ x. x < 256) 240 ([]) (omega arith) (All-nil (λ x. x < 256))); bits_are = refl; tail_is = refl; free = tt }

no_bits_are_not_00_00 : IsBits ber [] (0 ∷ 0 ∷ []) → ⊥
no_bits_are_not_00_00 h =
    let same = one_bits_value ber ber [] (replicate 8 false) (0 ∷ 0 ∷ []) h eight_zeros in
    cc

no_bits_have_no_octets : (rule : Rule) (bits : List Bool) → IsBits rule bits [] → ⊥
no_bits_have_no_octets rule bits h = let are = h.contents_are in cc

no_unused_bits_of_no_octets : (rule : Rule) (bits : List Bool) (n : ℕ) → IsBits rule bits (suc n ∷ []) → ⊥
no_unused_bits_of_no_octets rule bits n h = let none = (CanBeUnused-from rule bits (suc n) [] h).none refl in omega arith

no_eight_unused_bits : (rule : Rule) (bits : List Bool) (octets : List ℕ) → IsBits rule bits (8 ∷ octets) → ⊥
no_eight_unused_bits rule bits octets h = let most = (CanBeUnused-from rule bits 8 octets h).at_most_7 in omega arith

four_ones_are_04_F0 : IsBits der (replicate 4 true) (4 ∷ 240 ∷ [])
unfolding bits_of_octet
four_ones_are_04_F0 = record { unused = 4; octets = 240 ∷ []; tail = replicate 4 false; contents_are = refl; at_most_7 = omega arith; below_256 = (All-cons (λ x. x < 256) 240 ([]) (omega arith) (All-nil (λ x. x < 256))); bits_are = refl; tail_is = refl; free = All-replicate (λ bit. bit ≡ false) 4 false refl }

four_ones_are_04_FF : IsBits ber (replicate 4 true) (4 ∷ 255 ∷ [])
unfolding bits_of_octet
four_ones_are_04_FF = record { unused = 4; octets = 255 ∷ []; tail = replicate 4 true; contents_are = refl; at_most_7 = omega arith; below_256 = (All-cons (λ x. x < 256) 255 ([]) (omega arith) (All-nil (λ x. x < 256))); bits_are = refl; tail_is = refl; free = tt }

four_ones_are_04_FF_in_ber_alone : (rule : Rule) → IsCanonical rule → IsBits rule (replicate 4 true) (4 ∷ 255 ∷ []) → ⊥
four_ones_are_04_FF_in_ber_alone rule canonical h =
    let same = one_canonical_bits rule der (replicate 4 true) (4 ∷ 255 ∷ []) (4 ∷ 240 ∷ []) canonical der_is_canonical h four_ones_are_04_F0 in
    not_same 240 255 (omega arith) (ap (λ t. get_or t 1 0) (sym same))

four_zeros_are_04_0F : IsBits ber (replicate 4 false) (4 ∷ 15 ∷ [])
unfolding bits_of_octet
four_zeros_are_04_0F = record { unused = 4; octets = 15 ∷ []; tail = replicate 4 true; contents_are = refl; at_most_7 = omega arith; below_256 = (All-cons (λ x. x < 256) 15 ([]) (omega arith) (All-nil (λ x. x < 256))); bits_are = refl; tail_is = refl; free = tt }

four_ones_are_not_04_0F : IsBits ber (replicate 4 true) (4 ∷ 15 ∷ []) → ⊥
four_ones_are_not_04_0F h = let same = one_bits_value ber ber (replicate 4 true) (replicate 4 false) (4 ∷ 15 ∷ []) h four_zeros_are_04_0F in cc

four_ones_are_not_00_F0 : IsBits ber (replicate 4 true) (0 ∷ 240 ∷ []) → ⊥
four_ones_are_not_00_F0 h = let same = one_bits_value ber ber (replicate 4 true) (replicate 4 true ++ replicate 4 false) (0 ∷ 240 ∷ []) h eight_bits_are_00_F0 in cc

nine_ones_are_07_FF_80 : IsBits der (replicate 9 true) (7 ∷ 255 ∷ 128 ∷ [])
unfolding bits_of_octet
nine_ones_are_07_FF_80 = record { unused = 7; octets = 255 ∷ 128 ∷ []; tail = replicate 7 false; contents_are = refl; at_most_7 = omega arith; below_256 = (All-cons (λ x. x < 256) 255 (128 ∷ []) (omega arith) (All-cons (λ x. x < 256) 128 ([]) (omega arith) (All-nil (λ x. x < 256)))); bits_are = refl; tail_is = refl; free = All-replicate (λ bit. bit ≡ false) 7 false refl }

nine_ones_are_07_FF_FF : IsBits ber (replicate 9 true) (7 ∷ 255 ∷ 255 ∷ [])
unfolding bits_of_octet
nine_ones_are_07_FF_FF = record { unused = 7; octets = 255 ∷ 255 ∷ []; tail = replicate 7 true; contents_are = refl; at_most_7 = omega arith; below_256 = (All-cons (λ x. x < 256) 255 (255 ∷ []) (omega arith) (All-cons (λ x. x < 256) 255 ([]) (omega arith) (All-nil (λ x. x < 256)))); bits_are = refl; tail_is = refl; free = tt }

no_bits_are_trimmed : IsTrimmed []
no_bits_are_trimmed = inl refl

bits_101_are_trimmed : IsTrimmed (true ∷ false ∷ true ∷ [])
bits_101_are_trimmed = inr (true ∷ false ∷ [], refl)

bits_1010_are_not_trimmed : IsTrimmed (true ∷ false ∷ true ∷ false ∷ []) → ⊥
bits_1010_are_not_trimmed h =
    let one : false ≡ true = last-from_IsTrimmed (true ∷ false ∷ true ∷ false ∷ []) (omega arith) h in
    cc

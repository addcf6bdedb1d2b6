-- Values that conform to a type, and some that do not.
use Rattle.std.proofs.Common.{◌≡◌, ◌<◌, ◌^◌, ℕ, List, [], ◌∷◌, refl, arith, true, pos, negsuc}
use Rattle.std.proofs.lemmas.Int.{ints}
use Rattle.std.proofs.lemmas.List.Elements.{All-nil, All-cons}
use Rattle.primitives.specs.Oid.{AreWithinLimits}
use Rattle.types.specs.Shape.{SimpleType, StringType, Shape, SimpleValue, StringValue, Val, no_slot, absent, present, no_item, item}
use Rattle.types.specs.Conforms.{Conforms}
use Rattle.types.proofs.FormInstances.{universal}
use Rattle.types.proofs.LeafInstances.{integer, enumerated, truth, number, nothing}
use Rattle.types.proofs.TypeInstances.{explicit_integer, null_or_boolean, default_first, set_of_integer}
use Rattle.types.proofs.SameInstances.{three_items}

-- SEQUENCE { a INTEGER DEFAULT 1, b BOOLEAN } has (absent, TRUE) and (2, TRUE)
absent_true : Conforms default_first (Val.fields (absent (present (truth true) no_slot)))
absent_true = (tt, (tt, tt, tt))

two_true : Conforms default_first (Val.fields (present (number (pos 2)) (present (truth true) no_slot)))
two_true = (omega (arith, ints), (λ same. cc), (tt, tt, tt))

-- and not (1, TRUE), (absent, absent), (absent), (absent, TRUE, absent) or (TRUE, 2)
one_true : Conforms default_first (Val.fields (present (number (pos 1)) (present (truth true) no_slot))) → ⊥
one_true h = h.1 refl

both_absent : Conforms default_first (Val.fields (absent (absent no_slot))) → ⊥
both_absent h = h.1.0

too_few : Conforms default_first (Val.fields (absent no_slot)) → ⊥
too_few h = h.1

too_many : Conforms default_first (Val.fields (absent (present (truth true) (absent no_slot)))) → ⊥
too_many h = h.1.2

turned : Conforms default_first (Val.fields (present (truth true) (present (number (pos 2)) no_slot))) → ⊥
turned h = h.0

-- a value stands under an explicit tag as it is, with no layer around it
five : Conforms explicit_integer (number (pos 5))
five = omega (arith, ints)

five_chosen : Conforms explicit_integer (Val.chosen 0 (number (pos 5))) → ⊥
five_chosen h = h

-- CHOICE { a NULL, b BOOLEAN } has a : NULL and b : TRUE, and neither a : TRUE nor a third alternative
first_null : Conforms null_or_boolean (Val.chosen 0 nothing)
first_null = tt

second_true : Conforms null_or_boolean (Val.chosen 1 (truth true))
second_true = tt

first_true : Conforms null_or_boolean (Val.chosen 0 (truth true)) → ⊥
first_true h = h

third_null : Conforms null_or_boolean (Val.chosen 2 nothing) → ⊥
third_null h = h

-- SET OF INTEGER has no items, and 5, 3, 5 in any order, and no TRUE first or last
no_items : Conforms set_of_integer (Val.items no_item)
no_items = tt

five_three_five : Conforms set_of_integer (Val.items (three_items 5 3 5))
five_three_five = (omega (arith, ints), (omega (arith, ints), (omega (arith, ints), tt)))

three_five_five : Conforms set_of_integer (Val.items (three_items 3 5 5))
three_five_five = (omega (arith, ints), (omega (arith, ints), (omega (arith, ints), tt)))

true_last : Conforms set_of_integer (Val.items (item (number (pos 5)) (item (truth true) no_item))) → ⊥
true_last h = h.1.0

true_first : Conforms set_of_integer (Val.items (item (truth true) (item (number (pos 5)) no_item))) → ⊥
true_first h = h.0

-- INTEGER has -2^127 and 2^127 - 1, and not the numbers beyond
greatest : Conforms integer (number (pos 170_141_183_460_469_231_731_687_303_715_884_105_727))
greatest = omega (arith, ints)

least : Conforms integer (number (negsuc 170_141_183_460_469_231_731_687_303_715_884_105_727))
least = omega (arith, ints)

too_great : Conforms integer (number (pos 170_141_183_460_469_231_731_687_303_715_884_105_728)) → ⊥
too_great h = omega (arith, ints, h)

too_low : Conforms integer (number (negsuc 170_141_183_460_469_231_731_687_303_715_884_105_728)) → ⊥
too_low h = omega (arith, ints, h)

-- 3 is a number of an ENUMERATED with 1 and 3, and not as an INTEGER value
not_enumerated : Conforms enumerated (number (pos 3)) → ⊥
not_enumerated h = h

-- an octet is below 256
no_octet : Conforms (Shape.string (universal 4) StringType.octet_string) (Val.string (StringValue.octets (256 ∷ []))) → ⊥
no_octet h = let below : 256 < 256 = h 0 0 (omega arith) in omega arith

-- OBJECT IDENTIFIER has 1.39 and 2.40, and not 1.40, 3.0, 2 alone or no arcs
abbrev arcs : List ℕ → Val
arcs numbers = Val.simple (SimpleValue.oid numbers)

abbrev oid : Shape
oid = Shape.simple (universal 6) SimpleType.oid

one_within : (n : ℕ) → n < 2 ^ 128 → AreWithinLimits (n ∷ [])
one_within n below = record { few = omega arith; below = All-cons (λ m. m < 2 ^ 128) n [] below (All-nil (λ m. m < 2 ^ 128)) }

one_39 : Conforms oid (arcs (1 ∷ 39 ∷ []))
one_39 = record { numbers = 79 ∷ []; of_arcs = record { first = 1; second = 39; others = []; arcs_are = refl; at_most_2 = omega arith; at_most_39 = λ low. omega arith; numbers_are = refl }; within = one_within 79 (omega arith) }

two_40 : Conforms oid (arcs (2 ∷ 40 ∷ []))
two_40 = record { numbers = 120 ∷ []; of_arcs = record { first = 2; second = 40; others = []; arcs_are = refl; at_most_2 = omega arith; at_most_39 = λ low. absurd (omega (arith, low)); numbers_are = refl }; within = one_within 120 (omega arith) }

one_40 : Conforms oid (arcs (1 ∷ 40 ∷ [])) → ⊥
one_40 h =
    let first : 1 ≡ h.of_arcs.first = cc h.of_arcs.arcs_are in
    let second : 40 ≡ h.of_arcs.second = cc h.of_arcs.arcs_are in
    absurd (omega (arith, second, h.of_arcs.at_most_39 (omega (arith, first))))

three_0 : Conforms oid (arcs (3 ∷ 0 ∷ [])) → ⊥
three_0 h =
    let first : 3 ≡ h.of_arcs.first = cc h.of_arcs.arcs_are in
    absurd (omega (arith, first, h.of_arcs.at_most_2))

two_alone : Conforms oid (arcs (2 ∷ [])) → ⊥
two_alone h = let same = h.of_arcs.arcs_are in cc

no_arcs : Conforms oid (arcs []) → ⊥
no_arcs h = let same = h.of_arcs.arcs_are in cc

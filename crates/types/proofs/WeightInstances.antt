-- What some values weigh.
use Rattle.std.proofs.Common.{◌≡◌, ℕ, zero, suc, [], ◌∷◌, refl, arith, true, pos}
use Rattle.types.specs.Shape.{SimpleValue, StringValue, Val, Slots, no_slot, absent, present, no_item, item}
use Rattle.types.specs.Weight.{weight_of, weight_of_slots}
use Rattle.types.proofs.LeafInstances.{truth, number, nothing}
use Rattle.types.proofs.SameInstances.{three_items}

-- one each: TRUE, 5, NULL, no octets and no bits
of_true : weight_of (truth true) ≡ 1
of_true = refl

of_5 : weight_of (number (pos 5)) ≡ 1
of_5 = refl

of_null : weight_of nothing ≡ 1
of_null = refl

of_no_octets : weight_of (Val.string (StringValue.octets [])) ≡ 1
of_no_octets = refl

of_no_bits : weight_of (Val.string (StringValue.bits [])) ≡ 1
of_no_bits = refl

-- one more for each arc, each octet, and each octet that holds bits
of_2_100_3 : weight_of (Val.simple (SimpleValue.oid (2 ∷ 100 ∷ 3 ∷ []))) ≡ 4
of_2_100_3 = refl

of_0A_0B : weight_of (Val.string (StringValue.octets (0x0A ∷ 0x0B ∷ []))) ≡ 3
of_0A_0B = refl

of_jones : weight_of (Val.string (StringValue.text (0x4A ∷ 0x6F ∷ 0x6E ∷ 0x65 ∷ 0x73 ∷ []))) ≡ 6
of_jones = refl

of_nine_bits : weight_of (Val.string (StringValue.bits (true ∷ true ∷ true ∷ true ∷ true ∷ true ∷ true ∷ true ∷ true ∷ []))) ≡ 3
of_nine_bits = refl

-- (), (absent, TRUE), 256 absent slots
of_no_slots : weight_of (Val.fields no_slot) ≡ 1
of_no_slots = refl

of_absent_true : weight_of (Val.fields (absent (present (truth true) no_slot))) ≡ 4
of_absent_true = refl

absents : ℕ → Slots
absents zero = no_slot
absents (suc n) = absent (absents n)

of_absents : (n : ℕ) → weight_of_slots (absents n) ≡ n
unfolding absents
of_absents zero = refl
of_absents (suc n) = omega (arith, of_absents n)

of_256_absent : weight_of (Val.fields (absents 256)) ≡ 257
of_256_absent = omega (arith, of_absents 256)

-- the items 5, 3, 5, and two items that are each ()
of_5_3_5 : weight_of (Val.items (three_items 5 3 5)) ≡ 7
of_5_3_5 = refl

of_two_empty : weight_of (Val.items (item (Val.fields no_slot) (item (Val.fields no_slot) no_item))) ≡ 5
of_two_empty = refl

-- a chosen alternative, once and twice; an explicit tag is no part of the value
of_chosen : weight_of (Val.chosen 0 nothing) ≡ 2
of_chosen = refl

of_chosen_twice : weight_of (Val.chosen 0 (Val.chosen 0 nothing)) ≡ 3
of_chosen_twice = refl

-- Encodings of a SEQUENCE with a default under each rule: an absent component may be spelt out under BER alone (X.690 11.5).
use Rattle.std.proofs.Common.{ℕ, List, [], ◌∷◌, Some, None, inl, length, refl, ap, arith, true, pos}
use Rattle.octets.specs.declared.tag.Class.TheVariants.{Universal}
use Rattle.octets.specs.Rule.{Rule, ber, cer, der}
use Rattle.octets.proofs.RuleLemmas.{cer_is_canonical, der_is_canonical}
use Rattle.types.specs.Shape.{Val, Slots, no_slot, absent, present}
use Rattle.types.specs.Encoding.{IsEncoding}
use Rattle.types.proofs.EncodedLemmas.{encoded_conforms}
use Rattle.types.proofs.FormInstances.{not_same, definite, indefinite}
use Rattle.types.proofs.LeafInstances.{truth, number, true_FF, small, small_81}
use Rattle.types.proofs.TypeInstances.{default_first, well_formed_default}
use Rattle.types.proofs.ApartInstances.{of_another, in_other_octets}

-- SEQUENCE { a INTEGER DEFAULT 1, b BOOLEAN } and its value (absent, TRUE)
abbrev slots : Slots
slots = absent (present (truth true) no_slot)

abbrev absent_true : Val
absent_true = Val.fields slots

-- 30 03 01 01 FF in DER and 30 80 01 01 FF 00 00 in CER
absent-der : IsEncoding der default_first absent_true (0x30 ∷ 0x03 ∷ 0x01 ∷ 0x01 ∷ 0xFF ∷ [])
absent-der = record { slots = slots; is = refl; encodings = None ∷ Some (0x01 ∷ 0x01 ∷ 0xFF ∷ []) ∷ []; each = (refl, (true_FF der, tt, tt)); whole = definite der Universal 16 true (0x01 ∷ 0x01 ∷ 0xFF ∷ []) (omega arith) (omega arith) }

absent-cer : IsEncoding cer default_first absent_true (0x30 ∷ 0x80 ∷ 0x01 ∷ 0x01 ∷ 0xFF ∷ 0x00 ∷ 0x00 ∷ [])
absent-cer = record { slots = slots; is = refl; encodings = None ∷ Some (0x01 ∷ 0x01 ∷ 0xFF ∷ []) ∷ []; each = (refl, (true_FF cer, tt, tt)); whole = indefinite Universal 16 (0x01 ∷ 0x01 ∷ 0xFF ∷ []) (omega arith) }

-- in BER the first of these, and 30 06 02 01 01 01 01 FF and 30 07 02 81 01 01 01 01 FF, where the 1 is spelt out
absent-ber : IsEncoding ber default_first absent_true (0x30 ∷ 0x03 ∷ 0x01 ∷ 0x01 ∷ 0xFF ∷ [])
absent-ber = record { slots = slots; is = refl; encodings = None ∷ Some (0x01 ∷ 0x01 ∷ 0xFF ∷ []) ∷ []; each = (tt, (true_FF ber, tt, tt)); whole = inl (definite ber Universal 16 true (0x01 ∷ 0x01 ∷ 0xFF ∷ []) (omega arith) (omega arith)) }

spelt_out : IsEncoding ber default_first absent_true (0x30 ∷ 0x06 ∷ 0x02 ∷ 0x01 ∷ 0x01 ∷ 0x01 ∷ 0x01 ∷ 0xFF ∷ [])
spelt_out = record {
  slots = slots;
  is = refl;
  encodings = Some (0x02 ∷ 0x01 ∷ 0x01 ∷ []) ∷ Some (0x01 ∷ 0x01 ∷ 0xFF ∷ []) ∷ [];
  each = (small ber 1 (omega arith) refl, (true_FF ber, tt, tt));
  whole = inl (definite ber Universal 16 true (0x02 ∷ 0x01 ∷ 0x01 ∷ 0x01 ∷ 0x01 ∷ 0xFF ∷ []) (omega arith) (omega arith));
}

spelt_out-long : IsEncoding ber default_first absent_true (0x30 ∷ 0x07 ∷ 0x02 ∷ 0x81 ∷ 0x01 ∷ 0x01 ∷ 0x01 ∷ 0x01 ∷ 0xFF ∷ [])
spelt_out-long = record {
  slots = slots;
  is = refl;
  encodings = Some (0x02 ∷ 0x81 ∷ 0x01 ∷ 0x01 ∷ []) ∷ Some (0x01 ∷ 0x01 ∷ 0xFF ∷ []) ∷ [];
  each = (small_81 1 (omega arith) refl, (true_FF ber, tt, tt));
  whole = inl (definite ber Universal 16 true (0x02 ∷ 0x81 ∷ 0x01 ∷ 0x01 ∷ 0x01 ∷ 0x01 ∷ 0xFF ∷ []) (omega arith) (omega arith));
}

-- but not in DER, and in the indefinite form not in CER
spelt_out-der : IsEncoding der default_first absent_true (0x30 ∷ 0x06 ∷ 0x02 ∷ 0x01 ∷ 0x01 ∷ 0x01 ∷ 0x01 ∷ 0xFF ∷ []) → ⊥
spelt_out-der h =
    in_other_octets der default_first absent_true (0x30 ∷ 0x03 ∷ 0x01 ∷ 0x01 ∷ 0xFF ∷ []) (0x30 ∷ 0x06 ∷ 0x02 ∷ 0x01 ∷ 0x01 ∷ 0x01 ∷ 0x01 ∷ 0xFF ∷ []) well_formed_default der_is_canonical absent-der
    (λ same. not_same 5 8 (omega arith) (ap length same)) h

spelt_out-cer : IsEncoding cer default_first absent_true (0x30 ∷ 0x80 ∷ 0x02 ∷ 0x01 ∷ 0x01 ∷ 0x01 ∷ 0x01 ∷ 0xFF ∷ 0x00 ∷ 0x00 ∷ []) → ⊥
spelt_out-cer h =
    in_other_octets cer default_first absent_true (0x30 ∷ 0x80 ∷ 0x01 ∷ 0x01 ∷ 0xFF ∷ 0x00 ∷ 0x00 ∷ []) (0x30 ∷ 0x80 ∷ 0x02 ∷ 0x01 ∷ 0x01 ∷ 0x01 ∷ 0x01 ∷ 0xFF ∷ 0x00 ∷ 0x00 ∷ []) well_formed_default cer_is_canonical absent-cer
    (λ same. not_same 7 10 (omega arith) (ap length same)) h

-- 30 06 02 01 02 01 01 FF is (2, TRUE), and so not (absent, TRUE)
abbrev two_true : Val
two_true = Val.fields (present (number (pos 2)) (present (truth true) no_slot))

two-ber : IsEncoding ber default_first two_true (0x30 ∷ 0x06 ∷ 0x02 ∷ 0x01 ∷ 0x02 ∷ 0x01 ∷ 0x01 ∷ 0xFF ∷ [])
two-ber = record {
  slots = present (number (pos 2)) (present (truth true) no_slot);
  is = refl;
  encodings = Some (0x02 ∷ 0x01 ∷ 0x02 ∷ []) ∷ Some (0x01 ∷ 0x01 ∷ 0xFF ∷ []) ∷ [];
  each = (small ber 2 (omega arith) refl, (λ same. cc), (true_FF ber, tt, tt));
  whole = inl (definite ber Universal 16 true (0x02 ∷ 0x01 ∷ 0x02 ∷ 0x01 ∷ 0x01 ∷ 0xFF ∷ []) (omega arith) (omega arith));
}

absent-two : (rule : Rule) → IsEncoding rule default_first absent_true (0x30 ∷ 0x06 ∷ 0x02 ∷ 0x01 ∷ 0x02 ∷ 0x01 ∷ 0x01 ∷ 0xFF ∷ []) → ⊥
absent-two rule h = of_another rule default_first absent_true two_true (0x30 ∷ 0x06 ∷ 0x02 ∷ 0x01 ∷ 0x02 ∷ 0x01 ∷ 0x01 ∷ 0xFF ∷ []) well_formed_default two-ber (λ same. same) h

-- (1, TRUE) does not conform, and has no encoding under any rule
present_default : (rule : Rule) (octets : List ℕ) → IsEncoding rule default_first (Val.fields (present (number (pos 1)) (present (truth true) no_slot))) octets → ⊥
present_default rule octets h = (encoded_conforms rule default_first (Val.fields (present (number (pos 1)) (present (truth true) no_slot))) octets h).1 refl

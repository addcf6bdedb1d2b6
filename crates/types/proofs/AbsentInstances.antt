-- Encodings of values with absent components under each rule, and of a SEQUENCE under another tag (X.690 8.9, 8.11, 8.14 and 11.5).
use Rattle.std.proofs.Common.{[], ◌∷◌, Some, None, inl, inr, refl, arith, true, false, pos}
use Rattle.std.specs.List.{concat}
use Rattle.std.proofs.lemmas.List.Sorted.{IsPermutation-refl}
use Rattle.octets.specs.declared.tag.Class.TheVariants.{Universal, Context}
use Rattle.octets.specs.Rule.{Rule, ber, cer, der}
use Rattle.types.specs.Shape.{Shape, Val, Slots, no_slot, absent, present, required, optional, default, no_component, component}
use Rattle.types.specs.WellFormed.{IsWellFormed}
use Rattle.types.specs.Encoding.{IsEncoding, standing}
use Rattle.types.proofs.FormInstances.{universal, context, usable_universal, usable_context, definite, indefinite}
use Rattle.types.proofs.LeafInstances.{boolean, integer, null, truth, number, nothing, true_any, false_00, small, null_00}
use Rattle.types.proofs.TypeInstances.{a, b, one_differs}
use Rattle.types.proofs.ApartInstances.{of_another, not_primitive}

-- SEQUENCE { a NULL OPTIONAL }: (absent) is 30 00 in DER and 30 80 00 00 in CER, and 30 02 05 00 is (NULL)
abbrev perhaps_null : Shape
perhaps_null = Shape.sequence (universal 16) (component a (null (universal 5)) optional no_component)

well_formed_perhaps : IsWellFormed perhaps_null
well_formed_perhaps = record {
  limits = record { nodes = omega arith; levels = omega arith; each = ((omega arith, omega arith), ((omega arith, tt), tt)) };
  tags = ((usable_universal 16 (omega arith), (one_differs (universal 5), tt)), (usable_universal 5 (omega arith), tt));
  numbers = (tt, (tt, tt));
  defaults = ((tt, tt), (tt, tt));
}

absent-der : IsEncoding der perhaps_null (Val.fields (absent no_slot)) (0x30 ∷ 0x00 ∷ [])
absent-der = record { slots = absent no_slot; is = refl; encodings = None ∷ []; each = (refl, tt); whole = definite der Universal 16 true [] (omega arith) (omega arith) }

absent-cer : IsEncoding cer perhaps_null (Val.fields (absent no_slot)) (0x30 ∷ 0x80 ∷ 0x00 ∷ 0x00 ∷ [])
absent-cer = record { slots = absent no_slot; is = refl; encodings = None ∷ []; each = (refl, tt); whole = indefinite Universal 16 [] (omega arith) }

present-ber : IsEncoding ber perhaps_null (Val.fields (present nothing no_slot)) (0x30 ∷ 0x02 ∷ 0x05 ∷ 0x00 ∷ [])
present-ber = record { slots = present nothing no_slot; is = refl; encodings = Some (0x05 ∷ 0x00 ∷ []) ∷ []; each = (null_00 ber Universal 5 (omega arith), tt, tt); whole = inl (definite ber Universal 16 true (0x05 ∷ 0x00 ∷ []) (omega arith) (omega arith)) }

absent-null : (rule : Rule) → IsEncoding rule perhaps_null (Val.fields (absent no_slot)) (0x30 ∷ 0x02 ∷ 0x05 ∷ 0x00 ∷ []) → ⊥
absent-null rule h = of_another rule perhaps_null (Val.fields (absent no_slot)) (Val.fields (present nothing no_slot)) (0x30 ∷ 0x02 ∷ 0x05 ∷ 0x00 ∷ []) well_formed_perhaps present-ber (λ same. same) h

-- SEQUENCE { a [0] EXPLICIT BOOLEAN DEFAULT TRUE }: in BER each encoding of TRUE spells the default out, 30 05 A0 03 01 01 2A and
-- 30 80 A0 80 01 01 2A 00 00 00 00
abbrev true_by_default : Shape
true_by_default = Shape.sequence (universal 16) (component a (Shape.explicit (context 0) boolean) (default (truth true)) no_component)

well_formed_by_default : IsWellFormed true_by_default
well_formed_by_default = record {
  limits = record { nodes = omega arith; levels = omega arith; each = ((omega arith, omega arith), (omega arith, ((omega arith, tt), tt))) };
  tags = ((usable_universal 16 (omega arith), (one_differs (context 0), tt)), (usable_context 0, (usable_universal 1 (omega arith), tt)));
  numbers = (tt, (tt, (tt, tt)));
  defaults = (((tt, tt, tt), tt), (tt, (tt, tt)));
}

default-der : IsEncoding der true_by_default (Val.fields (absent no_slot)) (0x30 ∷ 0x00 ∷ [])
default-der = record { slots = absent no_slot; is = refl; encodings = None ∷ []; each = (refl, tt); whole = definite der Universal 16 true [] (omega arith) (omega arith) }

default-cer : IsEncoding cer true_by_default (Val.fields (absent no_slot)) (0x30 ∷ 0x80 ∷ 0x00 ∷ 0x00 ∷ [])
default-cer = record { slots = absent no_slot; is = refl; encodings = None ∷ []; each = (refl, tt); whole = indefinite Universal 16 [] (omega arith) }

default-2A : IsEncoding ber true_by_default (Val.fields (absent no_slot)) (0x30 ∷ 0x05 ∷ 0xA0 ∷ 0x03 ∷ 0x01 ∷ 0x01 ∷ 0x2A ∷ [])
default-2A = record {
  slots = absent no_slot;
  is = refl;
  encodings = Some (0xA0 ∷ 0x03 ∷ 0x01 ∷ 0x01 ∷ 0x2A ∷ []) ∷ [];
  each = (record { inner = 0x01 ∷ 0x01 ∷ 0x2A ∷ []; encodes = true_any 0x2A (omega arith) (omega arith); whole = inl (definite ber Context 0 true (0x01 ∷ 0x01 ∷ 0x2A ∷ []) (omega arith) (omega arith)) }, tt);
  whole = inl (definite ber Universal 16 true (0xA0 ∷ 0x03 ∷ 0x01 ∷ 0x01 ∷ 0x2A ∷ []) (omega arith) (omega arith));
}

default-indefinite : IsEncoding ber true_by_default (Val.fields (absent no_slot)) (0x30 ∷ 0x80 ∷ 0xA0 ∷ 0x80 ∷ 0x01 ∷ 0x01 ∷ 0x2A ∷ 0x00 ∷ 0x00 ∷ 0x00 ∷ 0x00 ∷ [])
default-indefinite = record {
  slots = absent no_slot;
  is = refl;
  encodings = Some (0xA0 ∷ 0x80 ∷ 0x01 ∷ 0x01 ∷ 0x2A ∷ 0x00 ∷ 0x00 ∷ []) ∷ [];
  each = (record { inner = 0x01 ∷ 0x01 ∷ 0x2A ∷ []; encodes = true_any 0x2A (omega arith) (omega arith); whole = inr (indefinite Context 0 (0x01 ∷ 0x01 ∷ 0x2A ∷ []) (omega arith)) }, tt);
  whole = inr (indefinite Universal 16 (0xA0 ∷ 0x80 ∷ 0x01 ∷ 0x01 ∷ 0x2A ∷ 0x00 ∷ 0x00 ∷ []) (omega arith));
}

-- 30 05 A0 03 01 01 00 is (FALSE)
false-ber : IsEncoding ber true_by_default (Val.fields (present (truth false) no_slot)) (0x30 ∷ 0x05 ∷ 0xA0 ∷ 0x03 ∷ 0x01 ∷ 0x01 ∷ 0x00 ∷ [])
false-ber = record {
  slots = present (truth false) no_slot;
  is = refl;
  encodings = Some (0xA0 ∷ 0x03 ∷ 0x01 ∷ 0x01 ∷ 0x00 ∷ []) ∷ [];
  each = (record { inner = 0x01 ∷ 0x01 ∷ 0x00 ∷ []; encodes = false_00 ber; whole = inl (definite ber Context 0 true (0x01 ∷ 0x01 ∷ 0x00 ∷ []) (omega arith) (omega arith)) }, (λ same. cc), tt);
  whole = inl (definite ber Universal 16 true (0xA0 ∷ 0x03 ∷ 0x01 ∷ 0x01 ∷ 0x00 ∷ []) (omega arith) (omega arith));
}

default-false : (rule : Rule) → IsEncoding rule true_by_default (Val.fields (absent no_slot)) (0x30 ∷ 0x05 ∷ 0xA0 ∷ 0x03 ∷ 0x01 ∷ 0x01 ∷ 0x00 ∷ []) → ⊥
default-false rule h =
    of_another rule true_by_default (Val.fields (absent no_slot)) (Val.fields (present (truth false) no_slot)) (0x30 ∷ 0x05 ∷ 0xA0 ∷ 0x03 ∷ 0x01 ∷ 0x01 ∷ 0x00 ∷ []) well_formed_by_default false-ber (λ same. same) h

-- SET { a INTEGER DEFAULT 1, b BOOLEAN OPTIONAL }: (absent, absent) is 31 00 in DER, 31 80 00 00 in CER, and 31 03 02 01 01 too in BER
abbrev perhaps_both : Shape
perhaps_both = Shape.set (universal 17) (component a integer (default (number (pos 1))) (component b boolean optional no_component))

abbrev neither : Slots
neither = absent (absent no_slot)

neither-der : IsEncoding der perhaps_both (Val.fields neither) (0x31 ∷ 0x00 ∷ [])
neither-der = record { slots = neither; is = refl; encodings = None ∷ None ∷ []; each = (refl, (refl, tt)); order = []; permutes = IsPermutation-refl []; ascends = λ canonical i j d less below. absurd (omega (arith, below)); whole = definite der Universal 17 true [] (omega arith) (omega arith) }

neither-cer : IsEncoding cer perhaps_both (Val.fields neither) (0x31 ∷ 0x80 ∷ 0x00 ∷ 0x00 ∷ [])
neither-cer = record { slots = neither; is = refl; encodings = None ∷ None ∷ []; each = (refl, (refl, tt)); order = []; permutes = IsPermutation-refl []; ascends = λ canonical i j d less below. absurd (omega (arith, below)); whole = indefinite Universal 17 [] (omega arith) }

neither-ber : IsEncoding ber perhaps_both (Val.fields neither) (0x31 ∷ 0x03 ∷ 0x02 ∷ 0x01 ∷ 0x01 ∷ [])
neither-ber = record {
  slots = neither;
  is = refl;
  encodings = Some (0x02 ∷ 0x01 ∷ 0x01 ∷ []) ∷ None ∷ [];
  each = (small ber 1 (omega arith) refl, (refl, tt));
  order = (0x02 ∷ 0x01 ∷ 0x01 ∷ []) ∷ [];
  permutes = IsPermutation-refl ((0x02 ∷ 0x01 ∷ 0x01 ∷ []) ∷ []);
  ascends = λ canonical. absurd (canonical refl);
  whole = inl (definite ber Universal 17 true (0x02 ∷ 0x01 ∷ 0x01 ∷ []) (omega arith) (omega arith));
}

-- [1] IMPLICIT SEQUENCE { a NULL } is A1 02 05 00 in DER and A1 80 05 00 00 00 in CER: the form stays, and no SEQUENCE stands within
abbrev implicit_sequence : Shape
implicit_sequence = Shape.sequence (context 1) (component a (null (universal 5)) required no_component)

implicit-der : IsEncoding der implicit_sequence (Val.fields (present nothing no_slot)) (0xA1 ∷ 0x02 ∷ 0x05 ∷ 0x00 ∷ [])
implicit-der = record { slots = present nothing no_slot; is = refl; encodings = Some (0x05 ∷ 0x00 ∷ []) ∷ []; each = (null_00 der Universal 5 (omega arith), tt, tt); whole = definite der Context 1 true (0x05 ∷ 0x00 ∷ []) (omega arith) (omega arith) }

implicit-cer : IsEncoding cer implicit_sequence (Val.fields (present nothing no_slot)) (0xA1 ∷ 0x80 ∷ 0x05 ∷ 0x00 ∷ 0x00 ∷ 0x00 ∷ [])
implicit-cer = record { slots = present nothing no_slot; is = refl; encodings = Some (0x05 ∷ 0x00 ∷ []) ∷ []; each = (null_00 cer Universal 5 (omega arith), tt, tt); whole = indefinite Context 1 (0x05 ∷ 0x00 ∷ []) (omega arith) }

implicit-primitive : (rule : Rule) (v : Val) → IsEncoding rule implicit_sequence v (0x81 ∷ 0x02 ∷ 0x05 ∷ 0x00 ∷ []) → ⊥
implicit-primitive rule v h = not_primitive rule (context 1) (concat (standing h.encodings)) (0x05 ∷ 0x00 ∷ []) (0x81 ∷ 0x02 ∷ 0x05 ∷ 0x00 ∷ []) h.whole (definite ber Context 1 false (0x05 ∷ 0x00 ∷ []) (omega arith) (omega arith))

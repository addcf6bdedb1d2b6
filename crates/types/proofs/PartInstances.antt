-- Encodings of explicit tags and of a CHOICE under each rule, and octets that are none (X.690 8.13 and 8.14).
use Rattle.std.proofs.Common.{◌≡◌, ℕ, List, [], ◌∷◌, inl, inr, refl, sym, subst, arith, true, false, pos}
use Rattle.octets.specs.declared.tag.Class.TheVariants.{Universal, Context}
use Rattle.octets.specs.Rule.{Rule, ber, cer, der}
use Rattle.types.specs.Shape.{Val}
use Rattle.types.specs.Encoding.{IsEncoding}
use Rattle.types.proofs.EncodedLemmas.{encoded_conforms}
use Rattle.types.proofs.FormInstances.{not_same, universal, context, definite, indefinite, definite_81}
use Rattle.types.proofs.LeafInstances.{integer, truth, number, nothing, true_FF, small, null_00}
use Rattle.types.proofs.TypeInstances.{explicit_integer, null_or_boolean, well_formed_integer, well_formed_choice, lower, not_of_two}
use Rattle.types.proofs.ApartInstances.{of_another, gone_on, begins, with_another_tag, of_no_octets, contents_of, not_primitive}

abbrev five : Val
five = number (pos 5)

five_is : (rule : Rule) → IsEncoding rule integer five (0x02 ∷ 0x01 ∷ 0x05 ∷ [])
five_is rule = small rule 5 (omega arith) refl

-- 5 under [1] EXPLICIT is A1 03 02 01 05 in DER, A1 80 02 01 05 00 00 in CER, and both in BER, with A1 81 03 02 01 05
explicit_5-der : IsEncoding der explicit_integer five (0xA1 ∷ 0x03 ∷ 0x02 ∷ 0x01 ∷ 0x05 ∷ [])
explicit_5-der = record { inner = 0x02 ∷ 0x01 ∷ 0x05 ∷ []; encodes = five_is der; whole = definite der Context 1 true (0x02 ∷ 0x01 ∷ 0x05 ∷ []) (omega arith) (omega arith) }

explicit_5-cer : IsEncoding cer explicit_integer five (0xA1 ∷ 0x80 ∷ 0x02 ∷ 0x01 ∷ 0x05 ∷ 0x00 ∷ 0x00 ∷ [])
explicit_5-cer = record { inner = 0x02 ∷ 0x01 ∷ 0x05 ∷ []; encodes = five_is cer; whole = indefinite Context 1 (0x02 ∷ 0x01 ∷ 0x05 ∷ []) (omega arith) }

explicit_5-ber : IsEncoding ber explicit_integer five (0xA1 ∷ 0x03 ∷ 0x02 ∷ 0x01 ∷ 0x05 ∷ [])
explicit_5-ber = record { inner = 0x02 ∷ 0x01 ∷ 0x05 ∷ []; encodes = five_is ber; whole = inl (definite ber Context 1 true (0x02 ∷ 0x01 ∷ 0x05 ∷ []) (omega arith) (omega arith)) }

explicit_5-indefinite : IsEncoding ber explicit_integer five (0xA1 ∷ 0x80 ∷ 0x02 ∷ 0x01 ∷ 0x05 ∷ 0x00 ∷ 0x00 ∷ [])
explicit_5-indefinite = record { inner = 0x02 ∷ 0x01 ∷ 0x05 ∷ []; encodes = five_is ber; whole = inr (indefinite Context 1 (0x02 ∷ 0x01 ∷ 0x05 ∷ []) (omega arith)) }

explicit_5-long : IsEncoding ber explicit_integer five (0xA1 ∷ 0x81 ∷ 0x03 ∷ 0x02 ∷ 0x01 ∷ 0x05 ∷ [])
explicit_5-long = record { inner = 0x02 ∷ 0x01 ∷ 0x05 ∷ []; encodes = five_is ber; whole = inl (definite_81 Context 1 true (0x02 ∷ 0x01 ∷ 0x05 ∷ []) (omega arith) (omega arith)) }

-- 81 01 05, A1 00 and A1 06 02 01 05 02 01 05 are encodings of no value: an explicit tag is around one encoding
explicit-primitive : (rule : Rule) (v : Val) → IsEncoding rule explicit_integer v (0x81 ∷ 0x01 ∷ 0x05 ∷ []) → ⊥
explicit-primitive rule v h = not_primitive rule (context 1) h.inner (0x05 ∷ []) (0x81 ∷ 0x01 ∷ 0x05 ∷ []) h.whole (definite ber Context 1 false (0x05 ∷ []) (omega arith) (omega arith))

explicit-none : (rule : Rule) (v : Val) → IsEncoding rule explicit_integer v (0xA1 ∷ 0x00 ∷ []) → ⊥
explicit-none rule v h =
    let none : h.inner ≡ [] = contents_of rule (context 1) h.inner [] (0xA1 ∷ 0x00 ∷ []) h.whole (definite ber Context 1 true [] (omega arith) (omega arith)) in
    of_no_octets rule integer v (subst (IsEncoding rule integer v) none h.encodes)

explicit-two : (rule : Rule) (v : Val) → IsEncoding rule explicit_integer v (0xA1 ∷ 0x06 ∷ 0x02 ∷ 0x01 ∷ 0x05 ∷ 0x02 ∷ 0x01 ∷ 0x05 ∷ []) → ⊥
explicit-two rule v h =
    let two : h.inner ≡ 0x02 ∷ 0x01 ∷ 0x05 ∷ 0x02 ∷ 0x01 ∷ 0x05 ∷ [] = contents_of rule (context 1) h.inner (0x02 ∷ 0x01 ∷ 0x05 ∷ 0x02 ∷ 0x01 ∷ 0x05 ∷ []) (0xA1 ∷ 0x06 ∷ 0x02 ∷ 0x01 ∷ 0x05 ∷ 0x02 ∷ 0x01 ∷ 0x05 ∷ []) h.whole (definite ber Context 1 true (0x02 ∷ 0x01 ∷ 0x05 ∷ 0x02 ∷ 0x01 ∷ 0x05 ∷ []) (omega arith) (omega arith)) in
    gone_on rule integer v five (0x02 ∷ 0x01 ∷ 0x05 ∷ []) (0x01 ∷ 0x05 ∷ []) 0x02 well_formed_integer (five_is ber) (subst (IsEncoding rule integer v) two h.encodes)

-- of CHOICE { a NULL, b BOOLEAN }, a : NULL is 05 00 and b : TRUE 01 01 FF, under every rule
chosen_null : (rule : Rule) → IsEncoding rule null_or_boolean (Val.chosen 0 nothing) (0x05 ∷ 0x00 ∷ [])
chosen_null rule = record { which = 0; value = nothing; is = refl; chosen = null_00 rule Universal 5 (omega arith) }

chosen_true : (rule : Rule) → IsEncoding rule null_or_boolean (Val.chosen 1 (truth true)) (0x01 ∷ 0x01 ∷ 0xFF ∷ [])
chosen_true rule = record { which = 1; value = truth true; is = refl; chosen = true_FF rule }

-- 05 00 is not b : TRUE; A0 02 05 00 is no value's, since a CHOICE has no tag of its own
chosen_true-null : (rule : Rule) → IsEncoding rule null_or_boolean (Val.chosen 1 (truth true)) (0x05 ∷ 0x00 ∷ []) → ⊥
chosen_true-null rule h = of_another rule null_or_boolean (Val.chosen 1 (truth true)) (Val.chosen 0 nothing) (0x05 ∷ 0x00 ∷ []) well_formed_choice (chosen_null ber) (λ same. not_same 0 1 (omega arith) (sym same.0)) h

chosen-tagged : (rule : Rule) (v : Val) → IsEncoding rule null_or_boolean v (0xA0 ∷ 0x02 ∷ 0x05 ∷ 0x00 ∷ []) → ⊥
chosen-tagged rule v h =
    with_another_tag rule null_or_boolean v (0xA0 ∷ 0x02 ∷ 0x05 ∷ 0x00 ∷ []) (context 0) (begins Context 0 true (0x02 ∷ 0x05 ∷ 0x00 ∷ []) (omega arith))
    (λ c. not_of_two (context 0) (universal 5) (universal 1) (lower (context 0) (universal 5) (omega arith)) (lower (context 0) (universal 1) (omega arith)) c) h

-- there is no alternative 2, and 0 is no BOOLEAN
chosen-second : (rule : Rule) (v : Val) (octets : List ℕ) → IsEncoding rule null_or_boolean (Val.chosen 2 v) octets → ⊥
chosen-second rule v octets h = encoded_conforms rule null_or_boolean (Val.chosen 2 v) octets h

chosen-swapped : (rule : Rule) (octets : List ℕ) → IsEncoding rule null_or_boolean (Val.chosen 0 (truth true)) octets → ⊥
chosen-swapped rule octets h = encoded_conforms rule null_or_boolean (Val.chosen 0 (truth true)) octets h

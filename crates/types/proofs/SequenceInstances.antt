-- Encodings of a SEQUENCE under each rule, and octets that are none (X.690 8.9 and 11.5).
use Rattle.std.proofs.Common.{◌≡◌, ℕ, ◌+◌, ◌<◌, List, [], ◌∷◌, ◌++◌, Option, Some, None, inl, inr, length, refl, sym, ◌∙◌, ap, subst, arith, true, false, pos, append-nil}
use Rattle.std.specs.List.{concat}
use Rattle.octets.specs.declared.tag.Class.TheVariants.{Universal}
use Rattle.octets.specs.Rule.{Rule, ber, cer, der}
use Rattle.types.specs.Shape.{Shape, Val, Slots, no_slot, absent, present, Requirement, required, optional, no_component, component}
use Rattle.types.specs.Form.{IsDefinite}
use Rattle.types.specs.Encoding.{IsEncoding, AreSlotEncodings, standing}
use Rattle.types.proofs.EncodingLemmas.{encoding_unique}
use Rattle.types.proofs.BerLemmas.{encoding_by_ber}
use Rattle.types.proofs.SlotLemmas.{AreFilled, filled}
use Rattle.types.proofs.FormInstances.{universal, definite, indefinite, definite_81}
use Rattle.types.proofs.LeafInstances.{boolean, integer, truth, number, true_FF, true_any, small}
use Rattle.types.proofs.TypeInstances.{a, b, empty_sequence, optional_first, well_formed_boolean, well_formed_integer, higher, lower, not_alone}
use Rattle.types.proofs.ApartInstances.{gone_on, begins, front_with_another_tag, of_no_octets, contents_of, not_primitive}

-- SEQUENCE { } is 30 00 in DER, 30 80 00 00 in CER, and both in BER, with 30 81 00
abbrev empty : Val
empty = Val.fields no_slot

empty-der : IsEncoding der empty_sequence empty (0x30 ∷ 0x00 ∷ [])
empty-der = record { slots = no_slot; is = refl; encodings = []; each = tt; whole = definite der Universal 16 true [] (omega arith) (omega arith) }

empty-cer : IsEncoding cer empty_sequence empty (0x30 ∷ 0x80 ∷ 0x00 ∷ 0x00 ∷ [])
empty-cer = record { slots = no_slot; is = refl; encodings = []; each = tt; whole = indefinite Universal 16 [] (omega arith) }

pub empty-ber : IsEncoding ber empty_sequence empty (0x30 ∷ 0x00 ∷ [])
empty-ber = record { slots = no_slot; is = refl; encodings = []; each = tt; whole = inl (definite ber Universal 16 true [] (omega arith) (omega arith)) }

pub empty-indefinite : IsEncoding ber empty_sequence empty (0x30 ∷ 0x80 ∷ 0x00 ∷ 0x00 ∷ [])
empty-indefinite = record { slots = no_slot; is = refl; encodings = []; each = tt; whole = inr (indefinite Universal 16 [] (omega arith)) }

empty-long : IsEncoding ber empty_sequence empty (0x30 ∷ 0x81 ∷ 0x00 ∷ [])
empty-long = record { slots = no_slot; is = refl; encodings = []; each = tt; whole = inl (definite_81 Universal 16 true [] (omega arith) (omega arith)) }

-- nothing stands in it, not even 00 00 or 05 00, and 10 00 is primitive
none_stand : (rule : Rule) (slots : Slots) (encodings : List (Option (List ℕ))) → AreSlotEncodings rule no_component slots encodings → standing encodings ≡ []
none_stand rule no_slot [] h = refl
none_stand rule no_slot (encoding ∷ encodings) h = elim h [ ]
none_stand rule (absent slots) encodings h = elim h [ ]
none_stand rule (present value slots) encodings h = elim h [ ]

empty-two : (rule : Rule) (v : Val) (x y : ℕ) → IsEncoding rule empty_sequence v (0x30 ∷ 0x02 ∷ x ∷ y ∷ []) → ⊥
empty-two rule v x y h =
    let two = contents_of rule (universal 16) (concat (standing h.encodings)) (x ∷ y ∷ []) (0x30 ∷ 0x02 ∷ x ∷ y ∷ []) h.whole (definite ber Universal 16 true (x ∷ y ∷ []) (omega arith) (omega arith)) in
    let none : x ∷ y ∷ [] ≡ [] = sym two ∙ ap concat (none_stand rule h.slots h.encodings h.each) in
    cc

empty-primitive : (rule : Rule) (v : Val) → IsEncoding rule empty_sequence v (0x10 ∷ 0x00 ∷ []) → ⊥
empty-primitive rule v h = not_primitive rule (universal 16) (concat (standing h.encodings)) [] (0x10 ∷ 0x00 ∷ []) h.whole (definite ber Universal 16 false [] (omega arith) (omega arith))

-- SEQUENCE { a INTEGER OPTIONAL, b BOOLEAN }: (absent, TRUE) is 30 03 01 01 FF in DER, 30 80 01 01 FF 00 00 in CER, and 30 03
-- 01 01 01 too in BER
abbrev absent_true : Val
absent_true = Val.fields (absent (present (truth true) no_slot))

optional-der : IsEncoding der optional_first absent_true (0x30 ∷ 0x03 ∷ 0x01 ∷ 0x01 ∷ 0xFF ∷ [])
optional-der = record { slots = absent (present (truth true) no_slot); is = refl; encodings = None ∷ Some (0x01 ∷ 0x01 ∷ 0xFF ∷ []) ∷ []; each = (refl, (true_FF der, tt, tt)); whole = definite der Universal 16 true (0x01 ∷ 0x01 ∷ 0xFF ∷ []) (omega arith) (omega arith) }

optional-cer : IsEncoding cer optional_first absent_true (0x30 ∷ 0x80 ∷ 0x01 ∷ 0x01 ∷ 0xFF ∷ 0x00 ∷ 0x00 ∷ [])
optional-cer = record { slots = absent (present (truth true) no_slot); is = refl; encodings = None ∷ Some (0x01 ∷ 0x01 ∷ 0xFF ∷ []) ∷ []; each = (refl, (true_FF cer, tt, tt)); whole = indefinite Universal 16 (0x01 ∷ 0x01 ∷ 0xFF ∷ []) (omega arith) }

optional-ber : IsEncoding ber optional_first absent_true (0x30 ∷ 0x03 ∷ 0x01 ∷ 0x01 ∷ 0x01 ∷ [])
optional-ber = record { slots = absent (present (truth true) no_slot); is = refl; encodings = None ∷ Some (0x01 ∷ 0x01 ∷ 0x01 ∷ []) ∷ []; each = (refl, (true_any 0x01 (omega arith) (omega arith), tt, tt)); whole = inl (definite ber Universal 16 true (0x01 ∷ 0x01 ∷ 0x01 ∷ []) (omega arith) (omega arith)) }

-- and (5, TRUE) is 30 06 02 01 05 01 01 FF in DER
optional_5-der : IsEncoding der optional_first (Val.fields (present (number (pos 5)) (present (truth true) no_slot))) (0x30 ∷ 0x06 ∷ 0x02 ∷ 0x01 ∷ 0x05 ∷ 0x01 ∷ 0x01 ∷ 0xFF ∷ [])
optional_5-der = record {
  slots = present (number (pos 5)) (present (truth true) no_slot);
  is = refl;
  encodings = Some (0x02 ∷ 0x01 ∷ 0x05 ∷ []) ∷ Some (0x01 ∷ 0x01 ∷ 0xFF ∷ []) ∷ [];
  each = (small der 5 (omega arith) refl, tt, (true_FF der, tt, tt));
  whole = definite der Universal 16 true (0x02 ∷ 0x01 ∷ 0x05 ∷ 0x01 ∷ 0x01 ∷ 0xFF ∷ []) (omega arith) (omega arith);
}

-- what stands where the second of two components has to
pub data HasLast (rule : Rule) (first last : Shape) : List (List ℕ) → Type 0 where
  alone : (w : Val) (y : List ℕ) → IsEncoding rule last w y → HasLast rule first last (y ∷ [])
  both : (v w : Val) (x y : List ℕ) → IsEncoding rule first v x → IsEncoding rule last w y → HasLast rule first last (x ∷ y ∷ [])

pub has_last : (rule : Rule) (name other : List ℕ) (first last : Shape) (requirement : Requirement) (slots : Slots) (encodings : List (Option (List ℕ)))
    → AreFilled rule (component name first requirement (component other last required no_component)) slots encodings → HasLast rule first last (standing encodings)
has_last rule name other first last requirement slots encodings (AreFilled.left_out n t r m (AreFilled.left_out n' t' r' m' h)) = absurd m'
has_last rule name other first last requirement slots encodings (AreFilled.left_out n t r m (AreFilled.stands n' t' r' w y g d AreFilled.no_more)) = HasLast.alone w y g
has_last rule name other first last requirement slots encodings (AreFilled.spelt_out n t v x e f (AreFilled.left_out n' t' r' m' h)) = absurd m'
has_last rule name other first last requirement slots encodings (AreFilled.spelt_out n t v x e f (AreFilled.stands n' t' r' w y g d AreFilled.no_more)) = HasLast.both v w x y f g
has_last rule name other first last requirement slots encodings (AreFilled.stands n t r v x f c (AreFilled.left_out n' t' r' m' h)) = absurd m'
has_last rule name other first last requirement slots encodings (AreFilled.stands n t r v x f c (AreFilled.stands n' t' r' w y g d AreFilled.no_more)) = HasLast.both v w x y f g

-- nothing follows b, and b cannot be missing, whatever the value: 30 05 01 01 FF 05 00, 30 06 01 01 FF 02 01 05 and 30 03 02 01 05
-- are no encodings
pub after_last : (rule : Rule) (encodings : List (List ℕ)) (next : ℕ) (more : List ℕ) → HasLast rule integer boolean encodings → concat encodings ≡ 0x01 ∷ 0x01 ∷ 0xFF ∷ next ∷ more → ⊥
after_last rule encodings next more (HasLast.alone w y g) whole =
    gone_on rule boolean w (truth true) (0x01 ∷ 0x01 ∷ 0xFF ∷ []) more next well_formed_boolean (true_FF ber) (subst (IsEncoding rule boolean w) (sym (append-nil y) ∙ whole) g)
after_last rule encodings next more (HasLast.both v w x y f g) whole =
    front_with_another_tag rule integer v x (y ++ []) (0x01 ∷ 0x01 ∷ 0xFF ∷ next ∷ more) (universal 1) whole (begins Universal 1 false (0x01 ∷ 0xFF ∷ next ∷ more) (omega arith))
    (λ c. not_alone (universal 1) (universal 2) (lower (universal 1) (universal 2) (omega arith)) c) f

pub without_last : (rule : Rule) (encodings : List (List ℕ)) → HasLast rule integer boolean encodings → concat encodings ≡ 0x02 ∷ 0x01 ∷ 0x05 ∷ [] → ⊥
without_last rule encodings (HasLast.alone w y g) whole =
    front_with_another_tag rule boolean w y [] (0x02 ∷ 0x01 ∷ 0x05 ∷ []) (universal 2) whole (begins Universal 2 false (0x01 ∷ 0x05 ∷ []) (omega arith))
    (λ c. not_alone (universal 2) (universal 1) (higher (universal 2) (universal 1) (omega arith)) c) g
without_last rule encodings (HasLast.both v w x y f g) whole =
    let same = encoding_unique integer v (number (pos 5)) x (0x02 ∷ 0x01 ∷ 0x05 ∷ []) (y ++ []) [] well_formed_integer (encoding_by_ber rule integer v x f) (small ber 5 (omega arith) refl) whole in
    of_no_octets rule boolean w (subst (IsEncoding rule boolean w) (sym (append-nil y) ∙ same.rest) g)

optional-more : (rule : Rule) (v : Val) (next : ℕ) (more : List ℕ) → length more < 100 → IsEncoding rule optional_first v (0x30 ∷ (4 + length more) ∷ 0x01 ∷ 0x01 ∷ 0xFF ∷ next ∷ more) → ⊥
optional-more rule v next more few h =
    let octets = 0x01 ∷ 0x01 ∷ 0xFF ∷ next ∷ more in
    let contents = contents_of rule (universal 16) (concat (standing h.encodings)) octets (0x30 ∷ (4 + length more) ∷ octets) h.whole (subst (λ n. IsDefinite ber (universal 16) true octets (0x30 ∷ n ∷ octets)) (omega arith) (definite ber Universal 16 true octets (omega arith) (omega arith))) in
    after_last rule (standing h.encodings) next more (has_last rule a b integer boolean optional h.slots h.encodings (filled rule _ h.slots h.encodings h.each)) contents

optional-two : (rule : Rule) (v : Val) → IsEncoding rule optional_first v (0x30 ∷ 0x05 ∷ 0x01 ∷ 0x01 ∷ 0xFF ∷ 0x05 ∷ 0x00 ∷ []) → ⊥
optional-two rule v h = optional-more rule v 0x05 (0x00 ∷ []) (omega arith) h

optional-turned : (rule : Rule) (v : Val) → IsEncoding rule optional_first v (0x30 ∷ 0x06 ∷ 0x01 ∷ 0x01 ∷ 0xFF ∷ 0x02 ∷ 0x01 ∷ 0x05 ∷ []) → ⊥
optional-turned rule v h = optional-more rule v 0x02 (0x01 ∷ 0x05 ∷ []) (omega arith) h

optional-missing : (rule : Rule) (v : Val) → IsEncoding rule optional_first v (0x30 ∷ 0x03 ∷ 0x02 ∷ 0x01 ∷ 0x05 ∷ []) → ⊥
optional-missing rule v h =
    let contents = contents_of rule (universal 16) (concat (standing h.encodings)) (0x02 ∷ 0x01 ∷ 0x05 ∷ []) (0x30 ∷ 0x03 ∷ 0x02 ∷ 0x01 ∷ 0x05 ∷ []) h.whole (definite ber Universal 16 true (0x02 ∷ 0x01 ∷ 0x05 ∷ []) (omega arith) (omega arith)) in
    without_last rule (standing h.encodings) (has_last rule a b integer boolean optional h.slots h.encodings (filled rule _ h.slots h.encodings h.each)) contents

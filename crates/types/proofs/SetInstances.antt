-- Encodings of a SET under each rule, and octets that are none (X.690 8.11, 9.3 and 10.3).
use Rattle.std.proofs.Common.{◌≡◌, ◌⊎◌, ℕ, List, [], ◌∷◌, ◌++◌, Some, inl, inr, refl, sym, subst, arith, true, false, pos, Contains}
use Rattle.std.proofs.lemmas.List.Kept.{AllPairs-cons}
use Rattle.std.proofs.lemmas.List.Elements.{All-nil, All-cons}
use Rattle.std.proofs.lemmas.List.Sorted.{IsPermutation-refl}
use Rattle.octets.specs.declared.tag.Class.TheVariants.{Universal, Context}
use Rattle.octets.specs.declared.tag.Tag.{Tag}
use Rattle.octets.specs.Rule.{Rule, ber, cer, der, IsCanonical}
use Rattle.octets.specs.Tag.{ComesBefore}
use Rattle.octets.proofs.RuleLemmas.{cer_is_canonical, der_is_canonical}
use Rattle.types.specs.Shape.{Val, Slots, no_slot, present, required, Components, no_component, component}
use Rattle.types.specs.FirstTags.{tags_of_components, AreDistinct}
use Rattle.types.specs.Order.{BeginsWith, IsLeast, IsOrderTagIn, AscendsByTag}
use Rattle.types.specs.Encoding.{IsEncoding}
use Rattle.types.proofs.ListLemmas.{AllPairs-nil, contains_first, contains_later, contains_cases, not_in_nil}
use Rattle.types.proofs.OrderLemmas.{ComesBefore-irrefl, ComesBefore-asym}
use Rattle.types.proofs.SetOrderLemmas.{one_order_tag}
use Rattle.types.proofs.FormInstances.{universal, context, definite, indefinite}
use Rattle.types.proofs.LeafInstances.{boolean, integer, truth, number, nothing, true_FF, small, null_00}
use Rattle.types.proofs.TypeInstances.{plain_set, set_with_choice, null_5_or_boolean, well_formed_set, well_formed_set-choice, two_differ, three_differ, higher, lower, a, b}
use Rattle.types.proofs.ApartInstances.{in_other_octets, begins}
use Rattle.types.proofs.SameInstances.{turned}
use Rattle.types.proofs.ItemInstances.{five}

-- two encodings in the order of their order tags
pub two_by_tag : (rule : Rule) (components : Components) (x y : List ℕ) (t u : Tag) → IsCanonical rule → AreDistinct (tags_of_components components)
    → IsOrderTagIn rule components x t → IsOrderTagIn rule components y u → ComesBefore t u → AscendsByTag rule components (x ∷ y ∷ [])
two_by_tag rule components x y t u canonical distinct h g before =
    let R = λ (c d : List ℕ). (v w : Tag) → IsOrderTagIn rule components c v → IsOrderTagIn rule components d w → ComesBefore v w in
    let pair : R x y = λ v w m n.
    subst (λ s. ComesBefore s w) (one_order_tag rule components x t v canonical distinct h m) (subst (ComesBefore t) (one_order_tag rule components y u w canonical distinct g n) before) in
    AllPairs-cons R x (y ∷ []) (All-cons (R x) y [] pair (All-nil (R x))) (AllPairs-cons R y [] (All-nil (R y)) (AllPairs-nil R))

-- the one tag of a type is the least
pub alone_is_least : (t : Tag) → IsLeast (t ∷ []) t
alone_is_least t = (contains_first t t [] refl, λ other c before. not_before other (contains_cases t other [] c) before)
  where
    not_before : (other : Tag) → (t ≡ other) ⊎ Contains {X = Tag} [] other → ComesBefore other t → ⊥
    not_before other (inl same) before = ComesBefore-irrefl t (subst (λ s. ComesBefore s t) (sym same) before)
    not_before other (inr none) before = not_in_nil other none

-- the tag that comes before the other of two is the least
second_is_least : (t u : Tag) → ComesBefore u t → IsLeast (t ∷ u ∷ []) u
second_is_least t u earlier = (contains_later t u (u ∷ []) (contains_first u u [] refl), λ other c before. not_before other (contains_cases t other (u ∷ []) c) before)
  where
    not_before : (other : Tag) → (t ≡ other) ⊎ Contains (u ∷ []) other → ComesBefore other u → ⊥
    not_before other (inl same) before = ComesBefore-asym t u (subst (λ s. ComesBefore s u) (sym same) before) earlier
    not_before other (inr later) before = (alone_is_least u).1 other later before

-- SET { a INTEGER, b BOOLEAN } (5, TRUE): b comes first in CER and DER, since universal 1 is before universal 2
abbrev pub truth_octets : List ℕ
truth_octets = 0x01 ∷ 0x01 ∷ 0xFF ∷ []

abbrev plain : Components
plain = component a integer required (component b boolean required no_component)

abbrev five_true : Slots
five_true = present (number (pos 5)) (present (truth true) no_slot)

five_begins : BeginsWith (universal 2) five
five_begins = begins Universal 2 false (0x01 ∷ 0x05 ∷ []) (omega arith)

truth_begins : BeginsWith (universal 1) truth_octets
truth_begins = begins Universal 1 false (0x01 ∷ 0xFF ∷ []) (omega arith)

one_before_two : ComesBefore (universal 1) (universal 2)
one_before_two = inr (refl, omega arith)

plain_tags_differ : AreDistinct (tags_of_components plain)
plain_tags_differ = two_differ (universal 2) (universal 1) (higher (universal 2) (universal 1) (omega arith))

plain_order-der : AscendsByTag der plain (truth_octets ∷ five ∷ [])
plain_order-der =
    two_by_tag der plain truth_octets five (universal 1) (universal 2) der_is_canonical plain_tags_differ
    (inr (inl ((universal 1, contains_first (universal 1) (universal 1) [] refl, truth_begins), truth_begins)))
    (inl ((universal 2, contains_first (universal 2) (universal 2) [] refl, five_begins), five_begins))
    one_before_two

plain_order-cer : AscendsByTag cer plain (truth_octets ∷ five ∷ [])
plain_order-cer =
    two_by_tag cer plain truth_octets five (universal 1) (universal 2) cer_is_canonical plain_tags_differ
    (inr (inl ((universal 1, contains_first (universal 1) (universal 1) [] refl, truth_begins), alone_is_least (universal 1))))
    (inl ((universal 2, contains_first (universal 2) (universal 2) [] refl, five_begins), alone_is_least (universal 2)))
    one_before_two

plain-der : IsEncoding der plain_set (Val.fields five_true) (0x31 ∷ 0x06 ∷ (truth_octets ++ five))
plain-der = record {
  slots = five_true;
  is = refl;
  encodings = Some five ∷ Some truth_octets ∷ [];
  each = (small der 5 (omega arith) refl, tt, (true_FF der, tt, tt));
  order = truth_octets ∷ five ∷ [];
  permutes = turned five truth_octets [];
  ascends = λ canonical. plain_order-der;
  whole = definite der Universal 17 true (truth_octets ++ five) (omega arith) (omega arith);
}

plain-cer : IsEncoding cer plain_set (Val.fields five_true) (0x31 ∷ 0x80 ∷ (truth_octets ++ (five ++ (0x00 ∷ 0x00 ∷ []))))
plain-cer = record {
  slots = five_true;
  is = refl;
  encodings = Some five ∷ Some truth_octets ∷ [];
  each = (small cer 5 (omega arith) refl, tt, (true_FF cer, tt, tt));
  order = truth_octets ∷ five ∷ [];
  permutes = turned five truth_octets [];
  ascends = λ canonical. plain_order-cer;
  whole = indefinite Universal 17 (truth_octets ++ five) (omega arith);
}

-- in BER also in order of declaration, 31 06 02 01 05 01 01 FF, and so not in DER
plain-ber : IsEncoding ber plain_set (Val.fields five_true) (0x31 ∷ 0x06 ∷ (five ++ truth_octets))
plain-ber = record {
  slots = five_true;
  is = refl;
  encodings = Some five ∷ Some truth_octets ∷ [];
  each = (small ber 5 (omega arith) refl, tt, (true_FF ber, tt, tt));
  order = five ∷ truth_octets ∷ [];
  permutes = IsPermutation-refl (five ∷ truth_octets ∷ []);
  ascends = λ canonical. absurd (canonical refl);
  whole = inl (definite ber Universal 17 true (five ++ truth_octets) (omega arith) (omega arith));
}

plain-declared : IsEncoding der plain_set (Val.fields five_true) (0x31 ∷ 0x06 ∷ (five ++ truth_octets)) → ⊥
plain-declared h = in_other_octets der plain_set (Val.fields five_true) (0x31 ∷ 0x06 ∷ (truth_octets ++ five)) (0x31 ∷ 0x06 ∷ (five ++ truth_octets)) well_formed_set der_is_canonical plain-der (λ same. cc) h

-- SET { a INTEGER, b CHOICE { a [5] IMPLICIT NULL, b BOOLEAN } } (7, a : NULL): DER goes by the tag that stands, context 5, and CER
-- by the least that can, universal 1
abbrev seven : List ℕ
seven = 0x02 ∷ 0x01 ∷ 0x07 ∷ []

abbrev null_5 : List ℕ
null_5 = 0x85 ∷ 0x00 ∷ []

abbrev with_choice : Components
with_choice = component a integer required (component b null_5_or_boolean required no_component)

abbrev seven_null : Slots
seven_null = present (number (pos 7)) (present (Val.chosen 0 nothing) no_slot)

seven_begins : BeginsWith (universal 2) seven
seven_begins = begins Universal 2 false (0x01 ∷ 0x07 ∷ []) (omega arith)

null_5_begins : BeginsWith (context 5) null_5
null_5_begins = begins Context 5 false (0x00 ∷ []) (omega arith)

null_5_is : (rule : Rule) → IsEncoding rule null_5_or_boolean (Val.chosen 0 nothing) null_5
null_5_is rule = record { which = 0; value = nothing; is = refl; chosen = null_00 rule Context 5 (omega arith) }

choice_tags_differ : AreDistinct (tags_of_components with_choice)
choice_tags_differ = three_differ (universal 2) (context 5) (universal 1) (lower (universal 2) (context 5) (omega arith)) (higher (universal 2) (universal 1) (omega arith)) (higher (context 5) (universal 1) (omega arith))

choice_order-der : AscendsByTag der with_choice (seven ∷ null_5 ∷ [])
choice_order-der =
    two_by_tag der with_choice seven null_5 (universal 2) (context 5) der_is_canonical choice_tags_differ
    (inl ((universal 2, contains_first (universal 2) (universal 2) [] refl, seven_begins), seven_begins))
    (inr (inl ((context 5, contains_first (context 5) (context 5) (universal 1 ∷ []) refl, null_5_begins), null_5_begins)))
    (inl (omega arith))

choice_order-cer : AscendsByTag cer with_choice (null_5 ∷ seven ∷ [])
choice_order-cer =
    two_by_tag cer with_choice null_5 seven (universal 1) (universal 2) cer_is_canonical choice_tags_differ
    (inr (inl ((context 5, contains_first (context 5) (context 5) (universal 1 ∷ []) refl, null_5_begins), second_is_least (context 5) (universal 1) (inl (omega arith)))))
    (inl ((universal 2, contains_first (universal 2) (universal 2) [] refl, seven_begins), alone_is_least (universal 2)))
    one_before_two

-- 31 05 02 01 07 85 00 in DER, 31 80 85 00 02 01 07 00 00 in CER, and either order in BER
choice-der : IsEncoding der set_with_choice (Val.fields seven_null) (0x31 ∷ 0x05 ∷ (seven ++ null_5))
choice-der = record {
  slots = seven_null;
  is = refl;
  encodings = Some seven ∷ Some null_5 ∷ [];
  each = (small der 7 (omega arith) refl, tt, (null_5_is der, tt, tt));
  order = seven ∷ null_5 ∷ [];
  permutes = IsPermutation-refl (seven ∷ null_5 ∷ []);
  ascends = λ canonical. choice_order-der;
  whole = definite der Universal 17 true (seven ++ null_5) (omega arith) (omega arith);
}

choice-cer : IsEncoding cer set_with_choice (Val.fields seven_null) (0x31 ∷ 0x80 ∷ (null_5 ++ (seven ++ (0x00 ∷ 0x00 ∷ []))))
choice-cer = record {
  slots = seven_null;
  is = refl;
  encodings = Some seven ∷ Some null_5 ∷ [];
  each = (small cer 7 (omega arith) refl, tt, (null_5_is cer, tt, tt));
  order = null_5 ∷ seven ∷ [];
  permutes = turned seven null_5 [];
  ascends = λ canonical. choice_order-cer;
  whole = indefinite Universal 17 (null_5 ++ seven) (omega arith);
}

choice-ber : IsEncoding ber set_with_choice (Val.fields seven_null) (0x31 ∷ 0x05 ∷ (null_5 ++ seven))
choice-ber = record {
  slots = seven_null;
  is = refl;
  encodings = Some seven ∷ Some null_5 ∷ [];
  each = (small ber 7 (omega arith) refl, tt, (null_5_is ber, tt, tt));
  order = null_5 ∷ seven ∷ [];
  permutes = turned seven null_5 [];
  ascends = λ canonical. absurd (canonical refl);
  whole = inl (definite ber Universal 17 true (null_5 ++ seven) (omega arith) (omega arith));
}

-- but not that of CER in DER, nor that of DER in CER
choice-turned_der : IsEncoding der set_with_choice (Val.fields seven_null) (0x31 ∷ 0x05 ∷ (null_5 ++ seven)) → ⊥
choice-turned_der h = in_other_octets der set_with_choice (Val.fields seven_null) (0x31 ∷ 0x05 ∷ (seven ++ null_5)) (0x31 ∷ 0x05 ∷ (null_5 ++ seven)) well_formed_set-choice der_is_canonical choice-der (λ same. cc) h

choice-turned_cer : IsEncoding cer set_with_choice (Val.fields seven_null) (0x31 ∷ 0x80 ∷ (seven ++ (null_5 ++ (0x00 ∷ 0x00 ∷ [])))) → ⊥
choice-turned_cer h =
    in_other_octets cer set_with_choice (Val.fields seven_null) (0x31 ∷ 0x80 ∷ (null_5 ++ (seven ++ (0x00 ∷ 0x00 ∷ [])))) (0x31 ∷ 0x80 ∷ (seven ++ (null_5 ++ (0x00 ∷ 0x00 ∷ [])))) well_formed_set-choice cer_is_canonical choice-cer
    (λ same. cc) h

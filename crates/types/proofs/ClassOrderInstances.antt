-- A SET whose components' tags are of all four classes (X.680 8.6, X.690 8.11, 9.3 and 10.3).
use Rattle.std.proofs.Common.{◌≢◌, ◌⊎◌, ◌≡◌, ℕ, ◌+◌, ◌≤◌, List, [], ◌∷◌, ◌++◌, Some, inl, inr, refl, sym, subst, arith, true, false, Contains, IsPermutation}
use Rattle.std.proofs.lemmas.List.Elements.{All-from_recursion}
use Rattle.std.proofs.lemmas.List.Sorted.{IsPermutation-refl, IsPermutation-trans, IsPermutation-append_comm}
use Rattle.octets.specs.declared.tag.Class.{Class}
use Rattle.octets.specs.declared.tag.Class.TheVariants.{Universal, Application, Context, Private}
use Rattle.octets.specs.declared.tag.Tag.{Tag}
use Rattle.octets.specs.Identifier.{class_bits, form_bit}
use Rattle.octets.specs.Rule.{Rule, ber, cer, der, IsCanonical}
use Rattle.octets.specs.Tag.{ComesBefore}
use Rattle.octets.proofs.RuleLemmas.{der_is_canonical}
use Rattle.types.specs.Shape.{Shape, Val, Slots, no_slot, present, required, Components, no_component, component}
use Rattle.types.specs.FirstTags.{first_tags, tags_of_components, AreDistinct, IsUsable}
use Rattle.types.specs.WellFormed.{IsWellFormed}
use Rattle.types.specs.Order.{BeginsWithOneOf, IsOrderTag, IsOrderTagIn, AscendsByTag}
use Rattle.types.specs.Encoding.{IsEncoding, AreSlotEncodings}
use Rattle.types.proofs.ListLemmas.{contains_first, contains_cases, all_differ-cons}
use Rattle.types.proofs.OrderLemmas.{ComesBefore-irrefl}
use Rattle.types.proofs.SetOrderLemmas.{ascends_by_tag}
use Rattle.types.proofs.InOrderLemmas.{pairs_in_order}
use Rattle.types.proofs.BerLemmas.{encoding_by_ber}
use Rattle.types.proofs.FormInstances.{universal, context, usable_universal, usable_context, definite, indefinite}
use Rattle.types.proofs.LeafInstances.{null, nothing, null_00}
use Rattle.types.proofs.TypeInstances.{a, b, not_of_two, three_differ}
use Rattle.types.proofs.ApartInstances.{in_other_octets, begins}
use Rattle.types.proofs.SameInstances.{turned}
use Rattle.types.proofs.SetInstances.{alone_is_least}

-- SET { a [0] NULL, b [PRIVATE 0] NULL, c [APPLICATION 9] NULL, d NULL } under IMPLICIT TAGS, all present
abbrev c : List ℕ
c = 0x63 ∷ []

abbrev d : List ℕ
d = 0x64 ∷ []

abbrev private_0 : Tag
private_0 = record { class = Private; number = 0 }

abbrev application_9 : Tag
application_9 = record { class = Application; number = 9 }

abbrev four_classes : Components
four_classes = component a (null (context 0)) required (component b (null private_0) required (component c (null application_9) required (component d (null (universal 5)) required no_component)))

abbrev class_set : Shape
class_set = Shape.set (universal 17) four_classes

abbrev four_nulls : Slots
four_nulls = present nothing (present nothing (present nothing (present nothing no_slot)))

-- its tags differ
before_differs : (t u : Tag) → ComesBefore t u → t ≢ u
before_differs t u before same = ComesBefore-irrefl u (subst (λ s. ComesBefore s u) same before)

after_differs : (t u : Tag) → ComesBefore u t → t ≢ u
after_differs t u after same = ComesBefore-irrefl t (subst (λ s. ComesBefore s t) (sym same) after)

classes_differ : AreDistinct (tags_of_components four_classes)
classes_differ =
    all_differ-cons (context 0) (private_0 ∷ application_9 ∷ universal 5 ∷ []) (λ m. not_context (contains_cases private_0 (context 0) (application_9 ∷ universal 5 ∷ []) m))
    (three_differ private_0 application_9 (universal 5) (after_differs private_0 application_9 (inl (omega arith))) (after_differs private_0 (universal 5) (inl (omega arith))) (after_differs application_9 (universal 5) (inl (omega arith))))
  where
    not_context : (private_0 ≡ context 0) ⊎ Contains (application_9 ∷ universal 5 ∷ []) (context 0) → ⊥
    not_context (inl same) = after_differs private_0 (context 0) (inl (omega arith)) same
    not_context (inr later) = not_of_two (context 0) application_9 (universal 5) (after_differs (context 0) application_9 (inl (omega arith))) (after_differs (context 0) (universal 5) (inl (omega arith))) later

usable_private : IsUsable private_0
usable_private = λ same. cc

usable_application : IsUsable application_9
usable_application = λ same. cc

well_formed_classes : IsWellFormed class_set
well_formed_classes = record {
  limits = record { nodes = omega arith; levels = omega arith; each = ((omega arith, omega arith), ((omega arith, tt), ((omega arith, tt), ((omega arith, tt), ((omega arith, tt), tt))))) };
  tags = ((usable_universal 17 (omega arith), classes_differ), (usable_context 0, (usable_private, (usable_application, (usable_universal 5 (omega arith), tt)))));
  numbers = (tt, (tt, (tt, (tt, (tt, tt)))));
  defaults = ((tt, (tt, (tt, (tt, tt)))), (tt, (tt, (tt, (tt, tt)))));
}

-- the octets of each, and the order of universal 5, application 9, context 0 and private 0
abbrev null_a : List ℕ
null_a = 0x80 ∷ 0x00 ∷ []

abbrev null_b : List ℕ
null_b = 0xC0 ∷ 0x00 ∷ []

abbrev null_c : List ℕ
null_c = 0x49 ∷ 0x00 ∷ []

abbrev null_d : List ℕ
null_d = 0x05 ∷ 0x00 ∷ []

abbrev by_class : List (Tag × List ℕ)
by_class = (universal 5, null_d) ∷ (application_9, null_c) ∷ (context 0, null_a) ∷ (private_0, null_b) ∷ []

order_tag : (rule : Rule) (class : Class) (number : ℕ) → number ≤ 30 → IsOrderTag rule (null record { class = class; number = number }) ((class_bits class + form_bit false + number) ∷ 0x00 ∷ []) record { class = class; number = number }
order_tag ber class number low = tt
order_tag cer class number low = alone_is_least record { class = class; number = number }
order_tag der class number low = begins class number false (0x00 ∷ []) low

tag_of_null : (rule : Rule) (class : Class) (number : ℕ) → number ≤ 30
    → BeginsWithOneOf (first_tags (null record { class = class; number = number })) ((class_bits class + form_bit false + number) ∷ 0x00 ∷ []) × IsOrderTag rule (null record { class = class; number = number }) ((class_bits class + form_bit false + number) ∷ 0x00 ∷ []) record { class = class; number = number }
tag_of_null rule class number low =
    let tag : Tag = record { class = class; number = number } in
    ((tag, contains_first tag tag [] refl, begins class number false (0x00 ∷ []) low), order_tag rule class number low)

class_order : (rule : Rule) → IsCanonical rule → AscendsByTag rule four_classes (null_d ∷ null_c ∷ null_a ∷ null_b ∷ [])
class_order rule canonical =
    let tag_of = λ (part : Tag × List ℕ). part.0 in
    let octets_of = λ (part : Tag × List ℕ). part.1 in
    ascends_by_tag rule four_classes tag_of octets_of by_class canonical classes_differ
    (All-from_recursion (λ part. IsOrderTagIn rule four_classes (octets_of part) (tag_of part)) by_class
    (inr (inr (inr (inl (tag_of_null rule Universal 5 (omega arith))))), (inr (inr (inl (tag_of_null rule Application 9 (omega arith)))), (inl (tag_of_null rule Context 0 (omega arith)), (inr (inl (tag_of_null rule Private 0 (omega arith))), tt)))))
    (pairs_in_order (λ x y. ComesBefore (tag_of x) (tag_of y)) by_class
    ((inl (omega arith), (inl (omega arith), (inl (omega arith), tt))), ((inl (omega arith), (inl (omega arith), tt)), ((inl (omega arith), tt), (tt, tt)))))

class_permutes : IsPermutation (null_a ∷ null_b ∷ null_c ∷ null_d ∷ []) (null_d ∷ null_c ∷ null_a ∷ null_b ∷ [])
class_permutes =
    IsPermutation-trans (null_a ∷ null_b ∷ null_c ∷ null_d ∷ []) (null_c ∷ null_d ∷ null_a ∷ null_b ∷ []) (null_d ∷ null_c ∷ null_a ∷ null_b ∷ [])
    (IsPermutation-append_comm (null_a ∷ null_b ∷ []) (null_c ∷ null_d ∷ []))
    (turned null_c null_d (null_a ∷ null_b ∷ []))

each_null : (rule : Rule) → AreSlotEncodings rule four_classes four_nulls (Some null_a ∷ Some null_b ∷ Some null_c ∷ Some null_d ∷ [])
each_null rule = (null_00 rule Context 0 (omega arith), tt, (null_00 rule Private 0 (omega arith), tt, (null_00 rule Application 9 (omega arith), tt, (null_00 rule Universal 5 (omega arith), tt, tt))))

-- 31 08 05 00 49 00 80 00 C0 00 in DER, and so in BER, and 31 80 05 00 49 00 80 00 C0 00 00 00 in CER
classes-der : IsEncoding der class_set (Val.fields four_nulls) (0x31 ∷ 0x08 ∷ 0x05 ∷ 0x00 ∷ 0x49 ∷ 0x00 ∷ 0x80 ∷ 0x00 ∷ 0xC0 ∷ 0x00 ∷ [])
classes-der = record {
  slots = four_nulls;
  is = refl;
  encodings = Some null_a ∷ Some null_b ∷ Some null_c ∷ Some null_d ∷ [];
  each = each_null der;
  order = null_d ∷ null_c ∷ null_a ∷ null_b ∷ [];
  permutes = class_permutes;
  ascends = λ canonical. class_order der canonical;
  whole = definite der Universal 17 true (null_d ++ (null_c ++ (null_a ++ null_b))) (omega arith) (omega arith);
}

classes-ber : IsEncoding ber class_set (Val.fields four_nulls) (0x31 ∷ 0x08 ∷ 0x05 ∷ 0x00 ∷ 0x49 ∷ 0x00 ∷ 0x80 ∷ 0x00 ∷ 0xC0 ∷ 0x00 ∷ [])
classes-ber = encoding_by_ber der class_set (Val.fields four_nulls) (0x31 ∷ 0x08 ∷ 0x05 ∷ 0x00 ∷ 0x49 ∷ 0x00 ∷ 0x80 ∷ 0x00 ∷ 0xC0 ∷ 0x00 ∷ []) classes-der

classes-cer : IsEncoding cer class_set (Val.fields four_nulls) (0x31 ∷ 0x80 ∷ 0x05 ∷ 0x00 ∷ 0x49 ∷ 0x00 ∷ 0x80 ∷ 0x00 ∷ 0xC0 ∷ 0x00 ∷ 0x00 ∷ 0x00 ∷ [])
classes-cer = record {
  slots = four_nulls;
  is = refl;
  encodings = Some null_a ∷ Some null_b ∷ Some null_c ∷ Some null_d ∷ [];
  each = each_null cer;
  order = null_d ∷ null_c ∷ null_a ∷ null_b ∷ [];
  permutes = class_permutes;
  ascends = λ canonical. class_order cer canonical;
  whole = indefinite Universal 17 (null_d ++ (null_c ++ (null_a ++ null_b))) (omega arith);
}

-- in order of declaration, 31 08 80 00 C0 00 49 00 05 00, in BER and not in DER
classes-declared : IsEncoding ber class_set (Val.fields four_nulls) (0x31 ∷ 0x08 ∷ 0x80 ∷ 0x00 ∷ 0xC0 ∷ 0x00 ∷ 0x49 ∷ 0x00 ∷ 0x05 ∷ 0x00 ∷ [])
classes-declared = record {
  slots = four_nulls;
  is = refl;
  encodings = Some null_a ∷ Some null_b ∷ Some null_c ∷ Some null_d ∷ [];
  each = each_null ber;
  order = null_a ∷ null_b ∷ null_c ∷ null_d ∷ [];
  permutes = IsPermutation-refl (null_a ∷ null_b ∷ null_c ∷ null_d ∷ []);
  ascends = λ canonical. absurd (canonical refl);
  whole = inl (definite ber Universal 17 true (null_a ++ (null_b ++ (null_c ++ null_d))) (omega arith) (omega arith));
}

classes-declared_der : IsEncoding der class_set (Val.fields four_nulls) (0x31 ∷ 0x08 ∷ 0x80 ∷ 0x00 ∷ 0xC0 ∷ 0x00 ∷ 0x49 ∷ 0x00 ∷ 0x05 ∷ 0x00 ∷ []) → ⊥
classes-declared_der h =
    in_other_octets der class_set (Val.fields four_nulls) (0x31 ∷ 0x08 ∷ 0x05 ∷ 0x00 ∷ 0x49 ∷ 0x00 ∷ 0x80 ∷ 0x00 ∷ 0xC0 ∷ 0x00 ∷ []) (0x31 ∷ 0x08 ∷ 0x80 ∷ 0x00 ∷ 0xC0 ∷ 0x00 ∷ 0x49 ∷ 0x00 ∷ 0x05 ∷ 0x00 ∷ [])
    well_formed_classes der_is_canonical classes-der (λ same. cc) h

-- The order of a SET where form bits, classes and nested CHOICEs could mislead (X.680 8.6, X.690 9.3 and 10.3).
use Rattle.std.proofs.Common.{◌≡◌, ◌⊎◌, ℕ, List, [], ◌∷◌, ◌++◌, Some, inl, inr, refl, sym, subst, arith, true, false, Contains}
use Rattle.std.proofs.lemmas.List.Sorted.{IsPermutation-refl}
use Rattle.octets.specs.declared.tag.Class.TheVariants.{Universal, Application, Context, Private}
use Rattle.octets.specs.declared.tag.Tag.{Tag}
use Rattle.octets.specs.Rule.{Rule, cer, der}
use Rattle.octets.specs.Tag.{ComesBefore}
use Rattle.octets.proofs.RuleLemmas.{cer_is_canonical, der_is_canonical}
use Rattle.types.specs.Shape.{Shape, Val, Slots, no_slot, present, required, Components, no_component, component, no_alternative, alternative}
use Rattle.types.specs.FirstTags.{tags_of_components, AreDistinct}
use Rattle.types.specs.Order.{BeginsWith, IsLeast, AscendsByTag}
use Rattle.types.specs.Encoding.{IsEncoding}
use Rattle.types.proofs.ListLemmas.{contains_first, contains_later, contains_cases, all_differ-cons, not_in_nil}
use Rattle.types.proofs.OrderLemmas.{ComesBefore-asym, ComesBefore-irrefl}
use Rattle.types.proofs.FormInstances.{universal, context, definite, indefinite}
use Rattle.types.proofs.LeafInstances.{null, nothing, null_00}
use Rattle.types.proofs.TypeInstances.{a, b, two_differ, three_differ, not_of_two, higher, lower}
use Rattle.types.proofs.ApartInstances.{begins}
use Rattle.types.proofs.SameInstances.{turned}
use Rattle.types.proofs.SetInstances.{two_by_tag, alone_is_least}

-- classes come before numbers: universal 5, application 9, context 0, private 0
universal_first : ComesBefore (universal 5) record { class = Application; number = 9 }
universal_first = inl (omega arith)

application_next : ComesBefore record { class = Application; number = 9 } (context 0)
application_next = inl (omega arith)

private_last : ComesBefore (context 31) record { class = Private; number = 0 }
private_last = inl (omega arith)

-- SET { a [0] EXPLICIT NULL, b [1] IMPLICIT NULL }: A0 comes before 81, since form bits do not count
abbrev two_forms : Components
two_forms = component a (Shape.explicit (context 0) (null (universal 5))) required (component b (null (context 1)) required no_component)

abbrev two_nulls : Slots
two_nulls = present nothing (present nothing no_slot)

forms_differ : AreDistinct (tags_of_components two_forms)
forms_differ = two_differ (context 0) (context 1) (lower (context 0) (context 1) (omega arith))

explicit_begins : BeginsWith (context 0) (0xA0 ∷ 0x02 ∷ 0x05 ∷ 0x00 ∷ [])
explicit_begins = begins Context 0 true (0x02 ∷ 0x05 ∷ 0x00 ∷ []) (omega arith)

implicit_begins : BeginsWith (context 1) (0x81 ∷ 0x00 ∷ [])
implicit_begins = begins Context 1 false (0x00 ∷ []) (omega arith)

forms_order : AscendsByTag der two_forms ((0xA0 ∷ 0x02 ∷ 0x05 ∷ 0x00 ∷ []) ∷ (0x81 ∷ 0x00 ∷ []) ∷ [])
forms_order =
    two_by_tag der two_forms (0xA0 ∷ 0x02 ∷ 0x05 ∷ 0x00 ∷ []) (0x81 ∷ 0x00 ∷ []) (context 0) (context 1) der_is_canonical forms_differ
    (inl ((context 0, contains_first (context 0) (context 0) [] refl, explicit_begins), explicit_begins))
    (inr (inl ((context 1, contains_first (context 1) (context 1) [] refl, implicit_begins), implicit_begins)))
    (inr (refl, omega arith))

forms-der : IsEncoding der (Shape.set (universal 17) two_forms) (Val.fields two_nulls) (0x31 ∷ 0x06 ∷ 0xA0 ∷ 0x02 ∷ 0x05 ∷ 0x00 ∷ 0x81 ∷ 0x00 ∷ [])
forms-der = record {
  slots = two_nulls;
  is = refl;
  encodings = Some (0xA0 ∷ 0x02 ∷ 0x05 ∷ 0x00 ∷ []) ∷ Some (0x81 ∷ 0x00 ∷ []) ∷ [];
  each = (record { inner = 0x05 ∷ 0x00 ∷ []; encodes = null_00 der Universal 5 (omega arith); whole = definite der Context 0 true (0x05 ∷ 0x00 ∷ []) (omega arith) (omega arith) }, tt, (null_00 der Context 1 (omega arith), tt, tt));
  order = (0xA0 ∷ 0x02 ∷ 0x05 ∷ 0x00 ∷ []) ∷ (0x81 ∷ 0x00 ∷ []) ∷ [];
  permutes = IsPermutation-refl ((0xA0 ∷ 0x02 ∷ 0x05 ∷ 0x00 ∷ []) ∷ (0x81 ∷ 0x00 ∷ []) ∷ []);
  ascends = λ canonical. forms_order;
  whole = definite der Universal 17 true (0xA0 ∷ 0x02 ∷ 0x05 ∷ 0x00 ∷ 0x81 ∷ 0x00 ∷ []) (omega arith) (omega arith);
}

-- SET { a [3] NULL, b CHOICE { a [5] NULL, b CHOICE { a [1] NULL, b [7] NULL } } } under IMPLICIT TAGS, (NULL, a : NULL): the least
-- tag of the outer CHOICE under CER is one of the inner CHOICE
abbrev nested_choice : Shape
nested_choice = Shape.choice (alternative a (null (context 5)) (alternative b (Shape.choice (alternative a (null (context 1)) (alternative b (null (context 7)) no_alternative))) no_alternative))

abbrev with_nested : Components
with_nested = component a (null (context 3)) required (component b nested_choice required no_component)

abbrev null_and_chosen : Slots
null_and_chosen = present nothing (present (Val.chosen 0 nothing) no_slot)

abbrev null_3 : List ℕ
null_3 = 0x83 ∷ 0x00 ∷ []

abbrev null_5 : List ℕ
null_5 = 0x85 ∷ 0x00 ∷ []

nested_differ : AreDistinct (tags_of_components with_nested)
nested_differ =
    all_differ-cons (context 3) (context 5 ∷ context 1 ∷ context 7 ∷ []) (λ c. not_3 (contains_cases (context 5) (context 3) (context 1 ∷ context 7 ∷ []) c))
    (three_differ (context 5) (context 1) (context 7) (higher (context 5) (context 1) (omega arith)) (lower (context 5) (context 7) (omega arith)) (lower (context 1) (context 7) (omega arith)))
  where
    not_3 : (context 5 ≡ context 3) ⊎ Contains (context 1 ∷ context 7 ∷ []) (context 3) → ⊥
    not_3 (inl same) = higher (context 5) (context 3) (omega arith) same
    not_3 (inr later) = not_of_two (context 3) (context 1) (context 7) (higher (context 3) (context 1) (omega arith)) (lower (context 3) (context 7) (omega arith)) later

least_is_1 : IsLeast (context 5 ∷ context 1 ∷ context 7 ∷ []) (context 1)
least_is_1 = (contains_later (context 5) (context 1) (context 1 ∷ context 7 ∷ []) (contains_first (context 1) (context 1) (context 7 ∷ []) refl), λ other c before. of_first other (contains_cases (context 5) other (context 1 ∷ context 7 ∷ []) c) before)
  where
    of_last : (other : Tag) → (context 7 ≡ other) ⊎ Contains {X = Tag} [] other → ComesBefore other (context 1) → ⊥
    of_last other (inl same) before = ComesBefore-asym (context 7) (context 1) (subst (λ t. ComesBefore t (context 1)) (sym same) before) (inr (refl, omega arith))
    of_last other (inr none) before = not_in_nil other none

    of_second : (other : Tag) → (context 1 ≡ other) ⊎ Contains (context 7 ∷ []) other → ComesBefore other (context 1) → ⊥
    of_second other (inl same) before = ComesBefore-irrefl (context 1) (subst (λ t. ComesBefore t (context 1)) (sym same) before)
    of_second other (inr later) before = of_last other (contains_cases (context 7) other [] later) before

    of_first : (other : Tag) → (context 5 ≡ other) ⊎ Contains (context 1 ∷ context 7 ∷ []) other → ComesBefore other (context 1) → ⊥
    of_first other (inl same) before = ComesBefore-asym (context 5) (context 1) (subst (λ t. ComesBefore t (context 1)) (sym same) before) (inr (refl, omega arith))
    of_first other (inr later) before = of_second other (contains_cases (context 1) other (context 7 ∷ []) later) before

null_3_begins : BeginsWith (context 3) null_3
null_3_begins = begins Context 3 false (0x00 ∷ []) (omega arith)

null_5_begins : BeginsWith (context 5) null_5
null_5_begins = begins Context 5 false (0x00 ∷ []) (omega arith)

nested_order-der : AscendsByTag der with_nested (null_3 ∷ null_5 ∷ [])
nested_order-der =
    two_by_tag der with_nested null_3 null_5 (context 3) (context 5) der_is_canonical nested_differ
    (inl ((context 3, contains_first (context 3) (context 3) [] refl, null_3_begins), null_3_begins))
    (inr (inl ((context 5, contains_first (context 5) (context 5) (context 1 ∷ context 7 ∷ []) refl, null_5_begins), null_5_begins)))
    (inr (refl, omega arith))

nested_order-cer : AscendsByTag cer with_nested (null_5 ∷ null_3 ∷ [])
nested_order-cer =
    two_by_tag cer with_nested null_5 null_3 (context 1) (context 3) cer_is_canonical nested_differ
    (inr (inl ((context 5, contains_first (context 5) (context 5) (context 1 ∷ context 7 ∷ []) refl, null_5_begins), least_is_1)))
    (inl ((context 3, contains_first (context 3) (context 3) [] refl, null_3_begins), alone_is_least (context 3)))
    (inr (refl, omega arith))

chosen_5 : (rule : Rule) → IsEncoding rule nested_choice (Val.chosen 0 nothing) null_5
chosen_5 rule = record { which = 0; value = nothing; is = refl; chosen = null_00 rule Context 5 (omega arith) }

-- 31 04 83 00 85 00 in DER, and 31 80 85 00 83 00 00 00 in CER
nested-der : IsEncoding der (Shape.set (universal 17) with_nested) (Val.fields null_and_chosen) (0x31 ∷ 0x04 ∷ 0x83 ∷ 0x00 ∷ 0x85 ∷ 0x00 ∷ [])
nested-der = record {
  slots = null_and_chosen;
  is = refl;
  encodings = Some null_3 ∷ Some null_5 ∷ [];
  each = (null_00 der Context 3 (omega arith), tt, (chosen_5 der, tt, tt));
  order = null_3 ∷ null_5 ∷ [];
  permutes = IsPermutation-refl (null_3 ∷ null_5 ∷ []);
  ascends = λ canonical. nested_order-der;
  whole = definite der Universal 17 true (null_3 ++ null_5) (omega arith) (omega arith);
}

nested-cer : IsEncoding cer (Shape.set (universal 17) with_nested) (Val.fields null_and_chosen) (0x31 ∷ 0x80 ∷ 0x85 ∷ 0x00 ∷ 0x83 ∷ 0x00 ∷ 0x00 ∷ 0x00 ∷ [])
nested-cer = record {
  slots = null_and_chosen;
  is = refl;
  encodings = Some null_3 ∷ Some null_5 ∷ [];
  each = (null_00 cer Context 3 (omega arith), tt, (chosen_5 cer, tt, tt));
  order = null_5 ∷ null_3 ∷ [];
  permutes = turned null_3 null_5 [];
  ascends = λ canonical. nested_order-cer;
  whole = indefinite Universal 17 (null_5 ++ null_3) (omega arith);
}

-- Lemmas on parts of which none has come.
use Rattle.std.specs.List.{AllByRecursion, AllZip, concat}
use Rattle.std.proofs.Common.{◌≡◌, inl, inr, ℕ, suc, true, List, [], ◌∷◌, ◌++◌, Option, Some, None, refl, sym, ap, ◌∙◌, subst, map, arith, IsPermutation}
use Rattle.std.proofs.lemmas.List.Sorted.{IsPermutation-refl, IsPermutation-sym}
use Rattle.octets.specs.declared.tag.Tag.{Tag}
use Rattle.octets.specs.Rule.{ber}
use Rattle.types.specs.Shape.{Val, Slots, no_slot, absent, present, listed, Requirement, required, optional, default, Shape}
use Rattle.types.specs.View.{ComponentView, components_of}
use Rattle.types.specs.Conforms.{MayBeAbsent}
use Rattle.types.specs.FirstTags.{first_tags, HasDistinctTags}
use Rattle.types.specs.WellFormed.{nodes_of, nodes_of_components, IsNodeWithin, HasGoodDefaults, AreGoodDefaults}
use Rattle.types.specs.Form.{IsConstructed}
use Rattle.types.specs.Depth.{IsNested}
use Rattle.types.specs.Encoding.{Meaning, standing, StandsForAbsent, IsEncoding, AreSlotEncodings}
use Rattle.types.proofs.ListLemmas.{all_append}
use Rattle.types.proofs.FormLemmas.{definite_unique}
use Rattle.types.proofs.NestingLemmas.{parts_unique, definite_not_indefinite, indefinite_opening}
use Rattle.types.proofs.BeginningLemmas.{IsOneNested, all_zip, all_permutation, absent_value, encoding_is_nested, slots_are_nested, explicit_parts, one_nested_above, one_nested_unique}
use Rattle.encoding_parts.specs.Parts.{Parts, SetComponent, IsPart, IsLeft, IsLeftOfSetComponent, CanFill, HasComeBy, Holds, ArePartsOf, AreNone, IsGoodType, IsGoodComponent, AreGood}
use Rattle.encoding_parts.proofs.DepthLemmas.{deeper}

-- one constructed encoding has one list of parts
same_parts : (t u : Tag) (ps qs : List (List ℕ)) (octets : List ℕ) → AllByRecursion IsOneNested ps → AllByRecursion IsOneNested qs → IsConstructed ber t (concat ps) octets → IsConstructed ber u (concat qs) octets → ps ≡ qs
same_parts t u ps qs octets h k (inl f) (inl g) =
    let same = definite_unique ber ber t u true true (concat ps) (concat qs) octets octets [] [] f g refl in
    parts_unique IsOneNested IsOneNested one_nested_unique one_nested_above one_nested_above ps qs [] [] h k tt tt (ap (λ x. x ++ []) same.contents)
same_parts t u ps qs octets h k (inl f) (inr g) = absurd (definite_not_indefinite t u true (concat ps) (concat qs) octets octets [] [] f g refl)
same_parts t u ps qs octets h k (inr f) (inl g) = absurd (definite_not_indefinite u t true (concat qs) (concat ps) octets octets [] [] g f refl)
same_parts t u ps qs octets h k (inr f) (inr g) =
    let opening = indefinite_opening t u (concat ps) (concat qs) octets octets [] [] f g refl in
    parts_unique IsOneNested IsOneNested one_nested_unique one_nested_above one_nested_above ps qs (0 ∷ 0 ∷ []) (0 ∷ 0 ∷ []) h k refl refl opening.contents

one_nested : (n : ℕ) (parts : List (List ℕ)) → AllByRecursion (IsNested n) parts → AllByRecursion IsOneNested parts
one_nested n [] h = tt
one_nested n (part ∷ parts) h = ((n, h.0), one_nested n parts h.1)

-- the parts of an encoding nest one less than it
parts_within : (levels : ℕ) (tag : Tag) (parts : List (List ℕ)) (octets : List ℕ) → AllByRecursion IsOneNested parts → IsConstructed ber tag (concat parts) octets → IsNested (suc levels) octets → AllByRecursion (IsNested levels) parts
parts_within levels tag parts octets each whole h =
    let deep = deeper (suc levels) tag (concat parts) octets octets [] [] whole h refl in
    let same = same_parts tag deep.within.tag parts deep.within.parts octets each (one_nested deep.levels deep.within.parts deep.within.each) whole deep.within.whole in
    let count : deep.levels ≡ levels = omega (arith, deep.is) in
    subst (AllByRecursion (IsNested levels)) (sym same) (subst (λ n. AllByRecursion (IsNested n) deep.within.parts) count deep.within.each)

-- contents octets that complete the parts, in a constructed encoding
pub record IsOpened (levels : ℕ) (parts : Parts) (tag : Tag) (octets : List ℕ) : Type 0 where
  pub contents : List ℕ
  pub whole : IsConstructed ber tag contents octets
  pub filled : CanFill levels parts contents

-- items that nest so deep
each_part : (levels : ℕ) (type : Shape) (values : List Val) (encodings : List (List ℕ)) → AllZip (IsEncoding ber type) values encodings → AllByRecursion (IsNested levels) encodings → AllByRecursion (IsPart levels type) encodings
each_part levels type [] [] h deep = tt
each_part levels type [] (encoding ∷ encodings) h deep = elim h [ ]
each_part levels type (value ∷ values) [] h deep = elim h [ ]
each_part levels type (value ∷ values) (encoding ∷ encodings) h deep = (record { value = value; encoding = h.0; depth = deep.0 }, each_part levels type values encodings h.1 deep.1)

-- a component for which nothing stands may be absent
stands_absent : (requirement : Requirement) (Encodes : Meaning) → StandsForAbsent ber requirement Encodes None → MayBeAbsent requirement
stands_absent required Encodes h = h
stands_absent optional Encodes h = tt
stands_absent (default value) Encodes h = tt

-- components that nest so deep
each_left : (levels : ℕ) (left : List ComponentView) (slots : Slots) (encodings : List (Option (List ℕ))) → AreSlotEncodings ber (components_of left) slots encodings → AllByRecursion (IsNested levels) (standing encodings) → AllZip (IsLeft levels) left encodings
each_left levels [] no_slot [] h deep = tt
each_left levels [] no_slot (encoding ∷ encodings) h deep = elim h [ ]
each_left levels [] (absent slots) encodings h deep = elim h [ ]
each_left levels [] (present value slots) encodings h deep = elim h [ ]
each_left levels (c ∷ left) no_slot encodings h deep = elim h [ ]
each_left levels (c ∷ left) (absent slots) [] h deep = elim h [ ]
each_left levels (c ∷ left) (absent slots) (None ∷ encodings) h deep = (stands_absent c.requirement (IsEncoding ber c.type) h.0, each_left levels left slots encodings h.1 deep)
each_left levels (c ∷ left) (absent slots) (Some octets ∷ encodings) h deep =
    let value = absent_value ber c.requirement (IsEncoding ber c.type) octets h.0 in
    (record { value = value.0; encoding = value.1; depth = deep.0 }, each_left levels left slots encodings h.1 deep.1)
each_left levels (c ∷ left) (present value slots) [] h deep = elim h [ ]
each_left levels (c ∷ left) (present value slots) (None ∷ encodings) h deep = elim h [ ]
each_left levels (c ∷ left) (present value slots) (Some octets ∷ encodings) h deep =
    (record { value = value; encoding = h.0; depth = deep.0 }, each_left levels left slots encodings h.2 deep.1)

vacant_left : (levels : ℕ) (c : ComponentView) (come : Option Val) (encoding : Option (List ℕ)) → come ≡ None → IsLeft levels c encoding → IsLeftOfSetComponent levels record { component = c; come = come } encoding
vacant_left levels c None encoding e h = h
vacant_left levels c (Some value) encoding e h = cc

set_components_left : (levels : ℕ) (set_components : List SetComponent) (encodings : List (Option (List ℕ))) → AllByRecursion (λ s. s.come ≡ None) set_components → AllZip (IsLeft levels) (map (λ s. s.component) set_components) encodings → AllZip (IsLeftOfSetComponent levels) set_components encodings
set_components_left levels [] [] none h = tt
set_components_left levels [] (encoding ∷ encodings) none h = elim h [ ]
set_components_left levels (s ∷ set_components) [] none h = elim h [ ]
set_components_left levels (s ∷ set_components) (encoding ∷ encodings) none h = (vacant_left levels s.component s.come encoding none.0 h.0, set_components_left levels set_components encodings none.1 h.1)

same_tag : (t u : Tag) → t ∷ [] ≡ u ∷ [] → t ≡ u
same_tag t u h = cc

-- an encoding of a type with parts is constructed, of contents octets that complete them
pub opens : (levels : ℕ) (node : Shape) (parts : Parts) (tag : Tag) (octets : List ℕ)
    → ArePartsOf node parts → AreNone parts → IsGoodType node → first_tags node ≡ tag ∷ [] → IsPart (suc levels) node octets → IsOpened levels parts tag octets
opens levels (Shape.explicit t inner) (Parts.explicit type held) tag octets of none good own h =
    let e = h.encoding in
    let one = encoding_is_nested inner h.value e.inner good.tags.1 e.encodes in
    let deep = parts_within levels t (e.inner ∷ []) octets (one, tt) (explicit_parts ber t e.inner octets e.whole) h.depth in
    let part : IsPart levels inner e.inner = record { value = h.value; encoding = e.encodes; depth = deep.0 } in
    record {
      contents = e.inner;
      whole = subst (λ x. IsConstructed ber x e.inner octets) (same_tag t tag own) e.whole;
      filled = subst (λ x. CanFill levels (Parts.explicit type x) e.inner) (sym none) (subst (λ x. IsPart levels x e.inner) of part);
    }
opens levels (Shape.sequence_of t inner) (Parts.items type values) tag octets of none good own h =
    let e = h.encoding in
    let nested = all_zip (IsEncoding ber inner) IsOneNested (λ x c g. encoding_is_nested inner x c good.tags.1 g) (listed e.items) e.encodings e.each in
    let deep = parts_within levels t e.encodings octets nested e.whole h.depth in
    let all = each_part levels inner (listed e.items) e.encodings e.each deep in
    record {
      contents = concat e.encodings;
      whole = subst (λ x. IsConstructed ber x (concat e.encodings) octets) (same_tag t tag own) e.whole;
      filled = record { encodings = e.encodings; each = subst (λ x. AllByRecursion (IsPart levels x) e.encodings) of all; joined = refl };
    }
opens levels (Shape.set_of t inner) (Parts.items type values) tag octets of none good own h =
    let e = h.encoding in
    let nested = all_zip (IsEncoding ber inner) IsOneNested (λ x c g. encoding_is_nested inner x c good.tags.1 g) (listed e.items) e.encodings e.each in
    let deep = parts_within levels t e.order octets (all_permutation IsOneNested e.encodings e.order e.permutes nested) e.whole h.depth in
    let back = all_permutation (IsNested levels) e.order e.encodings (IsPermutation-sym e.encodings e.order e.permutes) deep in
    let all = all_permutation (IsPart levels inner) e.encodings e.order e.permutes (each_part levels inner (listed e.items) e.encodings e.each back) in
    record {
      contents = concat e.order;
      whole = subst (λ x. IsConstructed ber x (concat e.order) octets) (same_tag t tag own) e.whole;
      filled = record { encodings = e.order; each = subst (λ x. AllByRecursion (IsPart levels x) e.order) of all; joined = refl };
    }
opens levels (Shape.sequence t components) (Parts.sequence passed slots left) tag octets of none good own h =
    let e = h.encoding in
    let nested = slots_are_nested components e.slots e.encodings good.tags.1 e.each in
    let deep = parts_within levels t (standing e.encodings) octets nested e.whole h.depth in
    let are : components ≡ components_of left = of ∙ ap (λ x. components_of (x ++ left)) none.0 in
    record {
      contents = concat (standing e.encodings);
      whole = subst (λ x. IsConstructed ber x (concat (standing e.encodings)) octets) (same_tag t tag own) e.whole;
      filled = record { encodings = e.encodings; each = each_left levels left e.slots e.encodings (subst (λ x. AreSlotEncodings ber x e.slots e.encodings) are e.each) deep; joined = refl };
    }
opens levels (Shape.set t components) (Parts.set set_components) tag octets of none good own h =
    let e = h.encoding in
    let nested = slots_are_nested components e.slots e.encodings good.tags.1 e.each in
    let deep = parts_within levels t e.order octets (all_permutation IsOneNested (standing e.encodings) e.order e.permutes nested) e.whole h.depth in
    let back = all_permutation (IsNested levels) e.order (standing e.encodings) (IsPermutation-sym (standing e.encodings) e.order e.permutes) deep in
    let all = each_left levels (map (λ s. s.component) set_components) e.slots e.encodings (subst (λ x. AreSlotEncodings ber x e.slots e.encodings) of e.each) back in
    record {
      contents = concat e.order;
      whole = subst (λ x. IsConstructed ber x (concat e.order) octets) (same_tag t tag own) e.whole;
      filled = record { encodings = e.encodings; each = set_components_left levels set_components e.encodings none all; order = e.order; permutes = e.permutes; joined = refl };
    }
opens levels node parts tag octets of none good own h = elim of [ ]

not_at_zero : (tag : Tag) (contents octets : List ℕ) → IsConstructed ber tag contents octets → IsNested 0 octets → ⊥
not_at_zero tag contents octets whole h =
    let deep = deeper 0 tag contents octets octets [] [] whole h refl in
    omega (arith, deep.is)

-- a type with parts has no encoding in which none is constructed
pub none_at_zero : (node : Shape) (parts : Parts) (octets : List ℕ) → ArePartsOf node parts → IsPart 0 node octets → ⊥
none_at_zero (Shape.explicit t inner) (Parts.explicit type held) octets of h = not_at_zero t h.encoding.inner octets h.encoding.whole h.depth
none_at_zero (Shape.sequence_of t inner) (Parts.items type values) octets of h = not_at_zero t (concat h.encoding.encodings) octets h.encoding.whole h.depth
none_at_zero (Shape.set_of t inner) (Parts.items type values) octets of h = not_at_zero t (concat h.encoding.order) octets h.encoding.whole h.depth
none_at_zero (Shape.sequence t components) (Parts.sequence passed slots left) octets of h = not_at_zero t (concat (standing h.encoding.encodings)) octets h.encoding.whole h.depth
none_at_zero (Shape.set t components) (Parts.set set_components) octets of h = not_at_zero t (concat h.encoding.order) octets h.encoding.whole h.depth
none_at_zero node parts octets of h = elim of [ ]

vacant_come_by : (levels : ℕ) (c : ComponentView) (come : Option Val) → come ≡ None → HasComeBy levels record { component = c; come = come } None
vacant_come_by levels c None e = refl
vacant_come_by levels c (Some value) e = cc

set_components_come_by : (levels : ℕ) (set_components : List SetComponent) → AllByRecursion (λ s. s.come ≡ None) set_components → AllZip (HasComeBy levels) set_components (map (λ s. None) set_components)
set_components_come_by levels [] none = tt
set_components_come_by levels (s ∷ set_components) none = (vacant_come_by levels s.component s.come none.0, set_components_come_by levels set_components none.1)

none_stands : (set_components : List SetComponent) → standing (map (λ s. None) set_components) ≡ []
none_stands [] = refl
none_stands (s ∷ set_components) = none_stands set_components

-- no octets, before any part
pub none_holds : (levels : ℕ) (parts : Parts) → AreNone parts → Holds levels parts []
none_holds levels (Parts.explicit type None) none = refl
none_holds levels (Parts.explicit type (Some value)) none = cc
none_holds levels (Parts.items type []) none = record { encodings = []; each = tt; joined = refl }
none_holds levels (Parts.items type (value ∷ values)) none = cc
none_holds levels (Parts.sequence [] [] left) none = record { encodings = []; each = tt; joined = refl }
none_holds levels (Parts.sequence [] (slot ∷ slots) left) none = let e : slot ∷ slots ≡ [] = none.1 in cc
none_holds levels (Parts.sequence (c ∷ passed) slots left) none = let e : c ∷ passed ≡ [] = none.0 in cc
none_holds levels (Parts.set set_components) none =
    record { encodings = map (λ s. None) set_components; each = set_components_come_by levels set_components none; order = []; permutes = subst (λ x. IsPermutation x []) (sym (none_stands set_components)) (IsPermutation-refl []); joined = refl }

pub components_good : (left : List ComponentView) → AllByRecursion IsNodeWithin (nodes_of_components (components_of left)) → AllByRecursion HasDistinctTags (nodes_of_components (components_of left)) → AllByRecursion HasGoodDefaults (nodes_of_components (components_of left)) → AreGoodDefaults (components_of left) → AllByRecursion IsGoodComponent left
components_good [] within tags defaults good = tt
components_good (c ∷ left) within tags defaults good =
    let w = all_append IsNodeWithin (nodes_of c.type) (nodes_of_components (components_of left)) within in
    let t = all_append HasDistinctTags (nodes_of c.type) (nodes_of_components (components_of left)) tags in
    let d = all_append HasGoodDefaults (nodes_of c.type) (nodes_of_components (components_of left)) defaults in
    (record { type = record { within = w.0; tags = t.0; defaults = d.0 }; default = good.0 }, components_good left w.1 t.1 d.1 good.1)

set_components_good : (set_components : List SetComponent) → AllByRecursion IsGoodComponent (map (λ s. s.component) set_components) → AllByRecursion (λ s. IsGoodComponent s.component) set_components
set_components_good [] h = tt
set_components_good (s ∷ set_components) h = (h.0, set_components_good set_components h.1)

-- the parts of a good type
pub parts_good : (node : Shape) (parts : Parts) → IsGoodType node → ArePartsOf node parts → AreNone parts → AreGood parts
parts_good (Shape.explicit t inner) (Parts.explicit type held) good of none = subst IsGoodType of record { within = good.within.1; tags = good.tags.1; defaults = good.defaults.1 }
parts_good (Shape.sequence_of t inner) (Parts.items type values) good of none = subst IsGoodType of record { within = good.within.1; tags = good.tags.1; defaults = good.defaults.1 }
parts_good (Shape.set_of t inner) (Parts.items type values) good of none = subst IsGoodType of record { within = good.within.1; tags = good.tags.1; defaults = good.defaults.1 }
parts_good (Shape.sequence t components) (Parts.sequence passed slots left) good of none =
    let are : components ≡ components_of left = of ∙ ap (λ x. components_of (x ++ left)) none.0 in
    let now : IsGoodType (Shape.sequence t (components_of left)) = subst (λ x. IsGoodType (Shape.sequence t x)) are good in
    (components_good left now.within.1 now.tags.1 now.defaults.1 now.defaults.0, now.tags.0.1)
parts_good (Shape.set t components) (Parts.set set_components) good of none =
    let now : IsGoodType (Shape.set t (components_of (map (λ s. s.component) set_components))) = subst (λ x. IsGoodType (Shape.set t x)) of good in
    (set_components_good set_components (components_good (map (λ s. s.component) set_components) now.within.1 now.tags.1 now.defaults.1 now.defaults.0), now.tags.0.1)
parts_good node parts good of none = elim of [ ]

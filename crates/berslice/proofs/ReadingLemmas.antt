-- Lemmas on values that are read at once.
use Rattle.std.specs.List.{AllByRecursion, concat}
use Rattle.std.proofs.Common.{◌≡◌, ◌≢◌, ◌+◌, ◌-◌, ◌<◌, ◌≤◌, ℕ, zero, suc, List, [], ◌∷◌, ◌++◌, Option, Some, None, Box, Vec, Global, IfSome, refl, sym, ap, ◌∙◌, subst, subst₂, arith, set, take, drop, map, option_map, length, get_or, append-nil, append_assoc, drop-drop}
use Rattle.std.proofs.Math.Seq.{take-add}
use Rattle.std.proofs.lemmas.List.{map_push, map_more, length-drop, take_all, take_rest, take_more_set}
use Rattle.octets.specs.declared.tag.Tag.{Tag}
use Rattle.octets.specs.Rule.{ber}
use Rattle.types.specs.declared.value.Value.{Value}
use Rattle.types.specs.declared.value.Value.TheVariants as value
use Rattle.types.specs.declared.ty.Field.{Field}
use Rattle.types.specs.declared.ty.Alternative.{Alternative}
use Rattle.types.specs.Shape.{Val, Shape}
use Rattle.types.specs.View.{ComponentView, ty_view, value_view, field_view, requirement_view, components_view, alternatives_view, components_of, slots_of}
use Rattle.types.specs.FirstTags.{IsUsable, first_tags}
use Rattle.types.specs.Form.{IsConstructed}
use Rattle.types.specs.Encoding.{IsEncoding, standing}
use Rattle.types.proofs.NestingLemmas.{nested_above}
use Rattle.types.proofs.ViewLemmas.{value-Chosen, value-Fields, value-Items, field_is}
use Rattle.encoding_parts.specs.HeldParts.{members_view}
use Rattle.encoding_parts.specs.Parts.{Parts, SetComponent, IsVacant, IsValueOf, IsPartOf, IsCome, IsSlotOf, Holds, IsGoodType, IsGoodComponent}
use Rattle.encoding_parts.proofs.ChoiceLemmas.{alternative_encodes, alternative_nodes}
use Rattle.encoding_parts.proofs.PartsOpenLemmas.{none_holds, components_good, parts_good}
use Rattle.encoding_parts.proofs.PartsPutLemmas.{standing_append, concat_more, items_more, slot_come, come_append, put_holds, put_parts_of}
use Rattle.encoding_parts.proofs.PartsValueLemmas.{sequence_of_encodes, set_of_encodes, value_encodes}
use Rattle.encoding_parts.proofs.SetComponentLemmas.{set_component_taken}
use Rattle.berslice.specs.Reading.{IsRead, AreContentsRead, IsComponentRead, AreComponentsRead, AreItemsRead, AreMoreItemsRead, IsItemRead, AreSetComponentsOf, AreMembersRead, IsMemberRead}

-- two facts of one answer
pub both_of : (P Q R : ℕ → Type 0) (answer : Option ℕ) → IfSome answer P → IfSome answer Q → ((n : ℕ) → P n → Q n → R n) → IfSome answer R
both_of P Q R None p q f = tt
both_of P Q R (Some n) p q f = f n p q

pub IfSome-map : (answer : Option ℕ) (P Q : ℕ → Type 0) → ((n : ℕ) → P n → Q n) → IfSome answer P → IfSome answer Q
IfSome-map None P Q step p = tt
IfSome-map (Some n) P Q step p = step n p

one_more : (levels : ℕ) → levels ≢ 0 → suc (levels - 1) ≡ levels
one_more zero some = absurd (some refl)
one_more (suc n) some = omega arith

-- an encoding is not empty
pub read_some : (levels : ℕ) (type : Shape) (octets : List ℕ) (v : Value) (used : ℕ) → IsRead levels type octets v used → 0 < used
read_some levels type octets v zero h = let above = nested_above levels [] h.1.depth in let none : above.first ∷ above.others ≡ [] = sym above.is in cc
read_some levels type octets v (suc used) h = omega arith

-- around contents octets, an encoding
pub constructed_read : (levels : ℕ) (tag : Tag) (type : Shape) (octets inside : List ℕ) (v : Value) (used whole : ℕ) → IsGoodType type → levels ≢ 0 → first_tags type ≡ tag ∷ [] → AreContentsRead (levels - 1) type inside v used
    → whole ≤ length octets → IsConstructed ber tag (take used inside) (take whole octets) → IsRead levels type octets v whole
constructed_read levels tag type octets inside v used whole good some own h there c =
    (there, subst (λ n. IsPartOf n type (value_view v) (take whole octets)) (one_more levels some) (value_encodes (levels - 1) type h.parts tag (value_view v) (take used inside) (take whole octets) h.of h.come h.value good own c))

-- an encoding is the contents octets under an explicit tag
pub explicit_contents : (levels : ℕ) (tag : Tag) (type : Shape) (inside : List ℕ) (v : Value) (used : ℕ) → IsRead levels type inside v used → AreContentsRead levels (Shape.explicit tag type) inside v used
explicit_contents levels tag type inside v used h = record { there = h.0; parts = Parts.explicit type (Some (value_view v)); of = refl; come = h.1; value = refl }

-- components are those of a SEQUENCE
pub sequence_contents : (levels : ℕ) (tag : Tag) (fields : List Field) (inside : List ℕ) (v : Value) (slots : List (Option Value)) (used : ℕ) → value_view v ≡ Val.fields (slots_of (map (option_map value_view) slots))
    → AreComponentsRead levels (map field_view fields) inside slots used → AreContentsRead levels (Shape.sequence tag (components_view fields)) inside v used
sequence_contents levels tag fields inside v slots used viewed h =
    let cs = map field_view fields in
    let views = map (option_map value_view) slots in
    record {
      there = h.there;
      parts = Parts.sequence cs views [];
      of = ap components_of (sym (append-nil cs));
      come = h.come;
      value = (tt, viewed ∙ ap (λ l. Val.fields (slots_of l)) (sym (append-nil views)));
    }

-- around items, a SEQUENCE OF
pub sequence_of_read : (levels : ℕ) (tag : Tag) (type : Shape) (octets inside : List ℕ) (items : Vec Value Global) (used whole : ℕ) → IsUsable tag → levels ≢ 0
    → AreItemsRead (levels - 1) type inside items.items used → whole ≤ length octets → IsConstructed ber tag (take used inside) (take whole octets) → IsRead levels (Shape.sequence_of tag type) octets (value.Items items) whole
sequence_of_read levels tag type octets inside items used whole usable some h there c =
    let part = sequence_of_encodes (levels - 1) tag type (map value_view items.items) (take used inside) (take whole octets) usable h.come c in
    let viewed = subst (λ v. IsPartOf (suc (levels - 1)) (Shape.sequence_of tag type) v (take whole octets)) (sym (value-Items items)) part in
    (there, subst (λ n. IsPartOf n (Shape.sequence_of tag type) (value_view (value.Items items)) (take whole octets)) (one_more levels some) viewed)

-- and a SET OF
pub set_of_read : (levels : ℕ) (tag : Tag) (type : Shape) (octets inside : List ℕ) (items : Vec Value Global) (used whole : ℕ) → IsUsable tag → levels ≢ 0
    → AreItemsRead (levels - 1) type inside items.items used → whole ≤ length octets → IsConstructed ber tag (take used inside) (take whole octets) → IsRead levels (Shape.set_of tag type) octets (value.Items items) whole
set_of_read levels tag type octets inside items used whole usable some h there c =
    let part = set_of_encodes (levels - 1) tag type (map value_view items.items) (take used inside) (take whole octets) usable h.come c in
    let viewed = subst (λ v. IsPartOf (suc (levels - 1)) (Shape.set_of tag type) v (take whole octets)) (sym (value-Items items)) part in
    (there, subst (λ n. IsPartOf n (Shape.set_of tag type) (value_view (value.Items items)) (take whole octets)) (one_more levels some) viewed)

-- no item yet
no_items : (levels : ℕ) (type : Shape) (octets : List ℕ) (items : List Value) → items ≡ [] → AreItemsRead levels type octets items 0
no_items levels type octets items none = rw none record { there = omega arith; come = record { encodings = []; each = tt; joined = refl } }

-- one item more
item_read : (levels : ℕ) (type : Shape) (octets : List ℕ) (items : List Value) (v : Value) (at used : ℕ) → AreItemsRead levels type octets items at → IsRead levels type (drop at octets) v used → AreItemsRead levels type octets (items ++ (v ∷ [])) (at + used)
item_read levels type octets items v at used h is =
    let part = take used (drop at octets) in
    let all = items_more levels type (map value_view items) h.come.encodings (value_view v) part h.come.each is.1 in
    let rest = length-drop at octets in
    record {
      there = omega (arith, h.there, is.0, rest);
      come = rw (map_push value_view items v) record { encodings = h.come.encodings ++ (part ∷ []); each = all; joined = take-add at used octets ∙ ap (λ z. z ++ part) h.come.joined ∙ sym (concat_more h.come.encodings part) };
    }

-- the items behind those that had come
no_more_items : (levels : ℕ) (type : Shape) (octets : List ℕ) (old : List Value) → AreMoreItemsRead levels type octets old old 0
no_more_items levels type octets old = record { more = []; joined = sym (append-nil old); read = no_items levels type octets [] refl }

one_item_more : (levels : ℕ) (type : Shape) (octets : List ℕ) (old items new : List Value) (at used : ℕ) → AreMoreItemsRead levels type octets old items at → IsItemRead levels type (drop at octets) items new used → AreMoreItemsRead levels type octets old new (at + used)
one_item_more levels type octets old items new at used h one =
    let last = one.value ∷ [] in record {
      more = h.more ++ last;
      joined = one.joined ∙ (ap (λ l. l ++ last) h.joined ∙ append_assoc old h.more last);
      read = item_read levels type octets h.more one.value at used h.read one.read;
    }

-- the items that stand in front of those octets that are left
pub record AreItemsBefore (levels : ℕ) (type : Shape) (octets rest : List ℕ) (old new : List Value) : Type 0 where
  pub at : ℕ
  pub left : rest ≡ drop at octets
  pub read : AreMoreItemsRead levels type octets old new at

pub no_items_before : (levels : ℕ) (type : Shape) (octets : List ℕ) (old : List Value) → AreItemsBefore levels type octets octets old old
no_items_before levels type octets old = record { at = 0; left = refl; read = no_more_items levels type octets old }

pub one_more_before : (levels : ℕ) (type : Shape) (octets rest : List ℕ) (old items new : List Value) (used : ℕ) → AreItemsBefore levels type octets rest old items → IsItemRead levels type rest items new used
    → AreItemsBefore levels type octets (take (length rest - used) (drop used rest)) old new
one_more_before levels type octets rest old items new used h one = record {
  at = h.at + used;
  left = take_rest rest used ∙ (ap (drop used) h.left ∙ drop-drop used h.at octets);
  read = one_item_more levels type octets old items new h.at used h.read (subst (λ o. IsItemRead levels type o items new used) h.left one);
}

-- they have as many octets as are not left
pub items_before : (levels : ℕ) (type : Shape) (octets rest : List ℕ) (old new : List Value) (count : ℕ) → AreItemsBefore levels type octets rest old new → count ≡ length octets - length rest → AreMoreItemsRead levels type octets old new count
items_before levels type octets rest old new count h is =
    let same : h.at ≡ count = omega (arith, is, ap length h.left, length-drop h.at octets, h.read.read.there) in
    subst (λ n. AreMoreItemsRead levels type octets old new n) same h.read

-- fewer are left behind one item more
pub fewer_left : (levels : ℕ) (type : Shape) (rest : List ℕ) (old new : List Value) (used : ℕ) → IsItemRead levels type rest old new used → length (take (length rest - used) (drop used rest)) < length rest
fewer_left levels type rest old new used one =
    let some = read_some levels type rest one.value used one.read in
    omega (arith, some, one.read.0, ap length (take_rest rest used), length-drop used rest)

pub all_items : (levels : ℕ) (type : Shape) (octets : List ℕ) (old new : List Value) (used : ℕ) → old ≡ [] → AreMoreItemsRead levels type octets old new used → AreItemsRead levels type octets new used
all_items levels type octets old new used none h = subst (λ l. AreItemsRead levels type octets l used) (sym (h.joined ∙ ap (λ l. l ++ h.more) none)) h.read

-- no component yet
pub no_components : (levels : ℕ) (octets : List ℕ) (slots : List (Option Value)) → slots ≡ [] → AreComponentsRead levels [] octets slots 0
no_components levels octets slots none = rw none record { there = omega arith; come = record { encodings = []; each = tt; joined = refl } }

-- one component more
pub component_read : (levels : ℕ) (fields : List Field) (i : ℕ) (f : Field) (octets : List ℕ) (slots : List (Option Value)) (slot : Option Value) (at used : ℕ) → i < length fields → f ≡ get_or fields i f
    → AreComponentsRead levels (map field_view (take i fields)) octets slots at → IsComponentRead levels (field_view f) (drop at octets) slot used → AreComponentsRead levels (map field_view (take (i + 1) fields)) octets (slots ++ (slot ∷ [])) (at + used)
component_read levels fields i f octets slots slot at used below is h one =
    let view = option_map value_view in
    let cs = map field_view (take i fields) in
    let more : map field_view (take (i + 1) fields) ≡ cs ++ (field_view f ∷ []) = map_more field_view fields i f below ∙ ap (λ (x : Field). cs ++ (field_view x ∷ [])) (sym is) in
    let come = come_append levels cs (field_view f ∷ []) (map view slots) (view slot ∷ []) h.come.encodings (one.encoding ∷ []) h.come.each (one.come, tt) in
    let joined : take (at + used) octets ≡ concat (standing (h.come.encodings ++ (one.encoding ∷ []))) = take-add at used octets ∙ ap (λ z. z ++ take used (drop at octets)) h.come.joined ∙ ap (λ z. concat (standing h.come.encodings) ++ z) one.joined
    ∙ sym (ap concat (standing_append h.come.encodings (one.encoding ∷ [])) ∙ concat_two (standing h.come.encodings) (standing (one.encoding ∷ []))) in
    let rest = length-drop at octets in
    record {
      there = omega (arith, h.there, one.there, rest);
      come = rw (more, map_push view slots slot) record { encodings = h.come.encodings ++ (one.encoding ∷ []); each = come; joined = joined };
    }
  where
    concat_two : (xs ys : List (List ℕ)) → concat (xs ++ ys) ≡ concat xs ++ concat ys
    concat_two [] ys = refl
    concat_two (x ∷ xs) ys = ap (λ z. x ++ z) (concat_two xs ys) ∙ sym (append_assoc x (concat xs) (concat ys))

-- a component that stands there
pub component_stands : (levels : ℕ) (f : Field) (octets : List ℕ) (v : Value) (slot : Option Value) (used : ℕ) → IsRead levels (ty_view f.ty) octets v used
    → IsSlotOf (requirement_view f.presence) (value_view v) (option_map value_view slot) → IsComponentRead levels (field_view f) octets slot used
component_stands levels f octets v slot used h is =
    let part = take used octets in
    let c = field_view f in
    let same = field_is f in
    let come : IsCome levels c (option_map value_view slot) (Some part) = subst (λ (d : ComponentView). IsCome levels d (option_map value_view slot) (Some part)) (sym same) (slot_come levels f.name (ty_view f.ty) (requirement_view f.presence) (value_view v) (option_map value_view slot) part is h.1) in
    record { there = h.0; encoding = Some part; come = come; joined = sym (append-nil part) }

-- a value has one count of components
pub same_count : (slots others : Vec (Option Value) Global) → value.Fields others ≡ value.Fields slots → length slots.items ≡ length others.items
same_count slots others is =
    let same : Val.fields (slots_of (map (option_map value_view) others.items)) ≡ Val.fields (slots_of (map (option_map value_view) slots.items)) = sym (value-Fields others) ∙ (ap value_view is ∙ value-Fields slots) in
    let held : slots_of (map (option_map value_view) others.items) ≡ slots_of (map (option_map value_view) slots.items) = cc same in
    count slots.items others.items held
  where
    count : (xs ys : List (Option Value)) → slots_of (map (option_map value_view) ys) ≡ slots_of (map (option_map value_view) xs) → length xs ≡ length ys
    count [] [] is = refl
    count [] (None ∷ ys) is = cc is
    count [] (Some y ∷ ys) is = cc is
    count (None ∷ xs) [] is = cc is
    count (Some x ∷ xs) [] is = cc is
    count (None ∷ xs) (None ∷ ys) is = let rest : slots_of (map (option_map value_view) ys) ≡ slots_of (map (option_map value_view) xs) = cc is in ap suc (count xs ys rest)
    count (None ∷ xs) (Some y ∷ ys) is = cc is
    count (Some x ∷ xs) (None ∷ ys) is = cc is
    count (Some x ∷ xs) (Some y ∷ ys) is = let rest : slots_of (map (option_map value_view) ys) ≡ slots_of (map (option_map value_view) xs) = cc is in ap suc (count xs ys rest)

-- all of the components
pub all_components : (levels : ℕ) (fields : List Field) (i : ℕ) (octets : List ℕ) (slots : List (Option Value)) (at : ℕ) → length fields ≤ i → length slots ≡ length fields
    → AreComponentsRead levels (map field_view (take i fields)) octets (take i slots) at → AreComponentsRead levels (map field_view fields) octets slots at
all_components levels fields i octets slots at past many read =
    subst₂ (λ xs ys. AreComponentsRead levels (map field_view xs) octets ys at) (take_all i fields past) (take_all i slots (omega (arith, past, many))) read

-- the components that stand in front of those octets that are left
pub record AreComponentsBefore (levels : ℕ) (components : List ComponentView) (octets rest : List ℕ) (slots : List (Option Value)) : Type 0 where
  pub at : ℕ
  pub left : rest ≡ drop at octets
  pub read : AreComponentsRead levels components octets slots at

pub no_components_before : (levels : ℕ) (octets : List ℕ) (slots : List (Option Value)) → slots ≡ [] → AreComponentsBefore levels [] octets octets slots
no_components_before levels octets slots none = record { at = 0; left = refl; read = no_components levels octets slots none }

pub one_component_before : (levels : ℕ) (fields : List Field) (i : ℕ) (f : Field) (octets rest : List ℕ) (slots : List (Option Value)) (slot : Option Value) (used : ℕ) → i < length fields → f ≡ get_or fields i f → i < length slots
    → AreComponentsBefore levels (map field_view (take i fields)) octets rest (take i slots) → IsComponentRead levels (field_view f) rest slot used
    → AreComponentsBefore levels (map field_view (take (i + 1) fields)) octets (take (length rest - used) (drop used rest)) (take (i + 1) (set slots i slot))
one_component_before levels fields i f octets rest slots slot used below is room h one = record {
  at = h.at + used;
  left = take_rest rest used ∙ (ap (drop used) h.left ∙ drop-drop used h.at octets);
  read = subst (λ l. AreComponentsRead levels (map field_view (take (i + 1) fields)) octets l (h.at + used)) (sym (take_more_set slots i slot room))
      (component_read levels fields i f octets (take i slots) slot h.at used below is h.read (subst (λ o. IsComponentRead levels (field_view f) o slot used) h.left one));
}

-- they have as many octets as are not left
pub components_before : (levels : ℕ) (components : List ComponentView) (octets rest : List ℕ) (slots : List (Option Value)) (count : ℕ) → AreComponentsBefore levels components octets rest slots → count ≡ length octets - length rest → AreComponentsRead levels components octets slots count
components_before levels components octets rest slots count h is =
    let same : h.at ≡ count = omega (arith, is, ap length h.left, length-drop h.at octets, h.read.there) in
    subst (AreComponentsRead levels components octets slots) same h.read

-- the components of a good SEQUENCE
pub good_components : (tag : Tag) (fields : List Field) → IsGoodType (Shape.sequence tag (components_view fields)) → AllByRecursion IsGoodComponent (map field_view fields)
good_components tag fields good = (parts_good (Shape.sequence tag (components_view fields)) (Parts.sequence [] [] (map field_view fields)) good refl (refl, refl)).0

pub good_component : (fields : List Field) (i : ℕ) (f : Field) → i < length fields → f ≡ get_or fields i f → AllByRecursion IsGoodComponent (map field_view fields) → IsGoodComponent (field_view f)
good_component [] i f below is good = absurd (omega (arith, below))
good_component (x ∷ fields) zero f below is good = subst (λ (g : Field). IsGoodComponent (field_view g)) (sym is) good.0
good_component (x ∷ fields) (suc i) f below is good = good_component fields i f (omega (arith, below)) is good.1

-- the alternatives of a good CHOICE
pub good_alternative : (xs : List Alternative) (which : ℕ) (a : Alternative) → which < length xs → a ≡ get_or xs which a → IsGoodType (Shape.choice (alternatives_view xs)) → IsGoodType (ty_view a.ty)
good_alternative xs which a below is good =
    let nodes = alternative_nodes xs which a below is (good.tags.1, good.defaults.1, good.within.1) in
    record { within = nodes.2; tags = nodes.0; defaults = nodes.1 }

-- the place of the alternative that was chosen
pub place_chosen : (which place : ℕ) (inner : Box Value Global) (v : Value) → (chosen : Val) × (value_view v ≡ Val.chosen which chosen) → v ≡ value.Chosen place inner → place ≡ which
place_chosen which place inner v chosen is =
    let same : Val.chosen place (value_view inner.value) ≡ Val.chosen which chosen.0 = sym (value-Chosen place inner) ∙ (sym (ap value_view is) ∙ chosen.1) in
    cc same

-- an alternative is a value of the CHOICE
pub chosen_read : (levels : ℕ) (xs : List Alternative) (which : ℕ) (a : Alternative) (octets : List ℕ) (v w : Value) (used : ℕ) → which < length xs → a ≡ get_or xs which a
    → value_view w ≡ Val.chosen which (value_view v) → IsRead levels (ty_view a.ty) octets v used → IsRead levels (Shape.choice (alternatives_view xs)) octets w used
chosen_read levels xs which a octets v w used below is viewed h =
    let encodes : IsEncoding ber (Shape.choice (alternatives_view xs)) (Val.chosen which (value_view v)) (take used octets) = record { which = which; value = value_view v; is = refl; chosen = alternative_encodes xs which a (value_view v) (take used octets) below is h.1.encoding } in
    (h.0, record { encoding = subst (λ x. IsEncoding ber (Shape.choice (alternatives_view xs)) x (take used octets)) (sym viewed) encodes; depth = h.1.depth })

-- no component of a SET yet
none_of : (fields : List Field) → map (λ (s : SetComponent). s.component) (members_view fields (map (λ c. None) (map field_view fields))) ≡ map field_view fields
none_of [] = refl
none_of (f ∷ fields) = ap (λ (l : List ComponentView). field_view f ∷ l) (none_of fields)

none_come : (fields : List Field) → AllByRecursion (λ (s : SetComponent). s.come ≡ None) (members_view fields (map (λ c. None) (map field_view fields)))
none_come [] = tt
none_come (f ∷ fields) = (refl, none_come fields)

pub no_members : (levels : ℕ) (fields : List Field) (octets : List ℕ) (come : List SetComponent) → come ≡ members_view fields (map (λ c. None) (map field_view fields)) → AreMembersRead levels (map field_view fields) octets (Parts.set come) 0
no_members levels fields octets come empty =
    let none : List (Option Value) = map (λ c. None) (map field_view fields) in
    subst (λ (l : List SetComponent). AreMembersRead levels (map field_view fields) octets (Parts.set l) 0) (sym empty)
    record { there = omega arith; set_components = λ other. ap components_of (sym (none_of fields)); come = none_holds levels (Parts.set (members_view fields none)) (none_come fields) }

-- a component that is read into its slot
pub member_come : (levels : ℕ) (fields : List Field) (octets : List ℕ) (slots : List (Option Value)) (v : Value) (which : ℕ) (type : Shape) (used : ℕ) → IsVacant (members_view fields slots) which type → IsRead levels type octets v used
    → IsMemberRead levels octets (Parts.set (members_view fields slots)) (Parts.set (members_view fields (set slots which (Some v)))) used
member_come levels fields octets slots v which type used vacant h =
    record { there = h.0; which = which; type = type; value = value_view v; due = vacant; part = h.1; put = set_component_taken fields slots which type v vacant }

-- one component more
pub member_read : (levels : ℕ) (components : List ComponentView) (octets : List ℕ) (old new : Parts) (at used : ℕ) → AreMembersRead levels components octets old at → IsMemberRead levels (drop at octets) old new used → AreMembersRead levels components octets new (at + used)
member_read levels components octets old new at used h one =
    let part = take used (drop at octets) in
    let rest = length-drop at octets in
    record {
      there = omega (arith, h.there, one.there, rest);
      set_components = λ tag. put_parts_of (Shape.set tag (components_of components)) old new one.which one.value (h.set_components tag) one.put;
      come = subst (Holds levels new) (sym (take-add at used octets)) (put_holds levels old new one.which one.type one.value (take at octets) part h.come one.due one.part one.put);
    }

-- the components that stand in front of those octets that are left
pub record AreMembersBefore (levels : ℕ) (components : List ComponentView) (octets rest : List ℕ) (parts : Parts) : Type 0 where
  pub at : ℕ
  pub left : rest ≡ drop at octets
  pub read : AreMembersRead levels components octets parts at

pub no_members_before : (levels : ℕ) (fields : List Field) (octets : List ℕ) (come : List SetComponent) → come ≡ members_view fields (map (λ c. None) (map field_view fields)) → AreMembersBefore levels (map field_view fields) octets octets (Parts.set come)
no_members_before levels fields octets come empty = record { at = 0; left = refl; read = no_members levels fields octets come empty }

pub one_member_before : (levels : ℕ) (components : List ComponentView) (octets rest : List ℕ) (old new : Parts) (used : ℕ) → AreMembersBefore levels components octets rest old → IsMemberRead levels rest old new used
    → AreMembersBefore levels components octets (take (length rest - used) (drop used rest)) new
one_member_before levels components octets rest old new used h one = record {
  at = h.at + used;
  left = take_rest rest used ∙ (ap (drop used) h.left ∙ drop-drop used h.at octets);
  read = member_read levels components octets old new h.at used h.read (subst (λ o. IsMemberRead levels o old new used) h.left one);
}

-- they have as many octets as are not left
pub members_before : (levels : ℕ) (components : List ComponentView) (octets rest : List ℕ) (parts : Parts) (count : ℕ) → AreMembersBefore levels components octets rest parts → count ≡ length octets - length rest → AreMembersRead levels components octets parts count
members_before levels components octets rest parts count h is =
    let same : h.at ≡ count = omega (arith, is, ap length h.left, length-drop h.at octets, h.read.there) in
    subst (AreMembersRead levels components octets parts) same h.read

-- a part is not empty
pub member_some : (levels : ℕ) (octets : List ℕ) (old new : Parts) (used : ℕ) → IsMemberRead levels octets old new used → 0 < used
member_some levels octets old new zero h = let above = nested_above levels [] h.part.depth in let none : above.first ∷ above.others ≡ [] = sym above.is in cc
member_some levels octets old new (suc used) h = omega arith

-- the field of a component of a SET that has not come
pub record IsFieldAt (fields : List Field) (which : ℕ) (type : Shape) : Type 0 where
  pub below : which < length fields
  pub types : (f : Field) → f ≡ get_or fields which f → ty_view f.ty ≡ type

pub field_type : (f : Field) → (field_view f).type ≡ ty_view f.ty
field_type f = ap (λ (c : ComponentView). c.type) (field_is f)

set_component_field : (fields : List Field) (set_components : List SetComponent) (which : ℕ) (type : Shape) → components_of (map field_view fields) ≡ components_of (map (λ s. s.component) set_components) → IsVacant set_components which type → IsFieldAt fields which type
set_component_field fields [] which type same h = absurd h
set_component_field [] (s ∷ set_components) which type same h = cc
set_component_field (x ∷ fields) (s ∷ set_components) zero type same h =
    let first : (field_view x).type ≡ s.component.type = cc same in
    record { below = omega arith; types = λ f is. ap (λ (g : Field). ty_view g.ty) is ∙ sym (field_type x) ∙ first ∙ h.1 }
set_component_field (x ∷ fields) (s ∷ set_components) (suc which) type same h =
    let others : components_of (map field_view fields) ≡ components_of (map (λ s. s.component) set_components) = cc same in
    let later = set_component_field fields set_components which type others h in
    record { below = omega (arith, later.below); types = λ f is. later.types f is }

pub due_field : (tag : Tag) (fields : List Field) (set_components : List SetComponent) (which : ℕ) (type : Shape) → AreSetComponentsOf (map field_view fields) (Parts.set set_components) → IsVacant set_components which type → IsFieldAt fields which type
due_field tag fields set_components which type of vacant = set_component_field fields set_components which type (of tag) vacant

-- components in any order are the contents octets of a SET
pub set_contents : (levels : ℕ) (tag : Tag) (components : List ComponentView) (inside : List ℕ) (parts : Parts) (v : Value) (used : ℕ) → AreMembersRead levels components inside parts used → IsValueOf parts (value_view v) → AreContentsRead levels (Shape.set tag (components_of components)) inside v used
set_contents levels tag components inside parts v used h is = record { there = h.there; parts = parts; of = h.set_components tag; come = h.come; value = is }

-- the components of a good SET
pub good_members : (tag : Tag) (fields : List Field) → IsGoodType (Shape.set tag (components_view fields)) → AllByRecursion IsGoodComponent (map field_view fields)
good_members tag fields good = components_good (map field_view fields) good.within.1 good.tags.1 good.defaults.1 good.defaults.0

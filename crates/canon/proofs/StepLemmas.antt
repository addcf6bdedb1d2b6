-- Lemmas on one item or component in front of the later ones.
use Rattle.std.specs.List.{AllByRecursion}
use Rattle.std.proofs.Common.{[], ◌++◌, ◌≡◌, ◌+◌, ◌<◌, ℕ, zero, suc, List, ◌∷◌, Option, Some, None, length, drop, get_or, map, min, refl, sym, ap, ◌∙◌, subst, arith}
use Rattle.octets.specs.declared.tag.Tag.{Tag}
use Rattle.octets.specs.Rule.{Rule, IsCanonical}
use Rattle.types.specs.declared.ty.Field.{Field}
use Rattle.types.specs.declared.value.Value.{Value}
use Rattle.types.specs.Shape.{Val, Slots, absent, present, Shape, Components, component}
use Rattle.types.specs.View.{value_view, ty_view, field_view, ComponentView, components_view, slots_view}
use Rattle.types.specs.WellFormed.{nodes_of, nodes_of_components}
use Rattle.types.specs.Conforms.{Conforms, SlotsConform, MayBeAbsent, DiffersFromDefault}
use Rattle.types.specs.Encoding.{Meaning, IsEncoding}
use Rattle.types.specs.FirstTags.{first_tags, tags_of_components}
use Rattle.types.proofs.ListLemmas.{all_append}
use Rattle.types.proofs.ViewLemmas.{field_is}
use Rattle.canon.specs.Size.{HasSize}
use Rattle.canon.specs.Node.{HasGoodNodes, HaveGoodNodes, AreItems, AreComponents}
use Rattle.canon.proofs.NodeSizeLemmas.{more_items_size, no_components_size, absent_component_size, present_component_size}

pub drop_all : {X : Type 0} (xs : List X) → drop (length xs) xs ≡ []
drop_all [] = refl
drop_all (x ∷ xs) = drop_all xs

pub drop_one : {X : Type 0} (xs : List X) (i : ℕ) (x : X) → i < length xs → x ≡ get_or xs i x → drop i xs ≡ x ∷ drop (suc i) xs
drop_one [] i x l at = absurd (omega arith)
drop_one (y ∷ xs) zero x l at = ap (λ z. z ∷ xs) (sym at)
drop_one (y ∷ xs) (suc i) x l at = drop_one xs i x (omega arith) at

-- the element at a place
pub element : {X : Type 0} (xs : List X) (i : ℕ) → i < length xs → (x : X) × (x ≡ get_or xs i x)
element [] i l = absurd (omega arith)
element (x ∷ xs) zero l = (x, refl)
element (x ∷ xs) (suc i) l = element xs i (omega arith)

pub item_conforms : (type : Shape) (xs : List Value) (i : ℕ) (x : Value) → i < length xs → x ≡ get_or xs i x → AllByRecursion (Conforms type) (map value_view xs) → Conforms type (value_view x)
item_conforms type [] i x l at h = absurd (omega arith)
item_conforms type (y ∷ xs) zero x l at h = subst (λ (v : Value). Conforms type (value_view v)) (sym at) h.0
item_conforms type (y ∷ xs) (suc i) x l at h = item_conforms type xs i x (omega arith) at h.1

pub item_size : (IsItem : Meaning) (xs : List Value) (i j : ℕ) (x : Value) (m n : ℕ) → i < length xs → j ≡ suc i → x ≡ get_or xs i x → HasSize (IsItem (value_view x)) m → HasSize (AreItems IsItem (map value_view (drop j xs))) n
    → HasSize (AreItems IsItem (map value_view (drop i xs))) (min (n + m) 1_048_577)
item_size IsItem xs i j x m n l next at h k =
    subst (λ (vs : List Value). HasSize (AreItems IsItem (map value_view vs)) (min (n + m) 1_048_577)) (sym (drop_one xs i x l at))
    (more_items_size IsItem (value_view x) (map value_view (drop (suc i) xs)) m n h (subst (λ p. HasSize (AreItems IsItem (map value_view (drop p xs))) n) next k))

-- as many slots as components
pub as_many_slots : (fields : List Field) (slots : List (Option Value)) → SlotsConform (components_view fields) (slots_view slots) → length slots ≡ length fields
as_many_slots [] [] h = refl
as_many_slots [] (None ∷ slots) h = elim h [ ]
as_many_slots [] (Some v ∷ slots) h = elim h [ ]
as_many_slots (f ∷ fields) [] h = elim h [ ]
as_many_slots (f ∷ fields) (None ∷ slots) h = omega (arith, as_many_slots fields slots h.1)
as_many_slots (f ∷ fields) (Some v ∷ slots) h = omega (arith, as_many_slots fields slots h.2)

pub type_of_field : (f : Field) → (field_view f).type ≡ ty_view f.ty
type_of_field f = ap (λ (w : ComponentView). w.type) (field_is f)

-- the tags of components of which the first has this one
pub tags_with : (f : Field) (fields : List Field) (tag : Tag) → first_tags (ty_view f.ty) ≡ tag ∷ [] → tags_of_components (components_view (f ∷ fields)) ≡ tag ∷ tags_of_components (components_view fields)
tags_with f fields tag h = ap (λ ts. ts ++ tags_of_components (components_view fields)) (ap first_tags (type_of_field f) ∙ h)

-- a component whose slot has a value
pub record IsPresent (f : Field) (v : Val) : Type 0 where
  pub conforms : Conforms (ty_view f.ty) v
  pub differs : DiffersFromDefault (field_view f).requirement v
  pub nodes : HasGoodNodes (ty_view f.ty)

later_nodes : (f : Field) (fields : List Field) → HaveGoodNodes (components_view (f ∷ fields)) → HasGoodNodes (ty_view f.ty) × HaveGoodNodes (components_view fields)
later_nodes f fields good =
    let within = all_append _ (nodes_of (field_view f).type) (nodes_of_components (components_view fields)) good.within in
    let tags = all_append _ (nodes_of (field_view f).type) (nodes_of_components (components_view fields)) good.tags in
    (subst HasGoodNodes (type_of_field f) record { within = within.0; tags = tags.0 }, record { within = within.1; tags = tags.1 })

pub present_at : (fields : List Field) (slots : List (Option Value)) (i : ℕ) (f : Field) (v : Value) → i < length slots → f ≡ get_or fields i f → Some v ≡ get_or slots i (Some v)
    → SlotsConform (components_view fields) (slots_view slots) → HaveGoodNodes (components_view fields) → IsPresent f (value_view v)
present_at fields [] i f v l at stands h good = absurd (omega arith)
present_at [] (None ∷ slots) i f v l at stands h good = elim h [ ]
present_at [] (Some w ∷ slots) i f v l at stands h good = elim h [ ]
present_at (g ∷ fields) (None ∷ slots) zero f v l at stands h good = cc
present_at (g ∷ fields) (Some w ∷ slots) zero f v l at stands h good =
    let same : w ≡ v = cc stands in
    let one = later_nodes g fields good in
    let here : IsPresent g (value_view w) = record { conforms = subst (λ s. Conforms s (value_view w)) (type_of_field g) h.0; differs = h.1; nodes = one.0 } in
    subst (λ (u : Field). IsPresent u (value_view v)) (sym at) (subst (λ (u : Value). IsPresent g (value_view u)) same here)
present_at (g ∷ fields) (None ∷ slots) (suc i) f v l at stands h good = present_at fields slots i f v (omega arith) at stands h.1 (later_nodes g fields good).1
present_at (g ∷ fields) (Some w ∷ slots) (suc i) f v l at stands h good = present_at fields slots i f v (omega arith) at stands h.2 (later_nodes g fields good).1

pub absent_at : (fields : List Field) (slots : List (Option Value)) (i : ℕ) (f : Field) → i < length slots → f ≡ get_or fields i f → None ≡ get_or slots i None → SlotsConform (components_view fields) (slots_view slots) → MayBeAbsent (field_view f).requirement
absent_at fields [] i f l at stands h = absurd (omega arith)
absent_at [] (None ∷ slots) i f l at stands h = elim h [ ]
absent_at [] (Some w ∷ slots) i f l at stands h = elim h [ ]
absent_at (g ∷ fields) (None ∷ slots) zero f l at stands h = subst (λ (u : Field). MayBeAbsent (field_view u).requirement) (sym at) h.0
absent_at (g ∷ fields) (Some w ∷ slots) zero f l at stands h = cc
absent_at (g ∷ fields) (None ∷ slots) (suc i) f l at stands h = absent_at fields slots i f (omega arith) at stands h.1
absent_at (g ∷ fields) (Some w ∷ slots) (suc i) f l at stands h = absent_at fields slots i f (omega arith) at stands h.2

-- the components and the slots from there on
pub components_from : (fields : List Field) (i : ℕ) (f : Field) → i < length fields → f ≡ get_or fields i f
    → components_view (drop i fields) ≡ component (field_view f).name (field_view f).type (field_view f).requirement (components_view (drop (suc i) fields))
components_from fields i f l at = ap components_view (drop_one fields i f l at)

pub slots_from_present : (slots : List (Option Value)) (i : ℕ) (v : Value) → i < length slots → Some v ≡ get_or slots i (Some v) → slots_view (drop i slots) ≡ present (value_view v) (slots_view (drop (suc i) slots))
slots_from_present slots i v l at = ap slots_view (drop_one slots i (Some v) l at)

pub slots_from_absent : (slots : List (Option Value)) (i : ℕ) → i < length slots → None ≡ get_or slots i None → slots_view (drop i slots) ≡ absent (slots_view (drop (suc i) slots))
slots_from_absent slots i l at = ap slots_view (drop_one slots i None l at)

module _ (rule : Rule) (fields : List Field) (slots : List (Option Value)) where
  abbrev pub SizeFrom : ℕ → ℕ → Type 0
  SizeFrom i n = HasSize (AreComponents rule (components_view (drop i fields)) (slots_view (drop i slots))) n

  pub size_from_end : (n : ℕ) → n ≡ length slots → length slots ≡ length fields → SizeFrom n 0
  size_from_end n all same =
      let none_left : drop n slots ≡ [] = ap (λ k. drop k slots) all ∙ drop_all slots in
      let none_there : drop n fields ≡ [] = ap (λ k. drop k fields) (all ∙ same) ∙ drop_all fields in
      subst (λ (fs : List Field). HasSize (AreComponents rule (components_view fs) (slots_view (drop n slots))) 0) (sym none_there)
      (subst (λ (ss : List (Option Value)). HasSize (AreComponents rule (components_view []) (slots_view ss)) 0) (sym none_left) (no_components_size rule))

  pub present_size : (i j : ℕ) (f : Field) (v : Value) (m n : ℕ) → i < length fields → i < length slots → j ≡ suc i → f ≡ get_or fields i f → Some v ≡ get_or slots i (Some v) → IsPresent f (value_view v)
      → HasSize (IsEncoding rule (ty_view f.ty) (value_view v)) m → SizeFrom j n → SizeFrom i (min (n + m) 1_048_577)
  present_size i j f v m n l k next at stands is one more =
      let rest : SizeFrom (suc i) n = subst (λ p. SizeFrom p n) next more in
      let here : HasSize (IsEncoding rule (field_view f).type (value_view v)) m = subst (λ s. HasSize (IsEncoding rule s (value_view v)) m) (sym (type_of_field f)) one in
      subst (λ (c : Components). HasSize (AreComponents rule c (slots_view (drop i slots))) (min (n + m) 1_048_577)) (sym (components_from fields i f l at))
      (subst (λ (s : Slots). HasSize (AreComponents rule (component (field_view f).name (field_view f).type (field_view f).requirement (components_view (drop (suc i) fields))) s) (min (n + m) 1_048_577)) (sym (slots_from_present slots i v k stands))
      (present_component_size rule (field_view f).name (field_view f).type (field_view f).requirement (components_view (drop (suc i) fields)) (value_view v) (slots_view (drop (suc i) slots)) m n is.differs here rest))

  pub absent_size : (i j : ℕ) (f : Field) (n : ℕ) → i < length fields → i < length slots → j ≡ suc i → f ≡ get_or fields i f → None ≡ get_or slots i None → IsCanonical rule → MayBeAbsent (field_view f).requirement → SizeFrom j n → SizeFrom i n
  absent_size i j f n l k next at stands canonical may more =
      let rest : SizeFrom (suc i) n = subst (λ p. SizeFrom p n) next more in
      subst (λ (c : Components). HasSize (AreComponents rule c (slots_view (drop i slots))) n) (sym (components_from fields i f l at))
      (subst (λ (s : Slots). HasSize (AreComponents rule (component (field_view f).name (field_view f).type (field_view f).requirement (components_view (drop (suc i) fields))) s) n) (sym (slots_from_absent slots i k stands))
      (absent_component_size rule (field_view f).name (field_view f).type (field_view f).requirement (components_view (drop (suc i) fields)) (slots_view (drop (suc i) slots)) n canonical may rest))

  pub absent_size_any : (i j : ℕ) (n : ℕ) → i < length fields → i < length slots → j ≡ suc i → None ≡ get_or slots i None → IsCanonical rule → SlotsConform (components_view fields) (slots_view slots) → SizeFrom j n → SizeFrom i n
  absent_size_any i j n l k next stands canonical conform more =
      let f = element fields i l in
      absent_size i j f.0 n l k next f.1 stands canonical (absent_at fields slots i f.0 k f.1 stands conform) more

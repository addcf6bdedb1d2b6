-- Lemmas on constructed encodings by what is in them.
use Rattle.std.specs.List.{AllByRecursion, AllZip, concat}
use Rattle.std.proofs.Common.{◌≡◌, ◌⊎◌, inl, inr, ◌≤◌, ◌<◌, ℕ, zero, suc, List, [], ◌∷◌, length, get_or, refl, sym, ap, ◌∙◌, subst, arith}
use Rattle.octets.specs.declared.tag.Tag.{Tag}
use Rattle.octets.specs.Rule.{Rule, IsCanonical}
use Rattle.types.specs.declared.ty.Alternative.{Alternative}
use Rattle.types.specs.Shape.{Val, Slots, Items, listed, Shape, Components, Alternatives}
use Rattle.types.specs.View.{ty_view, alternative_view, alternatives_view, AlternativeView}
use Rattle.types.specs.WellFormed.{nodes_of, nodes_of_alternatives}
use Rattle.types.specs.Conforms.{Conforms, SlotsConform, AlternativeConforms}
use Rattle.types.specs.Form.{IsConstructed}
use Rattle.types.specs.Encoding.{IsEncoding, AreSlotEncodings, IsAlternativeEncoding, standing}
use Rattle.types.proofs.ListLemmas.{all_append}
use Rattle.types.proofs.ViewLemmas.{alternative_is}
use Rattle.canon.specs.Node.{AreGood, HasGoodNodes, HaveGoodNodes, IsAround, ArePartsOf, AreItems, AreItemsInOrder, AreComponents, AreComponentsByTag}
use Rattle.canon.proofs.AlikeLemmas.{HoldAlike}

pub sequence_alike : (rule : Rule) (tag : Tag) (components : Components) (slots : Slots) → HoldAlike (IsAround (AreComponents rule components slots) rule tag) (IsEncoding rule (Shape.sequence tag components) (Val.fields slots))
sequence_alike rule tag components slots = record {
  to = λ b h. record { slots = slots; is = refl; encodings = h.inside.encodings; each = h.inside.each; whole = subst (λ c. IsConstructed rule tag c b) h.inside.joined h.whole };
  from = λ b h.
      let is : Val.fields slots ≡ Val.fields h.slots = h.is in
      let same : h.slots ≡ slots = cc is in
      record {
        contents = concat (standing h.encodings);
        inside = record { encodings = h.encodings; each = subst (λ s. AreSlotEncodings rule components s h.encodings) same h.each; joined = refl };
        whole = h.whole;
      };
}

pub set_alike : (rule : Rule) (tag : Tag) (components : Components) (slots : Slots) → IsCanonical rule → HoldAlike (IsAround (AreComponentsByTag rule components slots) rule tag) (IsEncoding rule (Shape.set tag components) (Val.fields slots))
set_alike rule tag components slots canonical = record {
  to = λ b h. record {
    slots = slots;
    is = refl;
    encodings = h.inside.encodings;
    each = h.inside.each;
    order = h.inside.order;
    permutes = h.inside.permutes;
    ascends = λ _. h.inside.ascends;
    whole = subst (λ c. IsConstructed rule tag c b) h.inside.joined h.whole;
  };
  from = λ b h.
      let is : Val.fields slots ≡ Val.fields h.slots = h.is in
      let same : h.slots ≡ slots = cc is in
      record {
        contents = concat h.order;
        inside = record {
          encodings = h.encodings;
          each = subst (λ s. AreSlotEncodings rule components s h.encodings) same h.each;
          order = h.order;
          permutes = h.permutes;
          ascends = h.ascends canonical;
          joined = refl;
        };
        whole = h.whole;
      };
}

pub sequence_of_alike : (rule : Rule) (tag : Tag) (type : Shape) (items : Items) → HoldAlike (IsAround (AreItems (IsEncoding rule type) (listed items)) rule tag) (IsEncoding rule (Shape.sequence_of tag type) (Val.items items))
sequence_of_alike rule tag type items = record {
  to = λ b h. record { items = items; is = refl; encodings = h.inside.encodings; each = h.inside.each; whole = subst (λ c. IsConstructed rule tag c b) h.inside.joined h.whole };
  from = λ b h.
      let is : Val.items items ≡ Val.items h.items = h.is in
      let same : h.items ≡ items = cc is in
      record {
        contents = concat h.encodings;
        inside = record { encodings = h.encodings; each = subst (λ i. AllZip (IsEncoding rule type) (listed i) h.encodings) same h.each; joined = refl };
        whole = h.whole;
      };
}

pub set_of_alike : (rule : Rule) (tag : Tag) (type : Shape) (items : Items) → IsCanonical rule → HoldAlike (IsAround (AreItemsInOrder (IsEncoding rule type) (listed items)) rule tag) (IsEncoding rule (Shape.set_of tag type) (Val.items items))
set_of_alike rule tag type items canonical = record {
  to = λ b h. record {
    items = items;
    is = refl;
    encodings = h.inside.encodings;
    each = h.inside.each;
    order = h.inside.order;
    permutes = h.inside.permutes;
    ascends = λ _. h.inside.ascends;
    whole = subst (λ c. IsConstructed rule tag c b) h.inside.joined h.whole;
  };
  from = λ b h.
      let is : Val.items items ≡ Val.items h.items = h.is in
      let same : h.items ≡ items = cc is in
      record {
        contents = concat h.order;
        inside = record {
          encodings = h.encodings;
          each = subst (λ i. AllZip (IsEncoding rule type) (listed i) h.encodings) same h.each;
          order = h.order;
          permutes = h.permutes;
          ascends = h.ascends canonical;
          joined = refl;
        };
        whole = h.whole;
      };
}

pub explicit_alike : (rule : Rule) (tag : Tag) (type : Shape) (v : Val) → HoldAlike (IsAround (IsEncoding rule type v) rule tag) (IsEncoding rule (Shape.explicit tag type) v)
explicit_alike rule tag type v = record {
  to = λ b h. record { inner = h.contents; encodes = h.inside; whole = h.whole };
  from = λ b h. record { contents = h.inner; inside = h.encodes; whole = h.whole };
}

-- a type whose encodings are constructed, and its tag
abbrev pub IsFramed : Tag → Shape → Type 0
IsFramed tag shape = ((components : Components) × (shape ≡ Shape.sequence tag components)) ⊎ (((components : Components) × (shape ≡ Shape.set tag components)) ⊎ (((type : Shape) × (shape ≡ Shape.sequence_of tag type)) ⊎ ((type : Shape) × (shape ≡ Shape.set_of tag type))))

abbrev Surrounds : Rule → Tag → Shape → Val → Type 0
Surrounds rule tag shape v = Conforms shape v → (b : List ℕ) → IsAround (ArePartsOf rule shape v) rule tag b → IsEncoding rule shape v b

sequence_around : (rule : Rule) (tag : Tag) (components : Components) (v : Val) → Surrounds rule tag (Shape.sequence tag components) v
sequence_around rule tag components (Val.fields slots) c b h = (sequence_alike rule tag components slots).to b h
sequence_around rule tag components v c b h = elim c [ ]

set_around : (rule : Rule) (tag : Tag) (components : Components) (v : Val) → IsCanonical rule → Surrounds rule tag (Shape.set tag components) v
set_around rule tag components (Val.fields slots) canonical c b h = (set_alike rule tag components slots canonical).to b h
set_around rule tag components v canonical c b h = elim c [ ]

sequence_of_around : (rule : Rule) (tag : Tag) (type : Shape) (v : Val) → Surrounds rule tag (Shape.sequence_of tag type) v
sequence_of_around rule tag type (Val.items items) c b h = (sequence_of_alike rule tag type items).to b h
sequence_of_around rule tag type v c b h = elim c [ ]

set_of_around : (rule : Rule) (tag : Tag) (type : Shape) (v : Val) → IsCanonical rule → Surrounds rule tag (Shape.set_of tag type) v
set_of_around rule tag type (Val.items items) canonical c b h = (set_of_alike rule tag type items canonical).to b h
set_of_around rule tag type v canonical c b h = elim c [ ]

-- the contents octets within an identifier and a length, or an identifier, 80 and end-of-contents octets
pub parts_around : (rule : Rule) (tag : Tag) (shape : Shape) (v : Val) → IsCanonical rule → IsFramed tag shape → Surrounds rule tag shape v
parts_around rule tag shape v canonical (inl is) = subst (λ s. Surrounds rule tag s v) (sym is.1) (sequence_around rule tag is.0 v)
parts_around rule tag shape v canonical (inr (inl is)) = subst (λ s. Surrounds rule tag s v) (sym is.1) (set_around rule tag is.0 v canonical)
parts_around rule tag shape v canonical (inr (inr (inl is))) = subst (λ s. Surrounds rule tag s v) (sym is.1) (sequence_of_around rule tag is.0 v)
parts_around rule tag shape v canonical (inr (inr (inr is))) = subst (λ s. Surrounds rule tag s v) (sym is.1) (set_of_around rule tag is.0 v canonical)

-- the alternative that is chosen
pub record IsChosen (alternatives : List Alternative) (which : ℕ) (v : Val) : Type 0 where
  pub there : which < length alternatives
  pub conforms : (a : Alternative) → a ≡ get_or alternatives which a → Conforms (ty_view a.ty) v
  pub nodes : (a : Alternative) → a ≡ get_or alternatives which a → HasGoodNodes (ty_view a.ty)
  pub encodes : (rule : Rule) (a : Alternative) → a ≡ get_or alternatives which a → HoldAlike (IsEncoding rule (ty_view a.ty) v) (IsAlternativeEncoding rule (alternatives_view alternatives) which v)

type_of_view : (a : Alternative) → (alternative_view a).type ≡ ty_view a.ty
type_of_view a = ap (λ (w : AlternativeView). w.type) (alternative_is a)

pub chosen : (alternatives : List Alternative) (which : ℕ) (v : Val) → AlternativeConforms (alternatives_view alternatives) which v → AreGood (nodes_of_alternatives (alternatives_view alternatives)) → IsChosen alternatives which v
chosen [] which v c good = elim c [ ]
chosen (x ∷ others) zero v c good =
    let within = all_append _ (nodes_of (alternative_view x).type) (nodes_of_alternatives (alternatives_view others)) good.within in
    let tags = all_append _ (nodes_of (alternative_view x).type) (nodes_of_alternatives (alternatives_view others)) good.tags in
    let good_first : HasGoodNodes (alternative_view x).type = record { within = within.0; tags = tags.0 } in
    record {
      there = omega arith;
      conforms = λ a same. subst (λ s. Conforms s v) (type_of_view x ∙ ap (λ (y : Alternative). ty_view y.ty) (sym same)) c;
      nodes = λ a same. subst HasGoodNodes (type_of_view x ∙ ap (λ (y : Alternative). ty_view y.ty) (sym same)) good_first;
      encodes = λ rule a same.
          let at = type_of_view x ∙ ap (λ (y : Alternative). ty_view y.ty) (sym same) in
          record { to = λ b h. subst (λ s. IsEncoding rule s v b) (sym at) h; from = λ b h. subst (λ s. IsEncoding rule s v b) at h };
    }
chosen (x ∷ others) (suc which) v c good =
    let within = all_append _ (nodes_of (alternative_view x).type) (nodes_of_alternatives (alternatives_view others)) good.within in
    let tags = all_append _ (nodes_of (alternative_view x).type) (nodes_of_alternatives (alternatives_view others)) good.tags in
    let rest = chosen others which v c record { within = within.1; tags = tags.1 } in
    record { there = omega (arith, rest.there); conforms = rest.conforms; nodes = rest.nodes; encodes = rest.encodes }

-- a conforming value of a CHOICE
pub record IsChosenOf (alternatives : List Alternative) (v : Val) : Type 0 where
  pub which : ℕ
  pub value : Val
  pub is : v ≡ Val.chosen which value
  pub alternative : IsChosen alternatives which value

pub choice_parts : (alternatives : List Alternative) (v : Val) → Conforms (Shape.choice (alternatives_view alternatives)) v → HasGoodNodes (Shape.choice (alternatives_view alternatives)) → IsChosenOf alternatives v
choice_parts alternatives (Val.chosen which value) c good = record { which = which; value = value; is = refl; alternative = chosen alternatives which value c record { within = good.within.1; tags = good.tags.1 } }
choice_parts alternatives v c good = elim c [ ]

pub choice_alike : (rule : Rule) (alternatives : Alternatives) (which : ℕ) (v : Val) → HoldAlike (IsAlternativeEncoding rule alternatives which v) (IsEncoding rule (Shape.choice alternatives) (Val.chosen which v))
choice_alike rule alternatives which v = record {
  to = λ b h. record { which = which; value = v; is = refl; chosen = h };
  from = λ b h.
      let is : Val.chosen which v ≡ Val.chosen h.which h.value = h.is in
      let place : h.which ≡ which = cc is in
      let same : h.value ≡ v = cc is in
      subst (λ i. IsAlternativeEncoding rule alternatives i v b) place (subst (λ w. IsAlternativeEncoding rule alternatives h.which w b) same h.chosen);
}

-- SEQUENCE OF and SET OF
abbrev pub IsListOf : Tag → Shape → Shape → Type 0
IsListOf tag type shape = (shape ≡ Shape.sequence_of tag type) ⊎ (shape ≡ Shape.set_of tag type)

-- what a conforming value of one is made of
pub record HasItems (tag : Tag) (type : Shape) (v : Val) : Type 0 where
  pub kept : tag.number ≤ 268_435_455
  pub nodes : HasGoodNodes type
  pub items : Items
  pub is : v ≡ Val.items items
  pub conform : AllByRecursion (Conforms type) (listed items)

list_parts : (tag : Tag) (type : Shape) (v : Val) → Conforms (Shape.sequence_of tag type) v → HasGoodNodes (Shape.sequence_of tag type) → HasItems tag type v
list_parts tag type (Val.items items) c good = record { kept = good.within.0; nodes = record { within = good.within.1; tags = good.tags.1 }; items = items; is = refl; conform = c }
list_parts tag type v c good = elim c [ ]

set_list_parts : (tag : Tag) (type : Shape) (v : Val) → Conforms (Shape.set_of tag type) v → HasGoodNodes (Shape.set_of tag type) → HasItems tag type v
set_list_parts tag type (Val.items items) c good = record { kept = good.within.0; nodes = record { within = good.within.1; tags = good.tags.1 }; items = items; is = refl; conform = c }
set_list_parts tag type v c good = elim c [ ]

pub has_items : (tag : Tag) (type shape : Shape) (v : Val) → IsListOf tag type shape → Conforms shape v → HasGoodNodes shape → HasItems tag type v
has_items tag type shape v (inl is) c good = list_parts tag type v (subst (λ s. Conforms s v) is c) (subst HasGoodNodes is good)
has_items tag type shape v (inr is) c good = set_list_parts tag type v (subst (λ s. Conforms s v) is c) (subst HasGoodNodes is good)

-- SEQUENCE and SET
abbrev pub IsRecordOf : Tag → Components → Shape → Type 0
IsRecordOf tag components shape = (shape ≡ Shape.sequence tag components) ⊎ (shape ≡ Shape.set tag components)

pub record HasSlots (tag : Tag) (components : Components) (v : Val) : Type 0 where
  pub kept : tag.number ≤ 268_435_455
  pub nodes : HaveGoodNodes components
  pub slots : Slots
  pub is : v ≡ Val.fields slots
  pub conform : SlotsConform components slots

record_parts : (tag : Tag) (components : Components) (v : Val) → Conforms (Shape.sequence tag components) v → HasGoodNodes (Shape.sequence tag components) → HasSlots tag components v
record_parts tag components (Val.fields slots) c good = record { kept = good.within.0.0; nodes = record { within = good.within.1; tags = good.tags.1 }; slots = slots; is = refl; conform = c }
record_parts tag components v c good = elim c [ ]

set_parts : (tag : Tag) (components : Components) (v : Val) → Conforms (Shape.set tag components) v → HasGoodNodes (Shape.set tag components) → HasSlots tag components v
set_parts tag components (Val.fields slots) c good = record { kept = good.within.0.0; nodes = record { within = good.within.1; tags = good.tags.1 }; slots = slots; is = refl; conform = c }
set_parts tag components v c good = elim c [ ]

pub has_slots : (tag : Tag) (components : Components) (shape : Shape) (v : Val) → IsRecordOf tag components shape → Conforms shape v → HasGoodNodes shape → HasSlots tag components v
has_slots tag components shape v (inl is) c good = record_parts tag components v (subst (λ s. Conforms s v) is c) (subst HasGoodNodes is good)
has_slots tag components shape v (inr is) c good = set_parts tag components v (subst (λ s. Conforms s v) is c) (subst HasGoodNodes is good)

-- an explicit tag
pub record HasInner (tag : Tag) (type : Shape) (v : Val) : Type 0 where
  pub kept : tag.number ≤ 268_435_455
  pub nodes : HasGoodNodes type
  pub conforms : Conforms type v

pub has_inner : (tag : Tag) (type shape : Shape) (v : Val) → shape ≡ Shape.explicit tag type → Conforms shape v → HasGoodNodes shape → HasInner tag type v
has_inner tag type shape v is c good =
    let whole : HasGoodNodes (Shape.explicit tag type) = subst HasGoodNodes is good in
    record { kept = whole.within.0; nodes = record { within = whole.within.1; tags = whole.tags.1 }; conforms = subst (λ s. Conforms s v) is c }

-- Lemmas on types of the code, by their nodes.
use Rattle.std.proofs.Common.{◌≡◌, ◌⊎◌, inl, inr, ◌≤◌, ℕ, Vec, Box, Global, sym, ap, ◌∙◌, subst}
use Rattle.octets.specs.declared.tag.Tag.{Tag}
use Rattle.octets.specs.Rule.{Rule, IsCanonical}
use Rattle.types.specs.declared.ty.Field.{Field}
use Rattle.types.specs.declared.ty.Ty.{Ty}
use Rattle.types.specs.declared.ty.Ty as node
use Rattle.types.specs.Shape.{Val, listed, Shape, Components}
use Rattle.types.specs.View.{ty_view, components_view}
use Rattle.types.specs.Encoding.{IsEncoding}
use Rattle.types.specs.Leaf.{tag_of, IsLeaf}
use Rattle.types.proofs.ViewLemmas.{ty-Sequence, ty-Set, ty-SequenceOf, ty-SetOf}
use Rattle.canon.specs.Node.{HasGoodNodes, AreItems, AreComponents}
use Rattle.canon.specs.Leaf.{IsLeafOf}
use Rattle.canon.specs.Size.{HasSize}
use Rattle.canon.proofs.AlikeLemmas.{size_alike}
use Rattle.canon.proofs.NodeLemmas.{IsListOf, IsRecordOf, IsFramed, HasItems, HasSlots, sequence_alike, set_alike, sequence_of_alike, set_of_alike}
use Rattle.canon.proofs.NodeSizeLemmas.{SizesConstructed, around_size, ordered_items_size}
use Rattle.canon.proofs.TagOrderLemmas.{by_tag_size}

pub list_view : (ty : Ty) (tag : Tag) (inner : Box Ty Global) → (ty ≡ node.SequenceOf tag inner) ⊎ (ty ≡ node.SetOf tag inner) → IsListOf tag (ty_view inner.value) (ty_view ty)
list_view ty tag inner (inl is) = inl (ap ty_view is ∙ ty-SequenceOf tag inner)
list_view ty tag inner (inr is) = inr (ap ty_view is ∙ ty-SetOf tag inner)

pub record_view : (ty : Ty) (tag : Tag) (fields : Vec Field Global) → (ty ≡ node.Sequence tag fields) ⊎ (ty ≡ node.Set tag fields) → IsRecordOf tag (components_view fields.items) (ty_view ty)
record_view ty tag fields (inl is) = inl (ap ty_view is ∙ ty-Sequence tag fields)
record_view ty tag fields (inr is) = inr (ap ty_view is ∙ ty-Set tag fields)

pub framed_view : (ty : Ty) (tag : Tag) → ((fields : Vec Field Global) × (ty ≡ node.Sequence tag fields)) ⊎ (((fields : Vec Field Global) × (ty ≡ node.Set tag fields)) ⊎ (((inner : Box Ty Global) × (ty ≡ node.SequenceOf tag inner))
    ⊎ ((inner : Box Ty Global) × (ty ≡ node.SetOf tag inner)))) → IsFramed tag (ty_view ty)
framed_view ty tag (inl h) = inl (components_view h.0.items, ap ty_view h.1 ∙ ty-Sequence tag h.0)
framed_view ty tag (inr (inl h)) = inr (inl (components_view h.0.items, ap ty_view h.1 ∙ ty-Set tag h.0))
framed_view ty tag (inr (inr (inl h))) = inr (inr (inl (ty_view h.0.value, ap ty_view h.1 ∙ ty-SequenceOf tag h.0)))
framed_view ty tag (inr (inr (inr h))) = inr (inr (inr (ty_view h.0.value, ap ty_view h.1 ∙ ty-SetOf tag h.0)))

pub leaf_of : (tag : Tag) (shape : Shape) → IsLeaf shape → tag_of shape ≡ tag → IsLeafOf tag shape
leaf_of tag (Shape.simple own type) leaf is = inl (type, ap (λ t. Shape.simple t type) is)
leaf_of tag (Shape.string own type) leaf is = inr (type, ap (λ t. Shape.string t type) is)
leaf_of tag (Shape.sequence own components) leaf is = absurd leaf
leaf_of tag (Shape.set own components) leaf is = absurd leaf
leaf_of tag (Shape.sequence_of own type) leaf is = absurd leaf
leaf_of tag (Shape.set_of own type) leaf is = absurd leaf
leaf_of tag (Shape.choice alternatives) leaf is = absurd leaf
leaf_of tag (Shape.explicit own type) leaf is = absurd leaf

pub leaf_kept : (tag : Tag) (shape : Shape) → IsLeafOf tag shape → HasGoodNodes shape → tag.number ≤ 268_435_455
leaf_kept tag shape (inl h) good = let whole : HasGoodNodes (Shape.simple tag h.0) = subst HasGoodNodes h.1 good in whole.within.0.0
leaf_kept tag shape (inr h) good = let whole : HasGoodNodes (Shape.string tag h.0) = subst HasGoodNodes h.1 good in whole.within.0.0

-- a SEQUENCE OF or SET OF, by its items
pub list_size : (rule : Rule) (tag : Tag) (type shape : Shape) (v : Val) (n size : ℕ) → IsCanonical rule → IsListOf tag type shape → (parts : HasItems tag type v) → HasSize (AreItems (IsEncoding rule type) (listed parts.items)) n → n ≤ size → SizesConstructed rule tag n size
    → HasSize (IsEncoding rule shape v) size
list_size rule tag type shape v n size canonical (inl is) parts h more sizes =
    subst (λ s. HasSize (IsEncoding rule s v) size) (sym is) (subst (λ w. HasSize (IsEncoding rule (Shape.sequence_of tag type) w) size) (sym parts.is)
    (size_alike _ _ size (sequence_of_alike rule tag type parts.items) (around_size _ rule tag n size parts.kept h more sizes)))
list_size rule tag type shape v n size canonical (inr is) parts h more sizes =
    subst (λ s. HasSize (IsEncoding rule s v) size) (sym is) (subst (λ w. HasSize (IsEncoding rule (Shape.set_of tag type) w) size) (sym parts.is)
    (size_alike _ _ size (set_of_alike rule tag type parts.items canonical) (around_size _ rule tag n size parts.kept (ordered_items_size (IsEncoding rule type) (listed parts.items) n h) more sizes)))

-- a SEQUENCE or SET, by its components
pub record_size : (rule : Rule) (tag : Tag) (components : Components) (shape : Shape) (v : Val) (n size : ℕ) → IsCanonical rule → IsRecordOf tag components shape → HasGoodNodes shape → (parts : HasSlots tag components v) → HasSize (AreComponents rule components parts.slots) n → n ≤ size
    → SizesConstructed rule tag n size → HasSize (IsEncoding rule shape v) size
record_size rule tag components shape v n size canonical (inl is) good parts h more sizes =
    subst (λ s. HasSize (IsEncoding rule s v) size) (sym is) (subst (λ w. HasSize (IsEncoding rule (Shape.sequence tag components) w) size) (sym parts.is)
    (size_alike _ _ size (sequence_alike rule tag components parts.slots) (around_size _ rule tag n size parts.kept h more sizes)))
record_size rule tag components shape v n size canonical (inr is) good parts h more sizes =
    let whole : HasGoodNodes (Shape.set tag components) = subst HasGoodNodes is good in
    subst (λ s. HasSize (IsEncoding rule s v) size) (sym is) (subst (λ w. HasSize (IsEncoding rule (Shape.set tag components) w) size) (sym parts.is)
    (size_alike _ _ size (set_alike rule tag components parts.slots canonical) (around_size _ rule tag n size parts.kept (by_tag_size rule components parts.slots n canonical whole.tags.0.1 h) more sizes)))

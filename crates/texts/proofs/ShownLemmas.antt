-- Lemmas on texts of values.
use Rattle.std.specs.List.{AllByRecursion, AllZip}
use Rattle.std.proofs.Common.{◌≡◌, ◌∙◌, ◌++◌, ℕ, zero, suc, List, [], ◌∷◌, refl, sym, ap, subst}
use Rattle.std.proofs.lemmas.List.Sorted.{IsPermutation-refl}
use Rattle.octets.specs.Front.{Appends}
use Rattle.types.specs.Shape.{Val, Slots, no_slot, absent, present, listed, Shape, Components, no_component, component, Alternatives, no_alternative, alternative}
use Rattle.types.specs.Conforms.{Conforms, SlotsConform, AlternativeConforms}
use Rattle.types.specs.Same.{IsSame, AreSameSlots, IsSameAlternative}
use Rattle.canon.specs.Ordered.{IsOrdered}
use Rattle.canon.proofs.OrderedOnceLemmas.{equal_in_order}
use Rattle.texts.specs.Text.{text_of}
use Rattle.texts.specs.Shown.{IsShown}
use Rattle.texts.specs.Laws.{SameValuesHaveOneText}

pub one_text : SameValuesHaveOneText
one_text shape v w a b well same h g = h.is ∙ (ap (text_of shape) ((equal_in_order shape v w h.ordered g.ordered well h.same h.ascends g.same g.ascends).1 same) ∙ sym g.is)

same_items : (P : Val → Type 0) (R : Val → Val → Type 0) → ((v : Val) → P v → R v v) → (vs : List Val) → AllByRecursion P vs → AllZip R vs vs
same_items P R f [] h = tt
same_items P R f (v ∷ vs) h = (f v h.0, same_items P R f vs h.1)

-- a value of a type is the same as itself
mutual
  pub same_refl : (shape : Shape) (v : Val) → Conforms shape v → IsSame shape v v
  same_refl (Shape.simple tag type) v h = refl
  same_refl (Shape.string tag type) v h = refl
  same_refl (Shape.sequence tag components) (Val.fields slots) h = slots_refl components slots h
  same_refl (Shape.sequence tag components) _ h = elim h [ ]
  same_refl (Shape.set tag components) (Val.fields slots) h = slots_refl components slots h
  same_refl (Shape.set tag components) _ h = elim h [ ]
  same_refl (Shape.sequence_of tag type) (Val.items items) h = same_items (Conforms type) (IsSame type) (λ v c. same_refl type v c) (listed items) h
  same_refl (Shape.sequence_of tag type) _ h = elim h [ ]
  same_refl (Shape.set_of tag type) (Val.items items) h =
      record { order = listed items; permutes = IsPermutation-refl (listed items); each = same_items (Conforms type) (IsSame type) (λ v c. same_refl type v c) (listed items) h }
  same_refl (Shape.set_of tag type) _ h = elim h [ ]
  same_refl (Shape.choice alternatives) (Val.chosen which v) h = (refl, alternative_refl alternatives which v h)
  same_refl (Shape.choice alternatives) _ h = elim h [ ]
  same_refl (Shape.explicit tag type) v h = same_refl type v h

  slots_refl : (components : Components) (slots : Slots) → SlotsConform components slots → AreSameSlots components slots slots
  slots_refl no_component no_slot h = tt
  slots_refl no_component _ h = elim h [ ]
  slots_refl (component name type requirement others) no_slot h = elim h [ ]
  slots_refl (component name type requirement others) (absent slots) h = slots_refl others slots h.1
  slots_refl (component name type requirement others) (present v slots) h = (same_refl type v h.0, slots_refl others slots h.2)

  alternative_refl : (alternatives : Alternatives) (which : ℕ) (v : Val) → AlternativeConforms alternatives which v → IsSameAlternative alternatives which v v
  alternative_refl no_alternative which v h = elim h [ ]
  alternative_refl (alternative name type others) zero v h = same_refl type v h
  alternative_refl (alternative name type others) (suc which) v h = alternative_refl others which v h

-- a value in order is shown as it stands
pub shown_as_it_stands : (shape : Shape) (v : Val) (text : List ℕ) → Conforms shape v → IsOrdered shape v → text ≡ text_of shape v → IsShown shape v text
shown_as_it_stands shape v text c h is = record { ordered = v; same = same_refl shape v c; ascends = h; is = is }

-- a text behind none is the text alone
pub shown_alone : (shape : Shape) (v : Val) (before text : List ℕ) → before ≡ [] → Appends (IsShown shape v) before text → IsShown shape v text
shown_alone shape v before text none h = subst (IsShown shape v) (sym (h.1 ∙ ap (λ octets. octets ++ h.0) none)) h.2

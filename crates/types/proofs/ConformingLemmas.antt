-- Lemmas on which values a type has, and on which values are equal, slot by slot.
use mathlib.Core.Bool.{beq}
use Rattle.std.specs.Cmp.Lexicographic.{pointwise, pointwise_decides}
use Rattle.std.specs.Cmp.{booleans_Decides}
use Rattle.std.proofs.Common.{Bool, IsTrue, ◌≡◌, ◌↔◌, ◌<◌, ◌≤◌, ℕ, ℤ, FitsSigned, Contains, map, zero, suc, List, [], ◌∷◌, Option, Some, None, length, get_or, option_map, refl, sym, ap, ◌∙◌, subst, arith}
use Rattle.std.specs.Int.{w128}
use Rattle.std.specs.List.{AllByRecursion}
use Rattle.types.specs.declared.ty.Item.{Item}
use Rattle.types.specs.declared.ty.Ty.{Ty}
use Rattle.types.specs.declared.ty.Field.{Field}
use Rattle.types.specs.declared.ty.Alternative.{Alternative}
use Rattle.types.specs.declared.value.Value.{Value}
use Rattle.types.specs.Shape.{Val, StringValue, Shape, listed}
use Rattle.types.specs.Conforms.{Conforms, SlotsConform, AlternativeConforms}
use Rattle.types.specs.View.{AlternativeView, item_view, ty_view, value_view, slots_view, items_view, components_view, alternative_view, alternatives_view}
use Rattle.types.proofs.ItemLemmas.{numbers_of}
use Rattle.types.proofs.ViewLemmas.{alternative_is, listed-items_view}

abbrev pub SlotsHold : List Field → List (Option Value) → Type 0
SlotsHold fields slots = SlotsConform (components_view fields) (slots_view slots)

abbrev pub SlotHolds : Field → Option Value → Type 0
SlotHolds field slot = SlotsHold (field ∷ []) (slot ∷ [])

pub slots_first : (f : Field) (s : Option Value) (fs : List Field) (ss : List (Option Value)) → SlotsHold (f ∷ fs) (s ∷ ss) ↔ (SlotHolds f s × SlotsHold fs ss)
slots_first f None fs ss = (λ h. ((h.0, tt), h.1), λ h. (h.0.0, h.1))
slots_first f (Some value) fs ss = (λ h. ((h.0, h.1, tt), h.2), λ h. (h.0.0, h.0.1, h.1))

pub as_many_slots : (fs : List Field) (ss : List (Option Value)) → SlotsHold fs ss → length fs ≡ length ss
as_many_slots [] [] h = refl
as_many_slots [] (None ∷ ss) h = absurd h
as_many_slots [] (Some value ∷ ss) h = absurd h
as_many_slots (f ∷ fs) [] h = absurd h
as_many_slots (f ∷ fs) (None ∷ ss) h = ap suc (as_many_slots fs ss h.1)
as_many_slots (f ∷ fs) (Some value ∷ ss) h = ap suc (as_many_slots fs ss h.2)

-- along equal components and equal slots
pub slots_along : (answer : Type 0) (fs gs : List Field) (ss rs : List (Option Value)) → gs ≡ fs → rs ≡ ss → answer ↔ SlotsHold gs rs → answer ↔ SlotsHold fs ss
slots_along answer fs gs ss rs p q h = subst (λ l. answer ↔ SlotsHold l ss) p (subst (λ l. answer ↔ SlotsHold gs l) q h)

abbrev pub ItemsHold : Shape → List Value → Type 0
ItemsHold type values = AllByRecursion (Conforms type) (map value_view values)

pub items_first : (type : Shape) (v : Value) (vs : List Value) → ItemsHold type (v ∷ vs) ↔ (Conforms type (value_view v) × ItemsHold type vs)
items_first type v vs = (λ h. (h.0, h.1), λ h. (h.0, h.1))

pub items_along : (answer : Type 0) (t u : Ty) (vs ws : List Value) → u ≡ t → ws ≡ vs → answer ↔ ItemsHold (ty_view u) ws → answer ↔ AllByRecursion (Conforms (ty_view t)) (listed (items_view vs))
items_along answer t u vs ws p q h =
    subst (λ l. answer ↔ AllByRecursion (Conforms (ty_view t)) l) (sym (listed-items_view vs)) (subst (λ (s : Ty). answer ↔ ItemsHold (ty_view s) vs) p (subst (λ l. answer ↔ ItemsHold (ty_view u) l) q h))

pub enumerated_along : (answer : Type 0) (items found : List Item) (n : ℤ) → found ≡ items → FitsSigned w128 n → answer ↔ Contains (map (λ (item : Item). item.number) found) n → answer ↔ (Contains (map (λ item. item.number) (map item_view items)) n × FitsSigned w128 n)
enumerated_along answer items found n p fits h =
    let whole : answer ↔ Contains (map (λ item. item.number) (map item_view items)) n =
    subst (λ l. answer ↔ Contains l n) (sym (numbers_of items)) (subst (λ (l : List Item). answer ↔ Contains (map (λ (item : Item). item.number) l) n) p h) in
    (λ a. (whole.0 a, fits), λ both. whole.1 both.0)

pub alternative_at : (xs : List Alternative) (which : ℕ) (x : Alternative) (v : Val) → which < length xs → x ≡ get_or xs which x → Conforms (ty_view x.ty) v ↔ AlternativeConforms (alternatives_view xs) which v
alternative_at [] which x v below is = absurd (omega arith)
alternative_at (y ∷ xs) zero x v below is =
    let e : (alternative_view y).type ≡ ty_view x.ty = ap (λ (a : AlternativeView). a.type) (alternative_is y) ∙ ap (λ (a : Alternative). ty_view a.ty) (sym is) in
    (λ h. subst (λ s. Conforms s v) (sym e) h, λ h. subst (λ s. Conforms s v) e h)
alternative_at (y ∷ xs) (suc which) x v below is = alternative_at xs which x v (omega arith) is

pub no_alternative_past : (xs : List Alternative) (which : ℕ) (v : Val) → length xs ≤ which → AlternativeConforms (alternatives_view xs) which v → ⊥
no_alternative_past [] which v past h = h
no_alternative_past (y ∷ xs) zero v past h = omega arith
no_alternative_past (y ∷ xs) (suc which) v past h = no_alternative_past xs which v (omega arith) h

-- along equal types and equal values
pub conforms_along : (answer : Type 0) (s t : Shape) (v w : Val) → s ≡ t → v ≡ w → answer ↔ Conforms t w → answer ↔ Conforms s v
conforms_along answer s t v w p q h = (
  λ x. subst (λ u. Conforms u v) (sym p) (subst (Conforms t) (sym q) (h.0 x)),
  λ x. h.1 (subst (Conforms t) q (subst (λ u. Conforms u v) p x)),
)

abbrev pub AreSameSlots : List (Option Value) → List (Option Value) → Type 0
AreSameSlots ss rs = slots_view ss ≡ slots_view rs

pub same_slots_first : (s r : Option Value) (ss rs : List (Option Value)) → AreSameSlots (s ∷ ss) (r ∷ rs) ↔ ((option_map value_view s ≡ option_map value_view r) × AreSameSlots ss rs)
same_slots_first None None ss rs = (λ h. (refl, cc h), λ h. cc (h.1))
same_slots_first None (Some w) ss rs = (λ h. cc h, λ h. cc (h.0))
same_slots_first (Some v) None ss rs = (λ h. cc h, λ h. cc (h.0))
same_slots_first (Some v) (Some w) ss rs = (λ h. (cc h, cc h), λ h. cc (h.0, h.1))

pub as_many_same_slots : (ss rs : List (Option Value)) → AreSameSlots ss rs → length ss ≡ length rs
as_many_same_slots [] [] h = refl
as_many_same_slots [] (None ∷ rs) h = cc h
as_many_same_slots [] (Some w ∷ rs) h = cc h
as_many_same_slots (None ∷ ss) [] h = cc h
as_many_same_slots (Some v ∷ ss) [] h = cc h
as_many_same_slots (s ∷ ss) (r ∷ rs) h = ap suc (as_many_same_slots ss rs ((same_slots_first s r ss rs).0 h).1)

abbrev pub AreSameItems : List Value → List Value → Type 0
AreSameItems vs ws = items_view vs ≡ items_view ws

pub same_items_first : (v w : Value) (vs ws : List Value) → AreSameItems (v ∷ vs) (w ∷ ws) ↔ ((value_view v ≡ value_view w) × AreSameItems vs ws)
same_items_first v w vs ws = (λ h. (cc h, cc h), λ h. cc (h.0, h.1))

pub as_many_same_items : (vs ws : List Value) → AreSameItems vs ws → length vs ≡ length ws
as_many_same_items [] [] h = refl
as_many_same_items [] (w ∷ ws) h = cc h
as_many_same_items (v ∷ vs) [] h = cc h
as_many_same_items (v ∷ vs) (w ∷ ws) h = ap suc (as_many_same_items vs ws ((same_items_first v w vs ws).0 h).1)

pub equal_bits : (answer : Bool) (a b : List Bool) → answer ≡ pointwise beq a b → IsTrue answer ↔ (Val.string (StringValue.bits a) ≡ Val.string (StringValue.bits b))
equal_bits answer a b is =
    let told = pointwise_decides booleans_Decides a b in (
      λ yes. let same = told.0 (sym is ∙ yes) in cc same,
      λ h. let same : a ≡ b = cc h in is ∙ told.1 same,
    )

-- along equal values
pub equal_along : (answer : Type 0) (v w x y : Val) → v ≡ w → x ≡ y → answer ↔ (w ≡ y) → answer ↔ (v ≡ x)
equal_along answer v w x y p q h = (λ a. p ∙ h.0 a ∙ sym q, λ e. h.1 (sym p ∙ e ∙ q))

pub equal_fields : (answer : Type 0) (ss rs : List (Option Value)) (ss' rs' : List (Option Value)) → ss' ≡ ss → rs' ≡ rs → answer ↔ AreSameSlots ss' rs' → answer ↔ (Val.fields (slots_view ss) ≡ Val.fields (slots_view rs))
equal_fields answer ss rs ss' rs' p q h =
    let along : answer ↔ AreSameSlots ss rs = subst (λ l. answer ↔ AreSameSlots l rs) p (subst (λ l. answer ↔ AreSameSlots ss' l) q h) in
    (λ a. ap Val.fields (along.0 a), λ e. along.1 (cc e))

-- Lemmas on values whose items are in order since there is at most one in each list that is put in order.
use Rattle.std.specs.List.{AllByRecursion}
use Rattle.std.proofs.Common.{◌≡◌, inl, ◌<◌, ◌≤◌, ◌+◌, ◌∙◌, ℕ, zero, suc, List, [], ◌∷◌, Option, Some, None, length, get_or, drop, map, sym, ap, subst, subst₂, arith}
use Rattle.std.proofs.lemmas.List.{drop_all, length-map}
use Rattle.octets.specs.declared.tag.Tag.{Tag}
use Rattle.types.specs.declared.ty.Ty.{Ty}
use Rattle.types.specs.declared.ty.Field.{Field}
use Rattle.types.specs.declared.ty.Alternative.{Alternative}
use Rattle.types.specs.declared.value.Value.{Value}
use Rattle.types.specs.Shape.{Val, Shape, listed}
use Rattle.types.specs.View.{AlternativeView, ty_view, value_view, slots_view, items_view, components_view, alternative_view, alternatives_view}
use Rattle.types.proofs.LoopLemmas.{left_at}
use Rattle.types.proofs.ViewLemmas.{alternative_is, listed-items_view}
use Rattle.canon.specs.Ordered.{IsOrdered, AreOrderedSlots, IsOrderedAlternative}

-- what is in order from a place on, the whole list is
abbrev pub ItemsOrdered : Shape → List Value → Type 0
ItemsOrdered type values = AllByRecursion (IsOrdered type) (map value_view values)

abbrev pub SlotsOrdered : List Field → List (Option Value) → Type 0
SlotsOrdered fields slots = AreOrderedSlots (components_view fields) (slots_view slots)

pub items_go_on : (type : Shape) (xs : List Value) (i : ℕ) (x : Value) (W : Type 0) → i < length xs → x ≡ get_or xs i x → IsOrdered type (value_view x) → (ItemsOrdered type (drop i xs) → W) → ItemsOrdered type (drop (i + 1) xs) → W
items_go_on type xs i x W below is one before h = before (subst (ItemsOrdered type) (sym (left_at xs i x below is)) (one, h))

pub items_end : (type : Shape) (xs : List Value) (i : ℕ) (W : Type 0) → length xs ≤ i → (ItemsOrdered type (drop i xs) → W) → W
items_end type xs i W past before = before (subst (ItemsOrdered type) (sym (drop_all i xs past)) tt)

slots_first : (f : Field) (s : Option Value) (fs : List Field) (ss : List (Option Value)) → SlotsOrdered (f ∷ []) (s ∷ []) → SlotsOrdered fs ss → SlotsOrdered (f ∷ fs) (s ∷ ss)
slots_first f None fs ss h g = g
slots_first f (Some v) fs ss h g = (h.0, g)

pub slots_go_on : (xs : List Field) (ys : List (Option Value)) (i : ℕ) (x : Field) (y : Option Value) (W : Type 0) → i < length xs → i < length ys → x ≡ get_or xs i x → y ≡ get_or ys i y → SlotsOrdered (x ∷ []) (y ∷ [])
    → (SlotsOrdered (drop i xs) (drop i ys) → W) → SlotsOrdered (drop (i + 1) xs) (drop (i + 1) ys) → W
slots_go_on xs ys i x y W below there is stands one before h = before (subst₂ SlotsOrdered (sym (left_at xs i x below is)) (sym (left_at ys i y there stands)) (slots_first x y (drop (i + 1) xs) (drop (i + 1) ys) one h))

pub slots_end : (xs : List Field) (ys : List (Option Value)) (i : ℕ) (W : Type 0) → length xs ≤ i → length ys ≤ i → (SlotsOrdered (drop i xs) (drop i ys) → W) → W
slots_end xs ys i W past gone before = before (subst₂ SlotsOrdered (sym (drop_all i xs past)) (sym (drop_all i ys gone)) tt)

pub alternative_ordered : (xs : List Alternative) (which : ℕ) (x : Alternative) (v : Val) → which < length xs → x ≡ get_or xs which x → IsOrdered (ty_view x.ty) v → IsOrderedAlternative (alternatives_view xs) which v
alternative_ordered [] which x v below is h = absurd (omega arith)
alternative_ordered (y ∷ xs) zero x v below is h =
    let e : (alternative_view y).type ≡ ty_view x.ty = ap (λ (a : AlternativeView). a.type) (alternative_is y) ∙ ap (λ (a : Alternative). ty_view a.ty) (sym is) in
    subst (λ s. IsOrdered s v) (sym e) h
alternative_ordered (y ∷ xs) (suc which) x v below is h = alternative_ordered xs which x v (omega arith) is h

-- along equal types and values
pub ordered_along : (s t : Shape) (v w : Val) → s ≡ t → v ≡ w → IsOrdered t w → IsOrdered s v
ordered_along s t v w p q h = subst₂ IsOrdered (sym p) (sym q) h

pub slots_along : (fs gs : List Field) (ss rs : List (Option Value)) → gs ≡ fs → rs ≡ ss → SlotsOrdered gs rs → SlotsOrdered fs ss
slots_along fs gs ss rs p q h = subst₂ SlotsOrdered p q h

pub items_along : (t u : Ty) (vs ws : List Value) → u ≡ t → ws ≡ vs → ItemsOrdered (ty_view u) ws → AllByRecursion (IsOrdered (ty_view t)) (listed (items_view vs))
items_along t u vs ws p q h = subst (AllByRecursion (IsOrdered (ty_view t))) (sym (listed-items_view vs)) (subst₂ (λ (s : Ty) xs. ItemsOrdered (ty_view s) xs) p q h)

-- one item is in order
pub few_ordered : (tag : Tag) (type : Shape) (xs : List Value) → length xs < 2 → AllByRecursion (IsOrdered type) (listed (items_view xs)) → IsOrdered (Shape.set_of tag type) (Val.items (items_view xs))
few_ordered tag type xs few h = (h, inl (omega (arith, few, ap length (listed-items_view xs), length-map xs value_view)))

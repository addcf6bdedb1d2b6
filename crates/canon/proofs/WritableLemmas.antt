-- Lemmas on the parts of values that can be written.
use Rattle.std.proofs.Common.{◌≡◌, ◌∙◌, ◌<◌, ℕ, List, Option, Some, length, get_or, map, sym, ap, subst}
use Rattle.types.specs.declared.ty.Field.{Field}
use Rattle.types.specs.declared.value.Value.{Value}
use Rattle.types.specs.Shape.{Shape}
use Rattle.types.specs.View.{value_view, ty_view, components_view, slots_view}
use Rattle.canon.specs.Writes.{IsWritable, AreWritable, AreWritableSlots}
use Rattle.canon.proofs.StepLemmas.{item_conforms, present_at}

pub item_writable : (type : Shape) (xs : List Value) (i : ℕ) (x : Value) → i < length xs → x ≡ get_or xs i x → AreWritable type (map value_view xs) → IsWritable type (value_view x)
item_writable type xs i x l at h = record { nodes = h.nodes; conforms = item_conforms type xs i x l at h.conform }

-- the slot at a place, by what is read there
pub stands_at : (slots : List (Option Value)) (i : ℕ) (slot d : Option Value) → slot ≡ get_or slots i slot → slot ≡ d → d ≡ get_or slots i d
stands_at slots i slot d at is = sym is ∙ at ∙ ap (λ (e : Option Value). get_or slots i e) is

-- the component at a place, and its value
pub part_writable : (fields : List Field) (slots : List (Option Value)) (i : ℕ) (f : Field) (slot : Option Value) (v : Value) → i < length slots → f ≡ get_or fields i f → slot ≡ get_or slots i slot → slot ≡ Some v → AreWritableSlots (components_view fields) (slots_view slots)
    → IsWritable (ty_view (get_or fields i f).ty) (value_view v)
part_writable fields slots i f slot v l at place is h =
    let here = present_at fields slots i f v l at (stands_at slots i slot (Some v) place is) h.conform h.nodes in
    subst (λ (g : Field). IsWritable (ty_view g.ty) (value_view v)) at record { nodes = here.nodes; conforms = here.conforms }

-- A SET whose components are read over the values of the one before.
use Rattle.std.specs.Prelude.{◌≡◌, ◌≤◌, ◌<◌, ◌-◌, ℕ, zero, suc, true, false, List, [], ◌∷◌, Option, None, length, get_or, set}
use Rattle.octets.specs.declared.tag.Tag.{Tag}
use Rattle.types.specs.Leaf.{IsLeaf, tag_of}
use Rattle.types.specs.Shape.{Shape}
use Rattle.types.specs.View.{ty_view}
use Rattle.types.specs.declared.ty.Field.{Field}
use Rattle.types.specs.declared.value.Value.{Value}
use Rattle.encoding_parts.specs.HeldParts.{members_view}
use Rattle.encoding_parts.specs.Parts.{SetComponent, IsVacant}
use Rattle.berslice.specs.declared.renewed_set.Due.{Due}
use Rattle.berslice.specs.declared.renewed_set.RenewedSet.{RenewedSet}

-- what the slots say where so many of them, from this one on, hold old values
abbrev pub without : ℕ → ℕ → List (Option Value) → List (Option Value)
without first count [] = []
without zero zero (slot ∷ slots) = slot ∷ slots
without zero (suc count) (slot ∷ slots) = None ∷ without zero count slots
without (suc first) count (slot ∷ slots) = slot ∷ without first count slots

-- what would be in the slots of which those that have not come were emptied
abbrev pub slots_view : RenewedSet → List (Option Value) → List (Option Value)
slots_view s slots = without s.first (s.stop - s.first) slots

abbrev pub held_slots : RenewedSet → List (Option Value)
held_slots s = slots_view s s.set_components.slots.items

-- what has come of each component
abbrev pub renewed_view : RenewedSet → List SetComponent
renewed_view s = members_view s.set_components.fields.now (held_slots s)

-- the components that have not come have slots
pub record IsRoomy (s : RenewedSet) : Type 0 where
  pub fields : s.stop ≤ length s.set_components.fields.now
  pub slots : s.stop ≤ length s.set_components.slots.items
  pub range : s.first ≤ s.stop

-- no old value is left in the slots up to this one, which say the same
pub record IsEmptied (end : ℕ) (old new : RenewedSet) : Type 0 where
  pub first : new.first ≡ end
  pub stop : new.stop ≡ old.stop
  pub roomy : IsRoomy new
  pub fields : new.set_components.fields.now ≡ old.set_components.fields.now
  pub kept : held_slots new ≡ held_slots old

-- unless some were passed over, those that have not come are in the range
abbrev pub IsFilled : RenewedSet → Type 0
IsFilled s = s.has_passed ≡ false → (which : ℕ) (type : Shape) → IsVacant (renewed_view s) which type → (s.first ≤ which) × (which < s.stop)

-- the range lost no more than this component, unless some were passed over
abbrev pub HasLeft : RenewedSet → RenewedSet → ℕ → Type 0
HasLeft old new which = new.has_passed ≡ false → (old.has_passed ≡ false) × ((place : ℕ) → old.first ≤ place → place < old.stop → ¬ (place ≡ which) → (new.first ≤ place) × (place < new.stop))

-- this component of this type has not come, and has once its slot is set
pub record IsNext (old new : RenewedSet) (which : ℕ) (type : Shape) : Type 0 where
  pub vacant : IsVacant (renewed_view old) which type
  pub fields : new.set_components.fields.now ≡ old.set_components.fields.now
  pub there : suc which ≤ length new.set_components.slots.items
  pub put : (slot : Option Value) → slots_view new (set new.set_components.slots.items which slot) ≡ set (held_slots old) which slot
  pub left : HasLeft old new which

-- the component at this place has not come, and has once its slot is set
abbrev pub IsNextAt : RenewedSet → RenewedSet → ℕ → Type 0
IsNextAt old new place = (place < length old.set_components.fields.now) × ((f : Field) → f ≡ get_or old.set_components.fields.now place f → IsNext old new place (ty_view f.ty))

-- a component that is marked as a leaf is one of the tag
abbrev pub IsLeafOf : Tag → Due → Type 0
IsLeafOf tag due = due.is_leaf ≡ true → IsLeaf (ty_view due.ty.now) × (tag_of (ty_view due.ty.now) ≡ tag)

-- What an open encoding of the code holds of its parts, and why it refuses one.
use Rattle.std.specs.Prelude.{⊤, length, take, drop, map, option_map, List, ◌∷◌, [], Option}
use Rattle.types.specs.Shape.{Val, Shape}
use Rattle.types.specs.View.{ComponentView, ty_view, value_view, field_view}
use Rattle.types.specs.declared.refusal.Refusal.{Refusal}
use Rattle.types.specs.declared.ty.Field.{Field}
use Rattle.types.specs.declared.value.Value.{Value}
use Rattle.types.specs.declared.refusal.Refusal.TheVariants.{Identifier, Length, EndOfContents, Missing, Repeated, NoMemory}
use Rattle.encoding_parts.specs.declared.set_components.SetComponents.{SetComponents}
use Rattle.encoding_parts.specs.declared.held_parts.HeldParts.{HeldParts}
use Rattle.encoding_parts.specs.declared.held_parts.HeldParts.TheVariants.{Explicit, Items, Sequence, Set}
use Rattle.encoding_parts.specs.Parts.{Parts, SetComponent}
use Rattle.encoding_parts.specs.Renewed.{new_items}

-- components of a SET, and the slot of each
abbrev pub set_components_view : List ComponentView → List (Option Val) → List SetComponent
set_components_view (c ∷ components) (slot ∷ slots) = record { component = c; come = slot } ∷ set_components_view components slots
set_components_view _ _ = []

abbrev pub members_view : List Field → List (Option Value) → List SetComponent
members_view fields slots = set_components_view (map field_view fields) (map (option_map value_view) slots)

abbrev pub come_view : SetComponents → List SetComponent
come_view s = members_view s.fields.now s.slots.items

-- as many components of a SEQUENCE have come or been passed over as there are slots
abbrev pub run_view : List ComponentView → List (Option Val) → Parts
run_view components slots = Parts.sequence (take (length slots) components) slots (drop (length slots) components)

abbrev pub parts_view : HeldParts → Parts
parts_view (Explicit type held) = Parts.explicit (ty_view type.now) (option_map value_view held)
parts_view (Items type list) = Parts.items (ty_view type.now) (map value_view (new_items list))
parts_view (Sequence fields slots) = run_view (map field_view fields.now) (map (option_map value_view) slots.items)
parts_view (Set set_components) = Parts.set (come_view set_components)

-- a type whose encodings have a tag of their own
abbrev pub IsNode : Shape → Type 0
IsNode (Shape.choice alternatives) = ⊥
IsNode _ = ⊤

-- 2, 5, 8 and 9: why a part that begins with some tag is refused
abbrev pub IsOfDue : Refusal → Type 0
IsOfDue Identifier = ⊤
IsOfDue EndOfContents = ⊤
IsOfDue Missing = ⊤
IsOfDue Repeated = ⊤
IsOfDue _ = ⊥

-- 4, 5, 8 and 17: why parts are refused behind which nothing comes
abbrev pub IsOfParts : Refusal → Type 0
IsOfParts Length = ⊤
IsOfParts EndOfContents = ⊤
IsOfParts Missing = ⊤
IsOfParts NoMemory = ⊤
IsOfParts _ = ⊥

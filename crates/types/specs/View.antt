-- What a `Ty` and a `Value` of the code stand for.
use Rattle.std.specs.Prelude.{ℕ, List, [], ◌∷◌, Option, Some, None, map, option_map}
use Rattle.types.specs.Shape.{EnumerationItem, NamedBitView, SimpleType, StringType, SimpleValue, StringValue, Val, Slots, no_slot, absent, present, Items, no_item, item, Requirement, Shape, Components, no_component, component, Alternatives, no_alternative, alternative}
use Rattle.types.specs.declared.ty.Item.{Item}
use Rattle.types.specs.declared.ty.NamedBit.{NamedBit}
use Rattle.types.specs.declared.ty.Presence.{Presence}
use Rattle.types.specs.declared.ty.Ty.{Ty, fold-Ty}
use Rattle.types.specs.declared.ty.Field.{Field, fold-Field}
use Rattle.types.specs.declared.ty.Alternative.{Alternative, fold-Alternative}
use Rattle.types.specs.declared.ty.Ty.TheOpen.{Ty-F, Field-F, Alternative-F}
use Rattle.types.specs.declared.value.Value.{Value, fold-Value}
use Rattle.types.specs.declared.value.Value.TheOpen.{Value-F}

abbrev pub slots_of : List (Option Val) → Slots
slots_of [] = no_slot
slots_of (None ∷ slots) = absent (slots_of slots)
slots_of (Some value ∷ slots) = present value (slots_of slots)

abbrev pub items_of : List Val → Items
items_of [] = no_item
items_of (value ∷ values) = item value (items_of values)

-- one level of a value, each value within it seen already
abbrev pub value_step : Value-F Val → Val
value_step (Value-F.Boolean truth) = Val.simple (SimpleValue.boolean truth)
value_step (Value-F.Integer number) = Val.simple (SimpleValue.integer number)
value_step (Value-F.WideInteger octets) = Val.simple (SimpleValue.wide_integer octets.items)
value_step (Value-F.Enumerated number) = Val.simple (SimpleValue.enumerated number)
value_step Value-F.Null = Val.simple SimpleValue.null
value_step (Value-F.Oid arcs) = Val.simple (SimpleValue.oid arcs.items)
value_step (Value-F.RelativeOid arcs) = Val.simple (SimpleValue.relative_oid arcs.items)
value_step (Value-F.Bits bits) = Val.string (StringValue.bits bits)
value_step (Value-F.Octets octets) = Val.string (StringValue.octets octets.items)
value_step (Value-F.Text octets) = Val.string (StringValue.text octets.items)
value_step (Value-F.Fields slots) = Val.fields (slots_of slots.items)
value_step (Value-F.Items values) = Val.items (items_of values.items)
value_step (Value-F.Chosen which value) = Val.chosen which value.value

abbrev pub value_view : Value → Val
value_view = fold-Value Val value_step

abbrev pub slots_view : List (Option Value) → Slots
slots_view slots = slots_of (map (option_map value_view) slots)

abbrev pub items_view : List Value → Items
items_view values = items_of (map value_view values)

abbrev pub requirement_view : Presence → Requirement
requirement_view Presence.Required = Requirement.required
requirement_view Presence.Optional = Requirement.optional
requirement_view (Presence.Default value) = Requirement.default (value_view value)

-- a component and an alternative, of which lists are made
pub record ComponentView : Type 0 where
  pub name : List ℕ
  pub type : Shape
  pub requirement : Requirement

pub record AlternativeView : Type 0 where
  pub name : List ℕ
  pub type : Shape

abbrev pub components_of : List ComponentView → Components
components_of [] = no_component
components_of (c ∷ others) = component c.name c.type c.requirement (components_of others)

abbrev pub alternatives_of : List AlternativeView → Alternatives
alternatives_of [] = no_alternative
alternatives_of (a ∷ others) = alternative a.name a.type (alternatives_of others)

abbrev pub item_view : Item → EnumerationItem
item_view i = record { name = i.name; number = i.number }

abbrev pub named_bit_view : NamedBit → NamedBitView
named_bit_view b = record { name = b.name; number = b.number }

-- one level of a type, each type within it seen already
abbrev pub ty_step : Ty-F Shape AlternativeView ComponentView → Shape
ty_step (Ty-F.Boolean tag) = Shape.simple tag SimpleType.boolean
ty_step (Ty-F.Integer tag) = Shape.simple tag SimpleType.integer
ty_step (Ty-F.Enumerated tag items) = Shape.simple tag (SimpleType.enumerated (map item_view items.items))
ty_step (Ty-F.Null tag) = Shape.simple tag SimpleType.null
ty_step (Ty-F.Oid tag) = Shape.simple tag SimpleType.oid
ty_step (Ty-F.RelativeOid tag) = Shape.simple tag SimpleType.relative_oid
ty_step (Ty-F.Bits tag) = Shape.string tag StringType.bit_string
ty_step (Ty-F.NamedBits tag bits) = Shape.string tag (StringType.named_bits (map named_bit_view bits.items))
ty_step (Ty-F.Octets tag) = Shape.string tag StringType.octet_string
ty_step (Ty-F.Text tag kind) = Shape.string tag (StringType.text kind)
ty_step (Ty-F.Time tag kind) = Shape.string tag (StringType.time kind)
ty_step (Ty-F.Sequence tag fields) = Shape.sequence tag (components_of fields.items)
ty_step (Ty-F.Set tag fields) = Shape.set tag (components_of fields.items)
ty_step (Ty-F.SequenceOf tag type) = Shape.sequence_of tag type.value
ty_step (Ty-F.SetOf tag type) = Shape.set_of tag type.value
ty_step (Ty-F.Choice alternatives) = Shape.choice (alternatives_of alternatives.items)
ty_step (Ty-F.Explicit tag type) = Shape.explicit tag type.value

abbrev pub alternative_step : Alternative-F Shape AlternativeView ComponentView → AlternativeView
alternative_step a = record { name = a.name; type = a.ty }

abbrev pub field_step : Field-F Shape AlternativeView ComponentView → ComponentView
field_step f = record { name = f.name; type = f.ty; requirement = requirement_view f.presence }

abbrev pub ty_view : Ty → Shape
ty_view = fold-Ty Shape AlternativeView ComponentView ty_step alternative_step field_step

abbrev pub field_view : Field → ComponentView
field_view = fold-Field Shape AlternativeView ComponentView ty_step alternative_step field_step

abbrev pub alternative_view : Alternative → AlternativeView
alternative_view = fold-Alternative Shape AlternativeView ComponentView ty_step alternative_step field_step

abbrev pub components_view : List Field → Components
components_view fields = components_of (map field_view fields)

abbrev pub alternatives_view : List Alternative → Alternatives
alternatives_view alternatives = alternatives_of (map alternative_view alternatives)

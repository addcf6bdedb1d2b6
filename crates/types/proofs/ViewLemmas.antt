-- What types and values of the code stand for, level by level.
use Rattle.std.proofs.Common.{◌≡◌, ℕ, ℤ, Bool, List, [], ◌∷◌, Option, Vec, Box, Global, map, refl, ap, rules}
use Rattle.strings.specs.declared.time.TimeKind.{TimeKind}
use Rattle.strings.specs.declared.text.TextKind.{TextKind}
use Rattle.octets.specs.declared.tag.Tag.{Tag}
use Rattle.types.specs.Shape.{SimpleType, StringType, SimpleValue, StringValue, Val, listed, Shape}
use Rattle.types.specs.View.{value_view, slots_view, items_view, items_of, item_view, named_bit_view, requirement_view, ty_view, field_view, alternative_view, components_view, alternatives_view}
use Rattle.types.specs.declared.value.Value.{Value}
use Rattle.types.specs.declared.value.Value as value
use Rattle.types.specs.declared.ty.Item.{Item}
use Rattle.types.specs.declared.ty.NamedBit.{NamedBit}
use Rattle.types.specs.declared.ty.Ty.{Ty}
use Rattle.types.specs.declared.ty.Ty as ty
use Rattle.types.specs.declared.ty.Field.{Field}
use Rattle.types.specs.declared.ty.Field as field
use Rattle.types.specs.declared.ty.Alternative.{Alternative}
use Rattle.types.specs.declared.ty.Alternative as alternative

pub value-Boolean : (truth : Bool) → value_view (value.Boolean truth) ≡ Val.simple (SimpleValue.boolean truth)
value-Boolean truth = search (rules, value.the_lemmas)

pub value-Integer : (number : ℤ) → value_view (value.Integer number) ≡ Val.simple (SimpleValue.integer number)
value-Integer number = search (rules, value.the_lemmas)

pub value-WideInteger : (octets : Vec ℕ Global) → value_view (value.WideInteger octets) ≡ Val.simple (SimpleValue.wide_integer octets.items)
value-WideInteger octets = search (rules, value.the_lemmas)

pub value-Enumerated : (number : ℤ) → value_view (value.Enumerated number) ≡ Val.simple (SimpleValue.enumerated number)
value-Enumerated number = search (rules, value.the_lemmas)

pub value-Null : value_view value.Null ≡ Val.simple SimpleValue.null
value-Null = search (rules, value.the_lemmas)

pub value-Oid : (arcs : Vec ℕ Global) → value_view (value.Oid arcs) ≡ Val.simple (SimpleValue.oid arcs.items)
value-Oid arcs = search (rules, value.the_lemmas)

pub value-RelativeOid : (arcs : Vec ℕ Global) → value_view (value.RelativeOid arcs) ≡ Val.simple (SimpleValue.relative_oid arcs.items)
value-RelativeOid arcs = search (rules, value.the_lemmas)

pub value-Bits : (bits : List Bool) → value_view (value.Bits bits) ≡ Val.string (StringValue.bits bits)
value-Bits bits = search (rules, value.the_lemmas)

pub value-Octets : (octets : Vec ℕ Global) → value_view (value.Octets octets) ≡ Val.string (StringValue.octets octets.items)
value-Octets octets = search (rules, value.the_lemmas)

pub value-Text : (octets : Vec ℕ Global) → value_view (value.Text octets) ≡ Val.string (StringValue.text octets.items)
value-Text octets = search (rules, value.the_lemmas)

pub value-Fields : (slots : Vec (Option Value) Global) → value_view (value.Fields slots) ≡ Val.fields (slots_view slots.items)
value-Fields slots = search (rules, value.the_lemmas)

pub value-Items : (values : Vec Value Global) → value_view (value.Items values) ≡ Val.items (items_view values.items)
value-Items values = search (rules, value.the_lemmas)

pub value-Chosen : (which : ℕ) (inner : Box Value Global) → value_view (value.Chosen which inner) ≡ Val.chosen which (value_view inner.value)
value-Chosen which inner = search (rules, value.the_lemmas)

pub ty-Boolean : (tag : Tag) → ty_view (ty.Boolean tag) ≡ Shape.simple tag SimpleType.boolean
ty-Boolean tag = search (rules, ty.the_lemmas)

pub ty-Integer : (tag : Tag) → ty_view (ty.Integer tag) ≡ Shape.simple tag SimpleType.integer
ty-Integer tag = search (rules, ty.the_lemmas)

pub ty-Enumerated : (tag : Tag) (items : Vec Item Global) → ty_view (ty.Enumerated tag items) ≡ Shape.simple tag (SimpleType.enumerated (map item_view items.items))
ty-Enumerated tag items = search (rules, ty.the_lemmas)

pub ty-Null : (tag : Tag) → ty_view (ty.Null tag) ≡ Shape.simple tag SimpleType.null
ty-Null tag = search (rules, ty.the_lemmas)

pub ty-Oid : (tag : Tag) → ty_view (ty.Oid tag) ≡ Shape.simple tag SimpleType.oid
ty-Oid tag = search (rules, ty.the_lemmas)

pub ty-RelativeOid : (tag : Tag) → ty_view (ty.RelativeOid tag) ≡ Shape.simple tag SimpleType.relative_oid
ty-RelativeOid tag = search (rules, ty.the_lemmas)

pub ty-Bits : (tag : Tag) → ty_view (ty.Bits tag) ≡ Shape.string tag StringType.bit_string
ty-Bits tag = search (rules, ty.the_lemmas)

pub ty-NamedBits : (tag : Tag) (bits : Vec NamedBit Global) → ty_view (ty.NamedBits tag bits) ≡ Shape.string tag (StringType.named_bits (map named_bit_view bits.items))
ty-NamedBits tag bits = search (rules, ty.the_lemmas)

pub ty-Octets : (tag : Tag) → ty_view (ty.Octets tag) ≡ Shape.string tag StringType.octet_string
ty-Octets tag = search (rules, ty.the_lemmas)

pub ty-Text : (tag : Tag) (kind : TextKind) → ty_view (ty.Text tag kind) ≡ Shape.string tag (StringType.text kind)
ty-Text tag kind = search (rules, ty.the_lemmas)

pub ty-Time : (tag : Tag) (kind : TimeKind) → ty_view (ty.Time tag kind) ≡ Shape.string tag (StringType.time kind)
ty-Time tag kind = search (rules, ty.the_lemmas)

pub ty-Sequence : (tag : Tag) (fields : Vec Field Global) → ty_view (ty.Sequence tag fields) ≡ Shape.sequence tag (components_view fields.items)
ty-Sequence tag fields = search (rules, ty.the_lemmas)

pub ty-Set : (tag : Tag) (fields : Vec Field Global) → ty_view (ty.Set tag fields) ≡ Shape.set tag (components_view fields.items)
ty-Set tag fields = search (rules, ty.the_lemmas)

pub ty-SequenceOf : (tag : Tag) (inner : Box Ty Global) → ty_view (ty.SequenceOf tag inner) ≡ Shape.sequence_of tag (ty_view inner.value)
ty-SequenceOf tag inner = search (rules, ty.the_lemmas)

pub ty-SetOf : (tag : Tag) (inner : Box Ty Global) → ty_view (ty.SetOf tag inner) ≡ Shape.set_of tag (ty_view inner.value)
ty-SetOf tag inner = search (rules, ty.the_lemmas)

pub ty-Choice : (alternatives : Vec Alternative Global) → ty_view (ty.Choice alternatives) ≡ Shape.choice (alternatives_view alternatives.items)
ty-Choice alternatives = search (rules, ty.the_lemmas)

pub ty-Explicit : (tag : Tag) (inner : Box Ty Global) → ty_view (ty.Explicit tag inner) ≡ Shape.explicit tag (ty_view inner.value)
ty-Explicit tag inner = search (rules, ty.the_lemmas)

pub field_is : (f : Field) → field_view f ≡ record { name = f.name; type = ty_view f.ty; requirement = requirement_view f.presence }
field_is f = search (rules, field.the_lemmas)

pub alternative_is : (a : Alternative) → alternative_view a ≡ record { name = a.name; type = ty_view a.ty }
alternative_is a = search (rules, alternative.the_lemmas)

-- the items of a value, as a list again
pub listed-items_of : (values : List Val) → listed (items_of values) ≡ values
listed-items_of [] = refl
listed-items_of (value ∷ values) = ap (λ others. value ∷ others) (listed-items_of values)

pub listed-items_view : (values : List Value) → listed (items_view values) ≡ map value_view values
listed-items_view values = listed-items_of (map value_view values)

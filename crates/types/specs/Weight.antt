-- How much a value weighs: one for each value in it, each slot, each item, each arc and each octet of a string
-- or of a wide INTEGER.
use Rattle.std.specs.Prelude.{ℕ, ◌+◌, ◌/◌, length}
use Rattle.types.specs.Shape.{SimpleValue, StringValue, Val, Slots, no_slot, absent, present, Items, no_item, item}

abbrev pub weight_of_simple : SimpleValue → ℕ
weight_of_simple (SimpleValue.oid arcs) = 1 + length arcs
weight_of_simple (SimpleValue.relative_oid arcs) = 1 + length arcs
weight_of_simple (SimpleValue.wide_integer octets) = 1 + length octets
weight_of_simple _ = 1

-- bits count as the octets that hold them
abbrev pub weight_of_string : StringValue → ℕ
weight_of_string (StringValue.bits bits) = 1 + (length bits + 7) / 8
weight_of_string (StringValue.octets octets) = 1 + length octets
weight_of_string (StringValue.text octets) = 1 + length octets

abbrev mutual
  pub weight_of : Val → ℕ
  weight_of (Val.simple value) = weight_of_simple value
  weight_of (Val.string value) = weight_of_string value
  weight_of (Val.fields slots) = 1 + weight_of_slots slots
  weight_of (Val.items items) = 1 + weight_of_items items
  weight_of (Val.chosen which value) = 1 + weight_of value

  pub weight_of_slots : Slots → ℕ
  weight_of_slots no_slot = 0
  weight_of_slots (absent slots) = 1 + weight_of_slots slots
  weight_of_slots (present value slots) = 1 + weight_of value + weight_of_slots slots

  pub weight_of_items : Items → ℕ
  weight_of_items no_item = 0
  weight_of_items (item value items) = 1 + weight_of value + weight_of_items items

-- How much a reader over pieces holds, and how much what it returns weighs.
use Rattle.std.specs.Prelude.{◌+◌, ◌*◌, ◌≤◌, ⊤, ℕ, List, [], ◌∷◌, Some, None, length, map}
use Rattle.types.specs.Shape.{Shape}
use Rattle.types.specs.View.{items_of, slots_of, value_view}
use Rattle.types.specs.Weight.{weight_of, weight_of_items, weight_of_slots}
use Rattle.types.specs.WellFormed.{nodes_of}
use Rattle.berreader.specs.declared.pieces.Pieces.{Pieces}
use Rattle.berreader.specs.declared.reader.Step as step
use Rattle.berreader.specs.Cursor.{depth_of, octets_in}
use Rattle.encoding_parts.specs.Parts.{Parts}
use Rattle.berreader.specs.Stack.{Layer, layers_of}

-- the values that have come, and the slots of all components, as of a value; a default that has come for a component of a SET
-- counts until the SET ends
abbrev pub weight_of_parts : Parts → ℕ
weight_of_parts (Parts.explicit type None) = 0
weight_of_parts (Parts.explicit type (Some value)) = weight_of value
weight_of_parts (Parts.items type values) = 1 + weight_of_items (items_of values)
weight_of_parts (Parts.sequence passed slots left) = 1 + weight_of_slots (slots_of slots) + length left
weight_of_parts (Parts.set set_components) = 1 + weight_of_slots (slots_of (map (λ s. s.come) set_components))

abbrev pub weight_of_layers : List Layer → ℕ
weight_of_layers [] = 0
weight_of_layers (layer ∷ others) = weight_of_parts layer.parts + weight_of_layers others

-- octets of which no value is made yet count one each, those of the string that has begun too; items of an older value that
-- was lent to the reader, into whose places the next ones are read, do not count
abbrev pub weight_held : Pieces → ℕ
weight_held pieces = weight_of_layers (layers_of pieces.cursor.nest.layers) + octets_in pieces.cursor.string + length pieces.pending.items

-- how many constructed encodings are open, those of the string that has begun too
abbrev pub open_encodings : Pieces → ℕ
open_encodings pieces = depth_of pieces.cursor

-- what so many octets may weigh
abbrev pub most_weight : Shape → ℕ → ℕ
most_weight shape octets = length (nodes_of shape) * (octets + 1)

-- a value that so many octets of the piece complete
abbrev pub IsLight : Shape → List ℕ → step.Step → Type 0
IsLight shape octets (step.TheVariants.Done value used) = weight_of (value_view value) ≤ most_weight shape (length octets + used)
IsLight shape octets step.TheVariants.More = ⊤

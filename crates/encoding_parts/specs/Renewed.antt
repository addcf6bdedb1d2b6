-- Lists that are made in the room of old ones.
use Rattle.std.specs.Prelude.{List, take}
use Rattle.types.specs.declared.value.Value.{Value}
use Rattle.encoding_parts.specs.declared.renewed.Renewed.{Renewed}

-- the new items, which stand in front of the old ones
abbrev pub new_items : Renewed → List Value
new_items list = take list.count list.items.items

-- The stack of open encodings, as the definitions see it.
use Rattle.std.specs.Prelude.{◌≡◌, ℕ, List, [], ◌∷◌, length, reverse, Option, Some, None}
use Rattle.octets.specs.declared.tag.Tag.{Tag}
use Rattle.types.specs.Shape.{Shape}
use Rattle.types.specs.View.{ty_view}
use Rattle.encoding_parts.specs.declared.frame.Frame.{Frame}
use Rattle.berreader.specs.declared.stack.Open.{Open}
use Rattle.berreader.specs.declared.stack.Stack.{Stack}
use Rattle.encoding_parts.specs.HeldParts.{parts_view}
use Rattle.encoding_parts.specs.Parts.{Parts}

-- an open encoding: where it ends, its tag, the type that it is of, its parts, and which of them is the open encoding
-- inside it, if one is
pub record Layer : Type 0 where
  pub frame : Frame
  pub tag : Tag
  pub type : Shape
  pub parts : Parts
  pub which : ℕ

-- this part of the innermost is the one that is open, or has come
abbrev pub with_which : List Layer → ℕ → List Layer
with_which [] which = []
with_which (layer ∷ others) which = record { frame = layer.frame; tag = layer.tag; type = layer.type; parts = layer.parts; which = which } ∷ others

abbrev pub with_parts : Layer → Parts → Layer
with_parts layer parts = record { frame = layer.frame; tag = layer.tag; type = layer.type; parts = parts; which = layer.which }

-- the open encodings of the code, the innermost first
abbrev pub layer_view : Open → Layer
layer_view o = record { frame = o.frame; tag = o.tag; type = ty_view o.ty.now; parts = parts_view o.held_parts; which = o.which }

abbrev pub layers_from : List (Option Open) → List Layer
layers_from [] = []
layers_from (None ∷ others) = []
layers_from (Some o ∷ others) = layer_view o ∷ layers_from others

abbrev pub layers_of : Stack → List Layer
layers_of stack = layers_from (stack.top ∷ reverse stack.outer.items)

-- one place for each
abbrev pub IsCounted : Stack → Type 0
IsCounted stack = length stack.outer.items ≡ length (layers_of stack)

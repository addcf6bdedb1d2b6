-- The text of a value whose items all stand in the order in which they are shown.
use Rattle.std.specs.Prelude.{ℕ, zero, suc, List, [], ◌∷◌, ◌++◌, map, codes}
use Rattle.types.specs.Shape.{Val, Slots, absent, present, listed, Shape, Components, component, Alternatives, no_alternative, alternative}
use Rattle.texts.specs.Leaf.{simple_text, string_text}

-- texts one after another, the first behind a lead and each later one behind a comma
abbrev pub led : List ℕ → List (List ℕ) → List ℕ
led lead [] = []
led lead (text ∷ texts) = lead ++ text ++ led (codes ", ") texts

-- texts in braces: `{ a, b }`, and `{ }` where there is none
abbrev pub in_braces : List (List ℕ) → List ℕ
in_braces texts = codes "{" ++ led (codes " ") texts ++ codes " }"

abbrev mutual
  pub text_of : Shape → Val → List ℕ
  text_of (Shape.simple tag type) (Val.simple value) = simple_text type value
  text_of (Shape.string tag type) (Val.string value) = string_text type value
  text_of (Shape.sequence tag components) (Val.fields slots) = in_braces (component_texts components slots)
  text_of (Shape.set tag components) (Val.fields slots) = in_braces (component_texts components slots)
  text_of (Shape.sequence_of tag type) (Val.items items) = in_braces (map (text_of type) (listed items))
  text_of (Shape.set_of tag type) (Val.items items) = in_braces (map (text_of type) (listed items))
  text_of (Shape.choice alternatives) (Val.chosen which value) = alternative_text alternatives which value
  text_of (Shape.explicit tag type) value = text_of type value
  text_of _ _ = []

  -- for each component that is present its name, a space and its text, in order of declaration
  pub component_texts : Components → Slots → List (List ℕ)
  component_texts (component name type requirement others) (absent slots) = component_texts others slots
  component_texts (component name type requirement others) (present value slots) = (name ++ codes " " ++ text_of type value) ∷ component_texts others slots
  component_texts _ _ = []

  -- the alternative's name, a colon between spaces and the text of its value
  pub alternative_text : Alternatives → ℕ → Val → List ℕ
  alternative_text no_alternative which value = []
  alternative_text (alternative name type others) zero value = name ++ codes " : " ++ text_of type value
  alternative_text (alternative name type others) (suc which) value = alternative_text others which value

-- The tags that the encodings of a type can begin with, and that tell its parts apart.
use Rattle.std.specs.Prelude.{◌≡◌, ◌≢◌, ⊤, List, [], ◌∷◌, ◌++◌}
use Rattle.std.specs.List.{AllPairs}
use Rattle.octets.specs.declared.tag.Class.TheVariants.{Universal}
use Rattle.octets.specs.declared.tag.Tag.{Tag}
use Rattle.types.specs.Shape.{Shape, Components, no_component, component, Alternatives, no_alternative, alternative, required, optional, default}

-- a CHOICE has no tag of its own: its encodings are those of its alternatives (X.690 8.13)
abbrev mutual
  pub first_tags : Shape → List Tag
  first_tags (Shape.simple tag type) = tag ∷ []
  first_tags (Shape.string tag type) = tag ∷ []
  first_tags (Shape.sequence tag components) = tag ∷ []
  first_tags (Shape.set tag components) = tag ∷ []
  first_tags (Shape.sequence_of tag type) = tag ∷ []
  first_tags (Shape.set_of tag type) = tag ∷ []
  first_tags (Shape.choice alternatives) = tags_of_alternatives alternatives
  first_tags (Shape.explicit tag type) = tag ∷ []

  pub tags_of_alternatives : Alternatives → List Tag
  tags_of_alternatives no_alternative = []
  tags_of_alternatives (alternative name type others) = first_tags type ++ tags_of_alternatives others

-- those of all components
abbrev pub tags_of_components : Components → List Tag
tags_of_components no_component = []
tags_of_components (component name type requirement others) = first_tags type ++ tags_of_components others

-- those of the components from here to the first one that must stand, with it
abbrev pub tags_of_run : Components → List Tag
tags_of_run no_component = []
tags_of_run (component name type required others) = first_tags type
tags_of_run (component name type optional others) = first_tags type ++ tags_of_run others
tags_of_run (component name type (default value) others) = first_tags type ++ tags_of_run others

abbrev pub AreDistinct : List Tag → Type 0
AreDistinct tags = AllPairs (λ a b. a ≢ b) tags

-- X.680 25.6: from each component on, up to the next one that must stand
abbrev pub RunsAreDistinct : Components → Type 0
RunsAreDistinct no_component = ⊤
RunsAreDistinct (component name type requirement others) = AreDistinct (tags_of_run (component name type requirement others)) × RunsAreDistinct others

-- universal 0 is kept for the end-of-contents octets (X.690 8.1.5)
abbrev pub IsUsable : Tag → Type 0
IsUsable tag = tag.class ≡ Universal → tag.number ≢ 0

-- the tag of a node and those that must tell its parts apart (X.680 25.6, 27.3 and 29.3)
abbrev pub HasDistinctTags : Shape → Type 0
HasDistinctTags (Shape.simple tag type) = IsUsable tag
HasDistinctTags (Shape.string tag type) = IsUsable tag
HasDistinctTags (Shape.sequence tag components) = IsUsable tag × RunsAreDistinct components
HasDistinctTags (Shape.set tag components) = IsUsable tag × AreDistinct (tags_of_components components)
HasDistinctTags (Shape.sequence_of tag type) = IsUsable tag
HasDistinctTags (Shape.set_of tag type) = IsUsable tag
HasDistinctTags (Shape.choice alternatives) = AreDistinct (tags_of_alternatives alternatives)
HasDistinctTags (Shape.explicit tag type) = IsUsable tag

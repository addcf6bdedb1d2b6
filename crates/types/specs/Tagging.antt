-- What a tag makes of a type (X.680 31.2).
use Rattle.octets.specs.declared.tag.Tag.{Tag}
use Rattle.types.specs.Shape.{Shape}

-- an implicit tag stands in place of the outermost tag, be it that of an explicit node
abbrev pub tagged_implicitly : Tag → Shape → Shape
tagged_implicitly tag (Shape.simple other type) = Shape.simple tag type
tagged_implicitly tag (Shape.string other type) = Shape.string tag type
tagged_implicitly tag (Shape.sequence other components) = Shape.sequence tag components
tagged_implicitly tag (Shape.set other components) = Shape.set tag components
tagged_implicitly tag (Shape.sequence_of other type) = Shape.sequence_of tag type
tagged_implicitly tag (Shape.set_of other type) = Shape.set_of tag type
tagged_implicitly tag (Shape.choice alternatives) = Shape.choice alternatives
tagged_implicitly tag (Shape.explicit other type) = Shape.explicit tag type

-- a tag without a keyword under IMPLICIT TAGS and AUTOMATIC TAGS: implicit, but explicit around an untagged CHOICE
abbrev pub tagged_by_default : Tag → Shape → Shape
tagged_by_default tag (Shape.choice alternatives) = Shape.explicit tag (Shape.choice alternatives)
tagged_by_default tag type = tagged_implicitly tag type

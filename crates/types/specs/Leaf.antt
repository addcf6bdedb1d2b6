-- Types without parts.
use Rattle.std.specs.Prelude.{⊤}
use Rattle.octets.specs.declared.tag.Tag.{Tag}
use Rattle.types.specs.Shape.{Shape}
use Rattle.types.specs.Strings.{octet_segment}

abbrev pub IsLeaf : Shape → Type 0
IsLeaf (Shape.simple tag type) = ⊤
IsLeaf (Shape.string tag type) = ⊤
IsLeaf _ = ⊥

-- the tag of one; of a type with parts, of which none is asked, any
abbrev pub tag_of : Shape → Tag
tag_of (Shape.simple tag type) = tag
tag_of (Shape.string tag type) = tag
tag_of _ = octet_segment

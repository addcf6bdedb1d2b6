-- The canonical order of tags (X.680 8.6), in which CER and DER write the components of a SET (X.690
-- 9.3 and 10.3).
use Rattle.std.specs.Prelude.{◌≡◌, ℕ, ◌<◌, ◌⊎◌}
use Rattle.octets.specs.declared.tag.Class.{Class}
use Rattle.octets.specs.declared.tag.Class.TheVariants.{Universal, Application, Context, Private}
use Rattle.octets.specs.declared.tag.Tag.{Tag}

-- 8.6 a: universal tags first, then application, then context-specific, then private ones
abbrev pub place_of : Class → ℕ
place_of Universal = 1
place_of Application = 2
place_of Context = 3
place_of Private = 4

-- 8.6 b: and within a class in ascending order of their numbers
abbrev pub ComesBefore : Tag → Tag → Type 0
ComesBefore a b = (place_of a.class < place_of b.class) ⊎ ((a.class ≡ b.class) × (a.number < b.number))

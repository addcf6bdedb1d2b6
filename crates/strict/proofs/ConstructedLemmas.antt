-- Lemmas on encodings of types with parts, by what stands inside.
use Rattle.std.proofs.Common.{◌≡◌, ◌+◌, ℕ, List, [], ◌∷◌, ◌++◌, length, take, drop, refl, sym, subst}
use Rattle.octets.specs.declared.canonical.Canonical.{Canonical}
use Rattle.octets.specs.declared.tag.Tag.{Tag}
use Rattle.octets.specs.Rule.{Rule}
use Rattle.types.specs.declared.value.Value.{Value}
use Rattle.types.specs.FirstTags.{first_tags}
use Rattle.types.specs.Form.{IsConstructed}
use Rattle.types.specs.Shape.{Val, Shape}
use Rattle.types.specs.Encoding.{IsEncoding}
use Rattle.encoding_parts.specs.Parts.{IsNodeFor}
use Rattle.strict.specs.declared.head.Inside.{Inside}
use Rattle.strict.specs.Begun.{CanBeConstructed}
use Rattle.strict.specs.Head.{HasConstructed, IsOpened, mark}
use Rattle.strict.specs.Inside.{HasParts, contents_of, HasInside, IsInsideRead}
use Rattle.strict.specs.Reading.{IsRead, HasPart}
use Rattle.strict.proofs.InsideLemmas.{closed}

-- the type is its own node, whose encodings are constructed
pub node_of_parts : (type : Shape) (tag : Tag) → HasParts type → first_tags type ≡ tag ∷ [] → IsNodeFor tag type type
node_of_parts (Shape.sequence own components) tag parts is = (cc is, refl)
node_of_parts (Shape.set own components) tag parts is = (cc is, refl)
node_of_parts (Shape.sequence_of own type) tag parts is = (cc is, refl)
node_of_parts (Shape.set_of own type) tag parts is = (cc is, refl)
node_of_parts type tag parts is = absurd parts

pub can_of_parts : (rule : Canonical) (type : Shape) → HasParts type → CanBeConstructed rule type
can_of_parts rule (Shape.sequence own components) parts = tt
can_of_parts rule (Shape.set own components) parts = tt
can_of_parts rule (Shape.sequence_of own type) parts = tt
can_of_parts rule (Shape.set_of own type) parts = tt
can_of_parts rule type parts = absurd parts

pub whole_of : (rule : Rule) (type : Shape) (tag : Tag) (v : Val) (part : List ℕ) → HasParts type → first_tags type ≡ tag ∷ [] → (h : IsEncoding rule type v part) → IsConstructed rule tag (contents_of rule type v part h) part
whole_of rule (Shape.sequence own components) tag v part parts is h = let same : own ≡ tag = cc is in subst (λ t. IsConstructed rule t (contents_of rule (Shape.sequence own components) v part h) part) same h.whole
whole_of rule (Shape.set own components) tag v part parts is h = let same : own ≡ tag = cc is in subst (λ t. IsConstructed rule t (contents_of rule (Shape.set own components) v part h) part) same h.whole
whole_of rule (Shape.sequence_of own type) tag v part parts is h = let same : own ≡ tag = cc is in subst (λ t. IsConstructed rule t (contents_of rule (Shape.sequence_of own type) v part h) part) same h.whole
whole_of rule (Shape.set_of own type) tag v part parts is h = let same : own ≡ tag = cc is in subst (λ t. IsConstructed rule t (contents_of rule (Shape.set_of own type) v part h) part) same h.whole
whole_of rule type tag v part parts is h = absurd parts

-- the octets begin with a constructed encoding
abbrev pub constructed_of : (rule : Rule) (type : Shape) (tag : Tag) (room : ℕ) (octets : List ℕ) → HasParts type → first_tags type ≡ tag ∷ [] → HasPart rule type room octets → HasConstructed rule tag room octets
constructed_of rule type tag room octets parts is h = record {
  contents = contents_of rule type h.value h.part h.encoding;
  part = h.part;
  rest = h.rest;
  whole = whole_of rule type tag h.value h.part parts is h.encoding;
  fits = h.fits;
  parts = h.parts;
}

-- what can stand inside it
pub inside_of : (rule : Rule) (type : Shape) (tag : Tag) (room : ℕ) (octets more : List ℕ) (inside : Inside) → HasParts type → first_tags type ≡ tag ∷ [] → IsOpened rule tag room octets inside → HasPart rule type room (octets ++ more)
    → HasInside rule type inside.definite inside.room (drop inside.start octets ++ more)
inside_of rule type tag room octets more inside parts is o h =
    let only = o.only more (constructed_of rule type tag room (octets ++ more) parts is h) in
    record { value = h.value; whole = h.part; encoding = h.encoding; rest = h.rest; fills = only.0; parts = only.1 }

-- around what was read inside, an encoding of the type
pub constructed_read : (rule : Rule) (type : Shape) (tag : Tag) (room : ℕ) (octets : List ℕ) (inside : Inside) (value : Value) (used whole : ℕ) → first_tags type ≡ tag ∷ [] → IsOpened rule tag room octets inside
    → IsInsideRead rule type inside.definite inside.room (drop inside.start octets) value used → whole ≡ inside.start + used + length (mark inside.definite) → IsRead rule type room octets value whole
constructed_read rule type tag room octets inside value used whole own o read is =
    let k = closed rule tag room octets inside used o read.there read.within read.ends in
    let n = inside.start + used + length (mark inside.definite) in
    subst (λ m. IsRead rule type room octets value m) (sym is) (k.there, k.fits, read.makes tag (take n octets) own k.made)

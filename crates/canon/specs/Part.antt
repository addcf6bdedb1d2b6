-- Parts that were laid one after another in a buffer.
use Rattle.std.specs.Prelude.{◌≡◌, ◌≤◌, ◌+◌, ⊤, ℕ, List, [], ◌∷◌, ◌++◌, length, take, map, IsPermutation}
use Rattle.std.specs.List.{AllZip, concat}
use Rattle.octets.specs.declared.tag.Tag.{Tag}
use Rattle.octets.specs.Front.{Appends}
use Rattle.types.specs.Shape.{Val}
use Rattle.types.specs.Encoding.{Meaning}
use Rattle.types.specs.Order.{Ascends}
use Rattle.canon.specs.Span.{part_of, key_of, RisesByTag}
use Rattle.canon.specs.declared.spans.Span.{Span}
use Rattle.canon.specs.declared.spans.Keyed.{Keyed}

-- octets of some kind were appended, where the span says
pub record IsPut (IsOne : List ℕ → Type 0) (old new : List ℕ) (span : Span) : Type 0 where
  pub octets : List ℕ
  pub is : new ≡ old ++ octets
  pub holds : IsOne octets
  pub start : span.start ≡ length old
  pub end : span.end ≡ length new

-- the spans of parts that stand one after another from there on
abbrev pub Cuts : ℕ → List Span → List (List ℕ) → Type 0
Cuts from [] [] = ⊤
Cuts from [] (p ∷ ps) = ⊥
Cuts from (s ∷ ss) [] = ⊥
Cuts from (s ∷ ss) (p ∷ ps) = (s.start ≡ from) × (s.end ≡ from + length p) × Cuts (from + length p) ss ps

-- encodings of items stand in a buffer, each with its key
pub record AreLaid (IsItem : Meaning) (values : List Val) (parts : List (Keyed ℕ)) (old new : List ℕ) : Type 0 where
  pub encodings : List (List ℕ)
  pub each : AllZip IsItem values encodings
  pub cuts : Cuts (length old) (map (λ part. part.span) parts) encodings
  pub keys : map (λ part. part.key) parts ≡ map (key_of 16) encodings
  pub is : new ≡ old ++ concat encodings

-- what stood in a buffer still stands at its front
abbrev pub Keeps : List ℕ → List ℕ → Type 0
Keeps old new = Appends (λ _. ⊤) old new

-- the spans mean all that stands in a buffer from there on
pub record IsCutInto (from : ℕ) (spans : List Span) (buffer : List ℕ) : Type 0 where
  pub within : from ≤ length buffer
  pub whole : buffer ≡ take from buffer ++ concat (map (part_of buffer) spans)

-- the parts that they mean stand there in ascending order
pub record IsArranged (from : ℕ) (spans : List Span) (old new : List ℕ) : Type 0 where
  pub order : List Span
  pub permutes : IsPermutation spans order
  pub ascends : Ascends (map (part_of old) order)
  pub is : new ≡ take from old ++ concat (map (part_of old) order)

-- parts that were all that stood from an octet on stand there in the order of their tags
pub record IsArrangedByTag (from : ℕ) (parts : List (Keyed Tag)) (old new : List ℕ) : Type 0 where
  pub order : List (Keyed Tag)
  pub permutes : IsPermutation parts order
  pub rises : RisesByTag (map (λ part. part.key) order)
  pub is : new ≡ take from old ++ concat (map (part_of old) (map (λ part. part.span) order))

-- Lemmas on which encodings there are around contents octets, and on their size.
use Rattle.std.proofs.Common.{◌+◌, ◌<◌, ◌≤◌, inl, ℕ, Bool, true, List, [], ◌∷◌, ◌++◌, length, refl, arith, length-append}
use Rattle.octets.specs.declared.tag.Tag.{Tag}
use Rattle.octets.specs.Length.{IsShortestLength, IsLengthUnder}
use Rattle.octets.specs.Rule.{Rule, ber, cer, der}
use Rattle.octets.proofs.IdentifierOctetsLemmas.{identifier, IsIdentifier-size}
use Rattle.octets.proofs.ShortestLemmas.{IsLength-size}
use Rattle.types.specs.WellFormed.{IsTagWithin}
use Rattle.types.specs.Form.{IsDefinite, IsIndefinite, IsConstructed}

-- octets of some kind, at most so many more than the contents octets
pub record IsAround (IsWhole : List ℕ → Type 0) (contents : List ℕ) : Type 0 where
  pub octets : List ℕ
  pub whole : IsWhole octets
  pub size : length octets ≤ length contents + 132

-- each number below some room has a shortest length
abbrev pub HasLengthsBelow : ℕ → Type 0
HasLengthsBelow room = (n : ℕ) → n < room → (size : List ℕ) × IsShortestLength n size

pub shortest_under : (rule : Rule) (n : ℕ) (size : List ℕ) → IsShortestLength n size → IsLengthUnder rule n size
shortest_under ber n size h = h.form
shortest_under cer n size h = h
shortest_under der n size h = h

pub definite_around : (room : ℕ) → HasLengthsBelow room → (rule : Rule) (tag : Tag) (constructed : Bool) (contents : List ℕ) → IsTagWithin tag → length contents < room → IsAround (IsDefinite rule tag constructed contents) contents
definite_around room lengths rule tag constructed contents within fits =
    let front = identifier tag constructed within in
    let size = lengths (length contents) fits in
    let whole = front.0 ++ (size.0 ++ contents) in
    let few : length front.0 ≤ 5 = (IsIdentifier-size tag constructed front.0 within front.1).1 in
    let short : length size.0 ≤ 127 = (IsLength-size (length contents) size.0 size.1.form).1 in
    record {
      octets = whole;
      whole = record { identifier = front.0; size = size.0; tagged = front.1; sized = shortest_under rule (length contents) size.0 size.1; joined = refl };
      size = omega (arith, length-append front.0 (size.0 ++ contents), length-append size.0 contents);
    }

pub indefinite_around : (tag : Tag) (contents : List ℕ) → IsTagWithin tag → IsAround (IsIndefinite tag contents) contents
indefinite_around tag contents within =
    let front = identifier tag true within in
    let few : length front.0 ≤ 5 = (IsIdentifier-size tag true front.0 within front.1).1 in
    let end : List ℕ = 0 ∷ 0 ∷ [] in
    record {
      octets = front.0 ++ (128 ∷ (contents ++ end));
      whole = record { identifier = front.0; tagged = front.1; joined = refl };
      size = omega (arith, length-append front.0 (128 ∷ (contents ++ end)), length-append contents end);
    }

pub constructed_around : (room : ℕ) → HasLengthsBelow room → (rule : Rule) (tag : Tag) (contents : List ℕ) → IsTagWithin tag → length contents < room → IsAround (IsConstructed rule tag contents) contents
constructed_around room lengths ber tag contents within fits =
    let around = definite_around room lengths ber tag true contents within fits in
    record { octets = around.octets; whole = inl around.whole; size = around.size }
constructed_around room lengths cer tag contents within fits = indefinite_around tag contents within
constructed_around room lengths der tag contents within fits = definite_around room lengths der tag true contents within fits

-- Lemmas on primitive encodings that two octets stand before.
use Rattle.std.proofs.Common.{◌≡◌, ℕ, ◌+◌, ◌-◌, Option, Some, None, IfSome, List, [], ◌∷◌, false, take, drop, get_or, sym, ap, ◌∙◌, subst, arith}
use Rattle.std.specs.Prelude.{slice_range}
use Rattle.std.proofs.Math.Seq.{take-suc, drop-cons}
use Rattle.octets.specs.declared.tag.Tag.{Tag}
use Rattle.octets.specs.Identifier.{IsIdentifier}
use Rattle.octets.specs.Length.{IsLength, IsShortestLength}
use Rattle.octets.specs.Rule.{ber}
use Rattle.octets.proofs.LengthLemmas.{IsShortestLength-short}
use Rattle.types.specs.Form.{IsPrimitive}
use Rattle.encoding_parts.specs.declared.frame.Frame.{Frame}
use Rattle.encoding_parts.specs.declared.joined.SegmentKind.{SegmentKind}
use Rattle.encoding_parts.specs.declared.segments.Segments.{Segments}
use Rattle.encoding_parts.specs.Joined.{segment_of}
use Rattle.encoding_parts.specs.Segments.{IsShortSegment}
use Rattle.encoding_parts.specs.Head.{IsPrimitiveAt, IsReadTag, IsShortPrimitive}
use Rattle.encoding_parts.proofs.HeadLemmas.{IsPrimitive-from_parts}

first_octet : (tag : Tag) (room count : ℕ) (octets : List ℕ) → IsShortPrimitive tag room octets count → IsIdentifier tag false (take 1 octets)
first_octet tag room count octets h = subst (IsIdentifier tag false) (sym (take-suc octets 0 0 (omega (arith, h.there, h.counted)))) h.tagged

second_octet : (tag : Tag) (room count : ℕ) (octets : List ℕ) → (h : IsShortPrimitive tag room octets count) → IsLength h.contents (take 1 (drop 1 octets))
second_octet tag room count octets h =
    let second : take 1 (drop 1 octets) ≡ get_or octets 1 0 ∷ [] = ap (take 1) (drop-cons octets 1 0 (omega (arith, h.there, h.counted))) in
    let spelt : IsShortestLength h.contents (take 1 (drop 1 octets)) = subst (IsShortestLength h.contents) (ap (λ octet. octet ∷ []) h.sized ∙ sym second) (IsShortestLength-short h.contents h.low) in
    spelt.form

-- its identifier octet was read
pub short_tag : (tag : Tag) (end taken room count : ℕ) (octets : List ℕ) → room ≡ end - taken → IsShortPrimitive tag room octets count → IsReadTag tag end taken octets false 1
short_tag tag end taken room count octets same h = record {
  there = omega (arith, h.there, h.counted);
  fits = omega (arith, same, h.fits, h.counted);
  tagged = first_octet tag room count octets h;
}

-- and it stands there
pub short_at : (tag : Tag) (end taken room count : ℕ) (octets : List ℕ) → room ≡ end - taken → IsShortPrimitive tag room octets count → IsPrimitiveAt tag end taken octets (slice_range octets 2 count) count
short_at tag end taken room count octets same h =
    let all : IsPrimitive ber tag (slice_range octets (1 + 1) (1 + 1 + h.contents)) (take (1 + 1 + h.contents) octets) =
    IsPrimitive-from_parts tag 1 1 h.contents octets (first_octet tag room count octets h) (second_octet tag room count octets h) (omega (arith, h.there, h.counted)) in
    let is : 1 + 1 + h.contents ≡ count = omega (arith, h.counted) in
    record {
      there = h.there;
      fits = omega (arith, same, h.fits, h.counted);
      primitive = subst (λ n. IsPrimitive ber tag (slice_range octets 2 n) (take n octets)) is all;
    }

-- a segment that was found stands there, where no bits are unused
pub short_segment : (kind : SegmentKind) (s : Segments) (f : Frame) (tag : Tag) (room : ℕ) (octets : List ℕ) (found : Option ℕ) → tag ≡ segment_of kind → room ≡ f.end - s.taken → s.joined.unused ≡ 0 → IfSome found (IsShortPrimitive tag room octets) → IfSome found (IsShortSegment kind s f octets)
short_segment kind s f tag room octets None is same whole h = tt
short_segment kind s f tag room octets (Some used) is same whole h = record {
  some = omega (arith, h.counted);
  whole = whole;
  tagged = subst (λ t. IsReadTag t f.end s.taken octets false 1) is (short_tag tag f.end s.taken room used octets same h);
  place = subst (λ t. IsPrimitiveAt t f.end s.taken octets (slice_range octets 2 used) used) is (short_at tag f.end s.taken room used octets same h);
}

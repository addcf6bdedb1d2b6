-- Lemmas on the segments of strings that CER cuts.
use Rattle.std.proofs.Common.{◌≡◌, ◌≢◌, ◌↔◌, ◌⊎◌, inl, inr, ℕ, ◌+◌, ◌-◌, ◌≤◌, List, [], ◌∷◌, ◌++◌, Bool, true, false, length, take, drop, refl, sym, ◌∙◌, ap, subst, arith, slice_range, append_assoc, append-nil, length-append, length-drop}
use Rattle.std.proofs.Math.Seq.{take-add}
use Rattle.std.proofs.lemmas.List.{length-take-le, drop-drop}
use Rattle.octets.specs.Rule.{cer}
use Rattle.primitives.proofs.BitsLemmas.{one_bits_value}
use Rattle.types.specs.Form.{IsPrimitive}
use Rattle.types.specs.Strings.{segment_octets, AreCerSegments}
use Rattle.types.proofs.BitsExistenceLemmas.{bits_contents}
use Rattle.types.proofs.CanonicalLemmas.{primitive_by_ber, primitive_by_cer, primitive_by_der}
use Rattle.types.proofs.CerLemmas.{bits_count}
use Rattle.types.proofs.NestingLemmas.{IsAboveZero, definite_above, not_end}
use Rattle.encoding_parts.specs.declared.joined.SegmentKind.{SegmentKind}
use Rattle.encoding_parts.specs.declared.joined.SegmentKind.TheVariants.{Bits, Octets}
use Rattle.encoding_parts.specs.Joined.{Element, segment_of, IsWholePiece}
use Rattle.encoding_parts.specs.Segments.{BeginsAboveZero}
use Rattle.encoding_parts.proofs.JoinedLemmas.{kept_segment}
use Rattle.strict.specs.Head.{HasDefinite, EndsHere}
use Rattle.strict.specs.Leaf.{HoldsSegment, IsPlace}
use Rattle.strict.specs.Segments.{AreSegmentsOf, CanFollow, HasSegments, GoOn, AreSegmentsRead, IsSegmentRead}

-- a segment holds one piece
one_held : (kind : SegmentKind) (p q : List (Element kind)) (contents : List ℕ) → HoldsSegment kind p contents → HoldsSegment kind q contents → p ≡ q
one_held Bits p q contents h k = one_bits_value cer cer p q contents h k
one_held Octets p q contents h k = sym h ∙ k

full_some : (kind : SegmentKind) (piece : List (Element kind)) (contents : List ℕ) → HoldsSegment kind piece contents → length contents ≡ segment_octets → piece ≢ []
full_some Bits piece contents h full = λ none. absurd (omega (arith, bits_count cer piece contents h, h.at_most_7, full, ap length none))
full_some Octets piece contents h full = λ none. absurd (omega (arith, ap length h, full, ap length none))

-- of no bit or octet there is a segment, but one that is too short
pub nothing_held : (kind : SegmentKind) → (contents : List ℕ) × HoldsSegment kind [] contents × (length contents ≤ 1)
nothing_held Bits = let c = bits_contents cer [] in (c.0, c.1, omega (arith, bits_count cer [] c.0 c.1, c.1.at_most_7))
nothing_held Octets = ([], refl, omega arith)

-- some segments by the first one
record AreFirst (kind : SegmentKind) (total : List (Element kind)) (segments : List ℕ) : Type 0 where
  pub piece : List (Element kind)
  pub others : List (Element kind)
  pub contents : List ℕ
  pub part : List ℕ
  pub later : List ℕ
  pub holds : HoldsSegment kind piece contents
  pub some : piece ≢ []
  pub short : length contents ≤ segment_octets
  pub primitive : IsPrimitive cer (segment_of kind) contents part
  pub follow : ((others ≡ []) × (later ≡ [])) ⊎ (((length contents ≡ segment_octets) × IsWholePiece kind piece) × AreSegmentsOf kind others later)
  pub total_is : total ≡ piece ++ others
  pub segments_are : segments ≡ part ++ later

first_of : (kind : SegmentKind) (total : List (Element kind)) (segments : List ℕ) → AreSegmentsOf kind total segments → AreFirst kind total segments
first_of kind total segments (AreCerSegments.last piece contents segment holds some short p) = record {
  piece = piece;
  others = [];
  contents = contents;
  part = segment;
  later = [];
  holds = holds;
  some = some;
  short = short;
  primitive = p;
  follow = inl (refl, refl);
  total_is = sym (append-nil piece);
  segments_are = sym (append-nil segment);
}
first_of kind total segments (AreCerSegments.more {others = others} {rest = rest} piece contents segment holds whole full p behind) = record {
  piece = piece;
  others = others;
  contents = contents;
  part = segment;
  later = rest;
  holds = holds;
  some = full_some kind piece contents holds full;
  short = omega arith;
  primitive = p;
  follow = inr ((full, whole), behind);
  total_is = refl;
  segments_are = refl;
}

-- segments begin above zero
segments_above : (kind : SegmentKind) (total : List (Element kind)) (segments : List ℕ) → AreSegmentsOf kind total segments → IsAboveZero segments
segments_above kind total segments h =
    let f = first_of kind total segments h in
    let above = definite_above (segment_of kind) false f.contents f.part (kept_segment kind) (primitive_by_ber cer (segment_of kind) f.contents f.part f.primitive) in
    record { first = above.first; others = above.others ++ f.later; above = above.above; is = f.segments_are ∙ ap (λ x. x ++ f.later) above.is }

-- so none stand at the end
pub none_at_end : (kind : SegmentKind) (full : Bool) (room : ℕ) (total : List (Element kind)) (octets rest : List ℕ) → octets ≡ 0 ∷ 0 ∷ rest → HasSegments kind full room total octets → total ≡ []
none_at_end kind full room total octets rest ends h = elim h.follow [
  | inl none ↦ none.0
  | inr some ↦ absurd (not_end h.segments (0 ∷ 0 ∷ h.rest) (0 ∷ 0 ∷ rest) (segments_above kind total h.segments some.1) refl (sym ends ∙ h.parts))
]

-- what stands at the front where the end does not
pub record HasFirst (kind : SegmentKind) (room : ℕ) (total : List (Element kind)) (octets : List ℕ) : Type 0 where
  pub piece : List (Element kind)
  pub others : List (Element kind)
  pub contents : List ℕ
  pub part : List ℕ
  pub later : List ℕ
  pub rest : List ℕ
  pub holds : HoldsSegment kind piece contents
  pub some : piece ≢ []
  pub short : length contents ≤ segment_octets
  pub primitive : IsPrimitive cer (segment_of kind) contents part
  pub follow : ((others ≡ []) × (later ≡ [])) ⊎ (((length contents ≡ segment_octets) × IsWholePiece kind piece) × AreSegmentsOf kind others later)
  pub total_is : total ≡ piece ++ others
  pub fits : length part + length later ≤ room
  pub parts : octets ≡ part ++ (later ++ (0 ∷ 0 ∷ rest))

pub first_segment : (kind : SegmentKind) (full : Bool) (room : ℕ) (total : List (Element kind)) (octets : List ℕ) → (EndsHere false room octets → ⊥) → HasSegments kind full room total octets → (full ≡ true) × HasFirst kind room total octets
first_segment kind full room total octets no_end h = elim h.follow [
  | inl none ↦ absurd (no_end (h.rest, h.parts ∙ ap (λ x. x ++ (0 ∷ 0 ∷ h.rest)) none.1))
  | inr some ↦
      let f = first_of kind total h.segments some.1 in (
        some.0,
        record {
          piece = f.piece;
          others = f.others;
          contents = f.contents;
          part = f.part;
          later = f.later;
          rest = h.rest;
          holds = f.holds;
          some = f.some;
          short = f.short;
          primitive = f.primitive;
          follow = f.follow;
          total_is = f.total_is;
          fits = omega (arith, h.fits, ap length f.segments_are, length-append f.part f.later);
          parts = h.parts ∙ (ap (λ x. x ++ (0 ∷ 0 ∷ h.rest)) f.segments_are ∙ append_assoc f.part f.later (0 ∷ 0 ∷ h.rest));
        },
      )
]

-- it is a primitive encoding
abbrev pub definite_of_first : (kind : SegmentKind) (room : ℕ) (total : List (Element kind)) (octets : List ℕ) → HasFirst kind room total octets → HasDefinite (segment_of kind) false room octets
definite_of_first kind room total octets f =
    record { contents = f.contents; part = f.part; rest = f.later ++ (0 ∷ 0 ∷ f.rest); whole = primitive_by_der (segment_of kind) f.contents f.part f.primitive; fits = omega (arith, f.fits); parts = f.parts }

-- behind the segment that was read go on those that stand behind the first
goes_on : (kind : SegmentKind) (room start stop : ℕ) (octets : List ℕ) (piece : List (Element kind)) (full : Bool) → ((more : List ℕ) → EndsHere false room (octets ++ more) → ⊥) → IsPlace (segment_of kind) room octets start stop → HoldsSegment kind piece (slice_range octets start stop)
    → ((length (slice_range octets start stop) ≡ segment_octets) × IsWholePiece kind piece → full ≡ true) → GoOn kind true room octets piece full stop
goes_on kind room start stop octets piece full no_end place holds exact = λ more total h.
    let f = (first_segment kind true room total (octets ++ more) (no_end more) h).1 in
    let only = place.only more (definite_of_first kind room total (octets ++ more) f) in
    let same : f.piece ≡ piece = one_held kind f.piece piece (slice_range octets start stop) (subst (HoldsSegment kind f.piece) only.0 f.holds) holds in
    let whole = ap length f.parts in
    let left = ap length only.1 in
    let size : length f.part ≡ stop = omega (arith, place.there, whole, left, length-append octets more, length-append f.part (f.later ++ (0 ∷ 0 ∷ f.rest)), length-append (drop stop octets) more, length-drop stop octets) in
    let follow : CanFollow kind full f.others f.later = elim f.follow [
      | inl none ↦ inl none
      | inr some ↦ inr (exact (ap length (sym only.0) ∙ some.0.0, subst (IsWholePiece kind) same some.0.1), some.1)
    ] in
    (f.others, f.total_is ∙ ap (λ p. p ++ f.others) same, record { segments = f.later; rest = f.rest; follow = follow; fits = omega (arith, f.fits, size); parts = only.1 })

-- a segment that was read
pub segment_read : (kind : SegmentKind) (room start stop : ℕ) (octets : List ℕ) (piece : List (Element kind)) (full : Bool) → ((more : List ℕ) → EndsHere false room (octets ++ more) → ⊥) → IsPlace (segment_of kind) room octets start stop → stop ≤ start + 1000
    → HoldsSegment kind piece (slice_range octets start stop) → piece ≢ [] → (full ≡ true) ↔ ((stop - start ≡ 1000) × IsWholePiece kind piece) → IsSegmentRead kind room octets piece full stop
segment_read kind room start stop octets piece full no_end place short holds some exact =
    let contents = slice_range octets start stop in
    let count : length contents ≡ stop - start = length-take-le (stop - start) (drop start octets) (omega (arith, place.there, length-drop start octets)) in
    record {
      contents = contents;
      there = place.there;
      within = place.fits;
      holds = holds;
      some = some;
      short = omega (arith, count, short);
      primitive = primitive_by_cer (segment_of kind) contents (take stop octets) place.primitive;
      exact = (λ on. (count ∙ (exact.0 on).0, (exact.0 on).1), λ h. exact.1 (sym count ∙ h.0, h.1));
      forth = goes_on kind room start stop octets piece full no_end place holds (λ h. exact.1 (sym count ∙ h.0, h.1));
    }

-- no segment
pub none_read : (kind : SegmentKind) (room : ℕ) (octets : List ℕ) → AreSegmentsRead kind room octets [] true 0
none_read kind room octets = record {
  there = omega arith;
  within = omega arith;
  back = λ others later h. h;
  forth = λ more total h. (total, refl, subst (λ n. HasSegments kind true n total (octets ++ more)) (omega arith) h);
}

-- the segment and those behind it
behind_it : (kind : SegmentKind) (room : ℕ) (octets : List ℕ) (piece : List (Element kind)) (full : Bool) (used : ℕ) → IsSegmentRead kind room octets piece full used → (others : List (Element kind)) (later : List ℕ) → CanFollow kind full others later
    → AreSegmentsOf kind (piece ++ others) (take used octets ++ later)
behind_it kind room octets piece full used h others later (inl none) =
    let segment = take used octets in
    let one : AreSegmentsOf kind piece segment = AreCerSegments.last piece h.contents segment h.holds h.some h.short h.primitive in
    subst (λ p. AreSegmentsOf kind p (segment ++ later)) (sym (append-nil piece) ∙ ap (λ o. piece ++ o) (sym none.0))
    (subst (AreSegmentsOf kind piece) (sym (append-nil segment) ∙ ap (λ l. segment ++ l) (sym none.1)) one)
behind_it kind room octets piece full used h others later (inr some) =
    let exact = h.exact.0 some.0 in
    AreCerSegments.more piece h.contents (take used octets) h.holds exact.1 exact.0 h.primitive some.1

-- one more segment
pub more_read : (kind : SegmentKind) (room at used : ℕ) (octets : List ℕ) (string piece : List (Element kind)) (full : Bool) → AreSegmentsRead kind room octets string true at → IsSegmentRead kind (room - at) (drop at octets) piece full used → AreSegmentsRead kind room octets (string ++ piece) full (at + used)
more_read kind room at used octets string piece full read one = record {
  there = omega (arith, read.there, one.there, length-drop at octets);
  within = omega (arith, read.within, one.within);
  back = λ others later follow.
      let behind = behind_it kind (room - at) (drop at octets) piece full used one others later follow in
      let whole = read.back (piece ++ others) (take used (drop at octets) ++ later) (inr (refl, behind)) in
      let octets_are : take at octets ++ (take used (drop at octets) ++ later) ≡ take (at + used) octets ++ later = sym (append_assoc (take at octets) (take used (drop at octets)) later) ∙ ap (λ x. x ++ later) (sym (take-add at used octets)) in
      subst (λ s. CanFollow kind true s (take (at + used) octets ++ later)) (sym (append_assoc string piece others)) (subst (CanFollow kind true (string ++ (piece ++ others))) octets_are whole);
  forth = λ more total h.
      let a = read.forth more total h in
      let b = one.forth more a.0 a.2 in
      let room_is : room - at - used ≡ room - (at + used) = omega arith in
      let rest : drop used (drop at octets) ++ more ≡ drop (at + used) octets ++ more = ap (λ x. x ++ more) (drop-drop used at octets) in
      (b.0, a.1 ∙ (ap (λ o. string ++ o) b.1 ∙ sym (append_assoc string piece b.0)), subst (λ n. HasSegments kind full n b.0 (drop (at + used) octets ++ more)) room_is (subst (HasSegments kind full (room - at - used) b.0) rest b.2));
}

-- what stands at the place of the first segment
pub record StandsAt (kind : SegmentKind) (contents : List ℕ) : Type 0 where
  pub piece : List (Element kind)
  pub holds : HoldsSegment kind piece contents
  pub some : piece ≢ []

pub stands_at : (kind : SegmentKind) (full : Bool) (room start stop : ℕ) (octets more : List ℕ) (total : List (Element kind)) → ((more : List ℕ) → EndsHere false room (octets ++ more) → ⊥) → IsPlace (segment_of kind) room octets start stop → HasSegments kind full room total (octets ++ more)
    → StandsAt kind (slice_range octets start stop)
stands_at kind full room start stop octets more total no_end place h =
    let f = (first_segment kind full room total (octets ++ more) (no_end more) h).1 in
    let only = place.only more (definite_of_first kind room total (octets ++ more) f) in
    record { piece = f.piece; holds = subst (HoldsSegment kind f.piece) only.0 f.holds; some = f.some }

-- a segment has octets
pub some_octets : (kind : SegmentKind) (room : ℕ) (octets : List ℕ) (piece : List (Element kind)) (full : Bool) (used : ℕ) → IsSegmentRead kind room octets piece full used → 1 ≤ used
some_octets kind room octets piece full used h =
    let above = definite_above (segment_of kind) false h.contents (take used octets) (kept_segment kind) (primitive_by_ber cer (segment_of kind) h.contents (take used octets) h.primitive) in
    omega (arith, ap length above.is, length-take-le used octets h.there)

-- the end stands at the front, or an octet above zero
pub segments_or_end : (kind : SegmentKind) (full : Bool) (room : ℕ) (total : List (Element kind)) (octets : List ℕ) → HasSegments kind full room total octets → EndsHere false room octets ⊎ BeginsAboveZero octets
segments_or_end kind full room total octets h = elim h.follow [
  | inl none ↦ inl (h.rest, h.parts ∙ ap (λ x. x ++ (0 ∷ 0 ∷ h.rest)) none.1)
  | inr some ↦
      let above = segments_above kind total h.segments some.1 in
      inr (above.first, above.others ++ (0 ∷ 0 ∷ h.rest), above.above, h.parts ∙ ap (λ x. x ++ (0 ∷ 0 ∷ h.rest)) above.is)
]

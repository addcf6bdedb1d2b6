-- Lemmas on strings that CER cuts.
use Rattle.std.proofs.Common.{◌≡◌, inl, inr, ℕ, ◌+◌, ◌-◌, ◌<◌, List, [], ◌∷◌, ◌++◌, true, false, length, take, drop, refl, sym, ◌∙◌, ap, subst, arith, append-nil}
use Rattle.octets.specs.Rule.{cer}
use Rattle.types.specs.declared.value.Value.{Value}
use Rattle.types.specs.Conforms.{Conforms}
use Rattle.types.specs.Leaf.{tag_of}
use Rattle.types.specs.Shape.{Shape}
use Rattle.types.specs.View.{value_view}
use Rattle.encoding_parts.specs.declared.joined.SegmentKind.{SegmentKind}
use Rattle.encoding_parts.specs.declared.joined.Joined.{Joined}
use Rattle.encoding_parts.specs.Joined.{Element, IsStringOf, string_of}
use Rattle.strict.specs.declared.head.Inside.{Inside}
use Rattle.strict.specs.Head.{IsOpened, mark, EndsHere}
use Rattle.strict.specs.Leaf.{HasCut, HoldsSegment, value_is}
use Rattle.strict.specs.Reading.{IsRead}
use Rattle.strict.specs.Segments.{AreSegmentsOf, CanFollow, HasSegments, AreSegmentsKnown, IsLong}
use Rattle.strict.proofs.InsideLemmas.{closed}
use Rattle.strict.proofs.LeafLemmas.{constructed_of_cut, cut_encodes}
use Rattle.strict.proofs.SegmentLemmas.{nothing_held, none_at_end}

-- what can stand inside
pub segments_inside : (kind : SegmentKind) (type : Shape) (room : ℕ) (octets more : List ℕ) (inside : Inside) → IsOpened cer (tag_of type) room octets inside → inside.definite ≡ false → (h : HasCut kind type room (octets ++ more))
    → HasSegments kind true inside.room h.encoding.string (drop inside.start octets ++ more)
segments_inside kind type room octets more inside o form h =
    let segments = h.encoding.cut.segments_octets in
    let only = o.only more (constructed_of_cut kind type room (octets ++ more) h) in
    record { segments = segments; rest = h.rest; follow = inr (refl, h.encoding.cut.segments); fits = only.0.within; parts = only.1 ∙ ap (λ d. segments ++ (mark d ++ h.rest)) form }

-- the string that was read is the one that can stand there
pub string_is : (kind : SegmentKind) (type : Shape) (room : ℕ) (octets more : List ℕ) (inside : Inside) (string : List (Element kind)) (used : ℕ) → IsOpened cer (tag_of type) room octets inside → inside.definite ≡ false → AreSegmentsKnown kind inside.room (drop inside.start octets) string used
    → (h : HasCut kind type room (octets ++ more)) → h.encoding.string ≡ string
string_is kind type room octets more inside string used o form known h =
    let inner = drop inside.start octets in
    let g = known.read.forth more h.encoding.string (segments_inside kind type room octets more inside o form h) in
    let ends : drop used inner ++ more ≡ 0 ∷ 0 ∷ (known.ends.0 ++ more) = ap (λ x. x ++ more) known.ends.1 in
    let none : g.0 ≡ [] = none_at_end kind known.full (inside.room - used) g.0 (drop used inner ++ more) (known.ends.0 ++ more) ends g.2 in
    g.1 ∙ (ap (λ o. string ++ o) none ∙ append-nil string)

-- all segments
segments_of : (kind : SegmentKind) (string : List (Element kind)) (octets : List ℕ) → ((contents : List ℕ) → HoldsSegment kind string contents → 1000 < length contents) → CanFollow kind true string octets → AreSegmentsOf kind string octets
segments_of kind string octets long (inl none) =
    let c = nothing_held kind in
    absurd (omega (arith, long c.0 (subst (λ s. HoldsSegment kind s c.0) (sym none.0) c.1), c.2))
segments_of kind string octets long (inr some) = some.1

-- a string that is cut was read
pub cut_read : (kind : SegmentKind) (type : Shape) (room : ℕ) (octets : List ℕ) (inside : Inside) (joined : Joined) (value : Value) (used whole : ℕ) → IsStringOf kind type → IsOpened cer (tag_of type) room octets inside → inside.definite ≡ false
    → AreSegmentsKnown kind inside.room (drop inside.start octets) (string_of kind joined) used → IsLong kind joined → value_view value ≡ value_is type kind (string_of kind joined) → Conforms type (value_view value) → whole ≡ inside.start + used + length (mark inside.definite)
    → IsRead cer type room octets value whole
cut_read kind type room octets inside joined value used whole of o form known long is conforms size =
    let inner = drop inside.start octets in
    let string = string_of kind joined in
    let k = closed cer (tag_of type) room octets inside used o known.read.there known.read.within (subst (λ d. EndsHere d (inside.room - used) (drop used inner)) (sym form) known.ends) in
    let all = known.read.back [] [] (inl (refl, refl)) in
    let follow : CanFollow kind true string (take used inner) = subst (λ s. CanFollow kind true s (take used inner)) (append-nil string) (subst (CanFollow kind true (string ++ [])) (append-nil (take used inner)) all) in
    let n = inside.start + used + length (mark inside.definite) in
    let encodes = cut_encodes kind type (value_view value) (take n octets) of record {
      string = string;
      is = is;
      conforms = conforms;
      cut = record { long = long; segments_octets = take used inner; segments = segments_of kind string (take used inner) long follow; constructed = k.made };
    } in
    subst (IsRead cer type room octets value) (sym size) (k.there, k.fits, encodes)

-- Lemmas on octets that end inside a part of an encoding.
use Rattle.std.proofs.Common.{◌≡◌, ◌⊎◌, inl, inr, ℕ, ◌+◌, ◌-◌, ◌<◌, ◌≤◌, List, ◌++◌, Bool, true, false, length, take, drop, sym, ◌∙◌, ap, subst, arith, All, length-append}
use Rattle.std.proofs.lemmas.Bool.{cases_lt}
use Rattle.std.proofs.lemmas.List.{length-take-le, length-drop, take_all, take_rest}
use Rattle.std.proofs.lemmas.List.Elements.{All-head}
use Rattle.std.proofs.Math.Seq.{take-append-add}
use Rattle.octets.specs.declared.TheConstants.{MAX_ENCODING}
use Rattle.octets.specs.declared.tag.Tag.{Tag}
use Rattle.octets.specs.Front.{HasFront, Begins}
use Rattle.octets.specs.Identifier.{IsSomeIdentifier}
use Rattle.octets.specs.Length.{IsLength, IsSomeLength}
use Rattle.octets.proofs.FrontLemmas.{whole_front}
use Rattle.types.specs.Leaf.{IsLeaf}
use Rattle.types.specs.Shape.{Shape}
use Rattle.encoding_parts.specs.declared.frame.Frame.{Frame}
use Rattle.encoding_parts.specs.declared.joined.SegmentKind.{SegmentKind}
use Rattle.encoding_parts.specs.declared.joined.SegmentKind.TheVariants.{Bits, Octets}
use Rattle.encoding_parts.specs.declared.segments.Segments.{Segments}
use Rattle.encoding_parts.specs.Cut.{AreContentsCut, IsCutBehind, IsCutInside, IsEndCut, IsIdentifierCut, IsLengthCut, IsPartCut, IsPrimitiveCut, IsStringCut}
use Rattle.encoding_parts.specs.Head.{IsReadTag, IsReadDefinite}
use Rattle.encoding_parts.specs.Joined.{IsString, segment_of, string_shape}
use Rattle.encoding_parts.specs.Lengths.{CanHaveLength}
use Rattle.encoding_parts.specs.Segments.{IsSound, IsTop, IsWithin, stack}
use Rattle.encoding_parts.proofs.JoinedLemmas.{whole_held}

-- fewer octets than there is room for are all of them
window_all : (room : ℕ) (octets : List ℕ) → length (take room octets) < room → take room octets ≡ octets
window_all room octets below =
    elim (cases_lt (length octets) room) [
      | inl short ↦ take_all room octets (omega (arith, short))
      | inr long ↦ absurd (omega (arith, length-take-le room octets long, below))
    ]

pub identifier_cut : (end taken room : ℕ) (window octets : List ℕ) → window ≡ take room octets → room ≡ end - taken → length window < room → (HasFront IsSomeIdentifier window → ⊥) → Begins IsSomeIdentifier window → IsIdentifierCut end taken octets
identifier_cut end taken room window octets is room_is below none begins =
    let few : length (take room octets) < room = subst (λ o. length o < room) is below in
    let all : window ≡ octets = is ∙ window_all room octets few in
    record {
      begins = subst (Begins IsSomeIdentifier) all begins;
      none = subst (λ o. HasFront IsSomeIdentifier o → ⊥) all none;
      fits = omega (arith, ap length all, below, room_is);
    }

pub length_cut : (end taken room : ℕ) (window octets : List ℕ) → window ≡ take room octets → room ≡ end - taken → length window < room → (HasFront IsSomeLength window → ⊥) → Begins IsSomeLength window → IsLengthCut end taken octets
length_cut end taken room window octets is room_is below none begins =
    let few : length (take room octets) < room = subst (λ o. length o < room) is below in
    let all : window ≡ octets = is ∙ window_all room octets few in
    record {
      begins = subst (Begins IsSomeLength) all begins;
      none = subst (λ o. HasFront IsSomeLength o → ⊥) all none;
      fits = omega (arith, ap length all, below, room_is);
    }

-- fewer contents octets than the length octets say that were read
pub contents_cut : (end taken n used : ℕ) (octets : List ℕ) → IsReadDefinite end taken octets n used → length octets < used + n → AreContentsCut n end taken octets
contents_cut end taken n used octets read few =
    let size : length (take used octets) ≡ used = length-take-le used octets read.there in
    record {
      size = take used octets;
      some = drop used octets;
      sized = read.sized;
      joined = whole_front used octets;
      fewer = omega (arith, length-drop used octets, few, read.there);
      fits = omega (arith, size, read.fits);
    }

-- what is cut behind the identifier octets of a primitive encoding without parts
pub primitive_cut : (tag : Tag) (node : Shape) (levels end taken i : ℕ) (octets : List ℕ) → end ≤ MAX_ENCODING → IsLeaf node → IsReadTag tag end taken octets false i
    → ((size rest : List ℕ) (contents : ℕ) → 1 ≤ contents → contents ≤ MAX_ENCODING → IsLength contents size → length size + contents ≤ end - (taken + i) → drop i octets ≡ size ++ rest → CanHaveLength node contents)
    → IsLengthCut end (taken + i) (drop i octets) ⊎ ((n : ℕ) × AreContentsCut n end (taken + i) (drop i octets)) → IsPartCut tag node levels end taken octets
primitive_cut tag node levels end taken i octets within leaf read can cut =
    let size : length (take i octets) ≡ i = length-take-le i octets read.there in
    let place : taken + i ≡ taken + length (take i octets) = ap (λ n. taken + n) (sym size) in
    record {
      constructed = false;
      form = leaf;
      identifier = take i octets;
      rest = drop i octets;
      tagged = read.tagged;
      joined = whole_front i octets;
      behind = elim cut [
        | inl head ↦ inl (subst (λ n. IsLengthCut end n (drop i octets)) place head)
        | inr (n, some) ↦
            let fewer : IsPrimitiveCut node end (taken + i) (drop i octets) =
            record { contents = n; can = can some.size some.some n (omega (arith, some.fewer)) (omega (arith, some.fits, within)) some.sized (omega (arith, some.fits)) some.joined; cut = some } in
            inr (subst (λ m. IsPrimitiveCut node end m (drop i octets)) place fewer)
      ];
    }

-- or of a constructed one
pub constructed_cut : (tag : Tag) (node : Shape) (levels end taken i : ℕ) (octets : List ℕ) → 1 ≤ levels → (IsLeaf node → IsString node) → IsReadTag tag end taken octets true i → IsLengthCut end (taken + i) (drop i octets) → IsPartCut tag node levels end taken octets
constructed_cut tag node levels end taken i octets some string read cut =
    let size : length (take i octets) ≡ i = length-take-le i octets read.there in
    let place : taken + i ≡ taken + length (take i octets) = ap (λ n. taken + n) (sym size) in
    record {
      constructed = true;
      form = (some, string);
      identifier = take i octets;
      rest = drop i octets;
      tagged = read.tagged;
      joined = whole_front i octets;
      behind = subst (λ n. IsLengthCut end n (drop i octets)) place cut;
    }

-- the length octets at the front of as many octets as fit
pub sized_window : (room i : ℕ) (octets size rest : List ℕ) → length size ≤ room → drop i octets ≡ size ++ rest → take room (take (length octets - i) (drop i octets)) ≡ size ++ take (room - length size) rest
sized_window room i octets size rest fits joined =
    let count : room ≡ length size + (room - length size) = omega (arith, fits) in
    ap (take room) (take_rest octets i ∙ joined) ∙ ap (λ n. take n (size ++ rest)) count ∙ take-append-add size rest (room - length size)

-- a segment is an encoding of a string
segment_leaf : (tag : Tag) (kind : SegmentKind) → IsLeaf (string_shape tag kind)
segment_leaf tag Bits = tt
segment_leaf tag Octets = tt

segment_string : (tag : Tag) (kind : SegmentKind) → IsString (string_shape tag kind)
segment_string tag Bits = tt
segment_string tag Octets = tt

segment_length : (tag : Tag) (kind : SegmentKind) (n : ℕ) → 1 ≤ n → CanHaveLength (string_shape tag kind) n
segment_length tag Bits n some = some
segment_length tag Octets n some = tt

end_within : (frame : Frame) (frames : List Frame) → IsTop frame frames → All IsWithin (stack frames) → frame.end ≤ MAX_ENCODING
end_within frame frames top all =
    let first : IsWithin frame = All-head IsWithin frame top.0 (subst (All IsWithin) top.1 all) in
    first.end

pub segment_primitive : (kind : SegmentKind) (s : Segments) (frame : Frame) (i : ℕ) (octets : List ℕ) → IsTop frame s.frames.items → IsSound kind s → s.joined.unused ≡ 0 → IsReadTag (segment_of kind) frame.end s.taken octets false i
    → IsLengthCut frame.end (s.taken + i) (drop i octets) ⊎ ((n : ℕ) × AreContentsCut n frame.end (s.taken + i) (drop i octets)) → IsCutInside kind s frame octets
segment_primitive kind s frame i octets top sound whole read cut =
    let tag = segment_of kind in
    inr (inl (record {
      whole = whole_held kind s.joined.octets.items s.joined.unused whole;
      cut = primitive_cut tag (string_shape tag kind) (s.levels - length s.frames.items) frame.end s.taken i octets (end_within frame s.frames.items top sound.within) (segment_leaf tag kind) read
          (λ size rest n some within sized fits joined. segment_length tag kind n some) cut;
    }))

pub segment_constructed : (kind : SegmentKind) (s : Segments) (frame : Frame) (i : ℕ) (octets : List ℕ) → s.joined.unused ≡ 0 → length s.frames.items < s.levels → IsReadTag (segment_of kind) frame.end s.taken octets true i
    → IsLengthCut frame.end (s.taken + i) (drop i octets) → IsCutInside kind s frame octets
segment_constructed kind s frame i octets whole few read cut =
    let tag = segment_of kind in
    inr (inl (record {
      whole = whole_held kind s.joined.octets.items s.joined.unused whole;
      cut = constructed_cut tag (string_shape tag kind) (s.levels - length s.frames.items) frame.end s.taken i octets (omega (arith, few)) (λ leaf. segment_string tag kind) read cut;
    }))

-- they are within what holds the part
behind_within : (node : Shape) (constructed : Bool) (end taken : ℕ) (octets : List ℕ) → IsCutBehind node constructed end taken octets → taken + length octets ≤ end
behind_within node true end taken octets cut = omega (arith, cut.fits)
behind_within node false end taken octets (inl cut) = omega (arith, cut.fits)
behind_within node false end taken octets (inr p) = omega (arith, p.cut.fits, p.cut.fewer, ap length p.cut.joined, length-append p.cut.size p.cut.some)

pub part_within : (tag : Tag) (node : Shape) (levels end taken : ℕ) (octets : List ℕ) → IsPartCut tag node levels end taken octets → taken + length octets ≤ end
part_within tag node levels end taken octets p =
    omega (arith, behind_within node p.constructed end (taken + length p.identifier) p.rest p.behind, ap length p.joined, length-append p.identifier p.rest)

-- and an end within the limit
pub end_cut_within : (frame : Frame) (taken limit : ℕ) (octets : List ℕ) → (frame.definite ≡ false → frame.end + 2 ≤ limit) → IsEndCut frame taken octets → taken + length octets ≤ limit
end_cut_within frame taken limit octets room h =
    let below = room h.indefinite in
    elim h.cut [
      | inl none ↦ omega (arith, below, h.fits, ap length none)
      | inr one ↦ omega (arith, below, h.fits, ap length one)
    ]

-- those of a string that has begun are within the limit
inside_within : (kind : SegmentKind) (s : Segments) (frame : Frame) (octets : List ℕ) → IsWithin frame → IsCutInside kind s frame octets → s.taken + length octets ≤ MAX_ENCODING
inside_within kind s frame octets within (inl cut) = omega (arith, cut.fits, within.end)
inside_within kind s frame octets within (inr (inl h)) =
    omega (arith, part_within (segment_of kind) (string_shape (segment_of kind) kind) (s.levels - length s.frames.items) frame.end s.taken octets h.cut, within.end)
inside_within kind s frame octets within (inr (inr cut)) = end_cut_within frame s.taken MAX_ENCODING octets within.room cut

pub string_within : (kind : SegmentKind) (s : Segments) (octets : List ℕ) → IsSound kind s → IsStringCut kind s octets → s.taken + length octets ≤ MAX_ENCODING
string_within kind s octets sound h = inside_within kind s h.frame octets (All-head IsWithin h.frame h.top.0 (subst (All IsWithin) h.top.1 sound.within)) h.cut

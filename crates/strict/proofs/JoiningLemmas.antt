-- Lemmas on segments that are joined.
use Rattle.std.proofs.Common.{◌≡◌, ◌≢◌, ℕ, ◌-◌, ◌+◌, ◌<◌, ◌≤◌, List, [], ◌++◌, Bool, true, false, All, drop, refl, sym, ◌∙◌, ap, subst, arith, slice_range}
use Rattle.std.proofs.lemmas.List.Elements.{All-nil}
use Rattle.primitives.specs.Bits.{bits_before, CanBeUnused}
use Rattle.encoding_parts.specs.declared.joined.SegmentKind.{SegmentKind}
use Rattle.encoding_parts.specs.declared.joined.SegmentKind.TheVariants.{Bits, Octets}
use Rattle.encoding_parts.specs.declared.joined.Joined.{Joined}
use Rattle.encoding_parts.specs.Joined.{Element, segment_of, IsWholePiece, AreBitsHeld, IsHeld, IsJoined, string_of}
use Rattle.encoding_parts.proofs.JoinedLemmas.{joins_whole, parts_whole, whole_held, unused_whole}
use Rattle.strict.specs.Head.{EndsHere}
use Rattle.strict.specs.Leaf.{HoldsSegment, IsPlace}
use Rattle.strict.specs.Segments.{AreSegmentsRead, AreJoined, IsJoinedSegment}
use Rattle.strict.proofs.SegmentLemmas.{segment_read, none_read, more_read}

-- another may follow a piece exactly if none of its bits is unused
none_unused : (kind : SegmentKind) (old new : Joined) (piece : List (Element kind)) → IsHeld kind new → old.unused ≡ 0 → string_of kind new ≡ string_of kind old ++ piece → IsWholePiece kind piece → new.unused ≡ 0
none_unused kind old new piece held before joined whole =
    let all : IsWholePiece kind (string_of kind old ++ piece) = joins_whole kind (string_of kind old) piece (whole_held kind old.octets.items old.unused before) whole in
    unused_whole kind new.octets.items new.unused held (subst (IsWholePiece kind) (sym joined) all)

whole_piece : (kind : SegmentKind) (old new : Joined) (piece : List (Element kind)) → old.unused ≡ 0 → string_of kind new ≡ string_of kind old ++ piece → new.unused ≡ 0 → IsWholePiece kind piece
whole_piece kind old new piece before joined none =
    parts_whole kind (string_of kind old) piece (whole_held kind old.octets.items old.unused before) (subst (IsWholePiece kind) joined (whole_held kind new.octets.items new.unused none))

pub joined_segment : (kind : SegmentKind) (room start stop : ℕ) (octets : List ℕ) (old new : Joined) (full : Bool) → ((more : List ℕ) → EndsHere false room (octets ++ more) → ⊥) → IsPlace (segment_of kind) room octets start stop → stop ≤ start + 1000 → old.unused ≡ 0
    → (j : IsJoined kind old new (slice_range octets start stop)) → HoldsSegment kind j.piece (slice_range octets start stop) × (j.piece ≢ []) → (full ≡ true → (stop - start ≡ 1000) × (new.unused ≡ 0)) → ((stop - start ≡ 1000) × (new.unused ≡ 0) → full ≡ true)
    → IsJoinedSegment kind room octets old new full stop
joined_segment kind room start stop octets old new full no_end place short before j spelt to from = record {
  piece = j.piece;
  joined = j.joined;
  read = segment_read kind room start stop octets j.piece full no_end place short spelt.0 spelt.1 (
    λ on. ((to on).0, whole_piece kind old new j.piece before j.joined (to on).1),
    λ h. from (h.0, none_unused kind old new j.piece j.held before j.joined h.1),
  );
  held = j.held;
  whole = λ on. (to on).1;
}

-- nothing has been joined
nothing_of : (kind : SegmentKind) (joined : Joined) → joined.octets.items ≡ [] → joined.unused ≡ 0 → IsHeld kind joined × (string_of kind joined ≡ [])
nothing_of Bits joined none unused =
    let can : CanBeUnused 0 [] = record { at_most_7 = omega arith; none = λ empty. refl } in
    let held : AreBitsHeld [] 0 = record { unused_bits = can; below_256 = All-nil (λ o. o < 256) } in
    (subst (λ o. AreBitsHeld o joined.unused) (sym none) (subst (AreBitsHeld []) (sym unused) held), ap (λ o. bits_before o joined.unused) none ∙ ap (λ n. bits_before [] n) unused)
nothing_of Octets joined none unused =
    (record { no_bits = unused; below_256 = subst (All (λ o. o < 256)) (sym none) (All-nil (λ o. o < 256)) }, none)

pub none_joined : (kind : SegmentKind) (room : ℕ) (octets : List ℕ) (joined : Joined) → joined.octets.items ≡ [] → joined.unused ≡ 0 → AreJoined kind room octets joined true 0
none_joined kind room octets joined none unused =
    let both = nothing_of kind joined none unused in
    record { read = subst (λ s. AreSegmentsRead kind room octets s true 0) (sym both.1) (none_read kind room octets); held = both.0; whole = λ on. unused }

-- one more segment has been joined
pub more_joined : (kind : SegmentKind) (room at used : ℕ) (octets : List ℕ) (old new : Joined) (before full : Bool) → AreJoined kind room octets old before at → before ≡ true → IsJoinedSegment kind (room - at) (drop at octets) old new full used
    → AreJoined kind room octets new full (at + used)
more_joined kind room at used octets old new before full h on one =
    let read = more_read kind room at used octets (string_of kind old) one.piece full (subst (λ b. AreSegmentsRead kind room octets (string_of kind old) b at) on h.read) one.read in
    record { read = subst (λ s. AreSegmentsRead kind room octets s full (at + used)) (sym one.joined) read; held = one.held; whole = one.whole }

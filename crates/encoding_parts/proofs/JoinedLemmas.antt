-- Lemmas on the two kinds of string in segments.
use Rattle.std.proofs.Common.{◌≡◌, ℕ, ◌+◌, ◌-◌, ◌*◌, ◌≤◌, ◌<◌, List, [], ◌∷◌, ◌++◌, length, take, drop, refl, sym, ap, ◌∙◌, subst, arith, length-append, All, get_or}
use Rattle.std.proofs.Math.Seq.{take-append-add}
use Rattle.std.proofs.lemmas.List.{take-append-drop, length-take-le, length-drop, take_all}
use Rattle.octets.specs.Rule.{ber}
use Rattle.primitives.specs.Bits.{IsBits, IsFrontOf, bits_of, bits_before, CanBeUnused}
use Rattle.primitives.proofs.BitsLemmas.{one_bits_value, length-bits_of, bits_of-append, IsBits-from_front}
use Rattle.types.specs.FirstTags.{IsUsable}
use Rattle.encoding_parts.specs.declared.joined.SegmentKind.{SegmentKind}
use Rattle.encoding_parts.specs.declared.joined.SegmentKind.TheVariants.{Bits, Octets}
use Rattle.encoding_parts.specs.declared.joined.Joined.{Joined}
use Rattle.encoding_parts.specs.Joined.{Element, segment_of, HoldsPiece, IsWholePiece, string_held, AreHeld, AreBitsHeld, IsJoined}
use Rattle.std.proofs.lemmas.List.Elements.{All-append, All-tail, All-from_get_or}

pub kept_segment : (kind : SegmentKind) → IsUsable (segment_of kind)
kept_segment Bits = λ u. omega arith
kept_segment Octets = λ u. omega arith

pub one_piece : (kind : SegmentKind) (p q : List (Element kind)) (c : List ℕ) → HoldsPiece kind p c → HoldsPiece kind q c → p ≡ q
one_piece Bits p q c h k = one_bits_value ber ber p q c h k
one_piece Octets p q c h k = sym h ∙ k

pub joins_whole : (kind : SegmentKind) (a b : List (Element kind)) → IsWholePiece kind a → IsWholePiece kind b → IsWholePiece kind (a ++ b)
joins_whole Bits a b h k = (h.0 + k.0, omega (arith, length-append a b, h.1, k.1))
joins_whole Octets a b h k = tt

pub parts_whole : (kind : SegmentKind) (a b : List (Element kind)) → IsWholePiece kind a → IsWholePiece kind (a ++ b) → IsWholePiece kind b
parts_whole Bits a b h k = (k.0 - h.0, omega (arith, length-append a b, h.1, k.1))
parts_whole Octets a b h k = tt

pub empty_whole : (kind : SegmentKind) → IsWholePiece kind []
empty_whole Bits = (0, refl)
empty_whole Octets = tt

pub length-bits_before : (octets : List ℕ) (unused : ℕ) → length (bits_before octets unused) ≡ 8 * length octets - unused
length-bits_before octets unused = length-take-le (8 * length octets - unused) (bits_of octets) (omega (arith, length-bits_of octets))

pub whole_held : (kind : SegmentKind) (octets : List ℕ) (unused : ℕ) → unused ≡ 0 → IsWholePiece kind (string_held kind octets unused)
whole_held Bits octets unused none = (length octets, length-bits_before octets unused ∙ omega (arith, none))
whole_held Octets octets unused none = tt

-- bits can be unused only where there are octets
pub few_unused : (unused : ℕ) (octets : List ℕ) → CanBeUnused unused octets → unused ≤ 8 * length octets
few_unused unused [] h = omega (arith, h.none refl)
few_unused unused (o ∷ octets) h = omega (arith, h.at_most_7)

pub unused_whole : (kind : SegmentKind) (octets : List ℕ) (unused : ℕ) → AreHeld kind octets unused → IsWholePiece kind (string_held kind octets unused) → unused ≡ 0
unused_whole Bits octets unused h whole =
    omega (arith, h.unused_bits.at_most_7, few_unused unused octets h.unused_bits, length-bits_before octets unused, whole.1)
unused_whole Octets octets unused h whole = h.no_bits

pub bits_before-append : (o d : List ℕ) (u : ℕ) → CanBeUnused u d → bits_before (o ++ d) u ≡ bits_before o 0 ++ bits_before d u
bits_before-append o d u h =
    let few = few_unused u d h in
    let count : 8 * length (o ++ d) - u ≡ length (bits_of o) + (8 * length d - u) = omega (arith, length-append o d, length-bits_of o) in
    let old : bits_before o 0 ≡ bits_of o = take_all (8 * length o - 0) (bits_of o) (omega (arith, length-bits_of o)) in
    ap (λ n. take n (bits_of (o ++ d))) count ∙ (ap (take (length (bits_of o) + (8 * length d - u))) (bits_of-append o d) ∙ (take-append-add (bits_of o) (bits_of d) (8 * length d - u) ∙ ap (λ x. x ++ bits_before d u) (sym old)))

pub front_of_bits : (d : List ℕ) (u : ℕ) → CanBeUnused u d → IsFrontOf (bits_before d u) u d
front_of_bits d u h = record {
  tail = drop (8 * length d - u) (bits_of d);
  bits_are = sym (take-append-drop (8 * length d - u) (bits_of d));
  tail_is = length-drop (8 * length d - u) (bits_of d) ∙ omega (arith, length-bits_of d, few_unused u d h);
}

pub holds_bits : (d : List ℕ) (u : ℕ) → CanBeUnused u d → All (λ o. o < 256) d → IsBits ber (bits_before d u) (u ∷ d)
holds_bits d u h below = IsBits-from_front (bits_before d u) u d h.at_most_7 below (front_of_bits d u h)

empty_later : (o d : List ℕ) → o ++ d ≡ [] → d ≡ []
empty_later [] d h = h
empty_later (x ∷ o) d h = cc

pub can_be_unused-append : (o d : List ℕ) (u : ℕ) → CanBeUnused u d → CanBeUnused u (o ++ d)
can_be_unused-append o d u h = record {
  at_most_7 = h.at_most_7;
  none = λ empty. h.none (empty_later o d empty);
}

octets_below : (o d : List ℕ) → All (λ x. x < 256) o → All (λ x. x < 256) d → All (λ x. x < 256) (o ++ d)
octets_below o d h k = All-append (λ x. x < 256) o d h k

-- the piece that some contents octets hold was appended
pub bits_joined : (old new : Joined) (u : ℕ) (d contents : List ℕ) → contents ≡ u ∷ d → CanBeUnused u d → All (λ x. x < 256) contents → old.unused ≡ 0 → AreBitsHeld old.octets.items old.unused
    → new.octets.items ≡ old.octets.items ++ d → new.unused ≡ u → IsJoined Bits old new contents
bits_joined old new u d contents parts can below whole held items unused =
    let o = old.octets.items in
    let below_d : All (λ x. x < 256) d = All-tail (λ x. x < 256) u d (subst (All (λ x. x < 256)) parts below) in
    let joined : bits_before new.octets.items new.unused ≡ bits_before o old.unused ++ bits_before d u =
    ap (bits_before new.octets.items) unused ∙ (ap (λ x. bits_before x u) items ∙ (bits_before-append o d u can ∙ ap (λ n. bits_before o n ++ bits_before d u) (sym whole))) in
    let new_held : AreBitsHeld (o ++ d) u = record { unused_bits = can_be_unused-append o d u can; below_256 = octets_below o d held.below_256 below_d } in
    record {
      piece = bits_before d u;
      holds = subst (IsBits ber (bits_before d u)) (sym parts) (holds_bits d u can below_d);
      joined = joined;
      held = subst (AreBitsHeld new.octets.items) (sym unused) (subst (λ x. AreBitsHeld x u) (sym items) new_held);
    }

pub all_octets : (octets : List ℕ) → ((i : ℕ) → get_or octets i 0 < 256) → All (λ x. x < 256) octets
all_octets octets h = All-from_get_or {X = ℕ} (λ x. x < 256) octets 0 (λ i below. h i)

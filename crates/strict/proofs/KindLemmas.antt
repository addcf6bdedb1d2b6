-- Lemmas on strings that may be cut, by kind.
use Rattle.std.proofs.Common.{◌≡◌, ◌≢◌, ℕ, ◌<◌, ◌≤◌, List, [], ◌∷◌, Bool, true, false, length, refl, sym, ◌∙◌, ap, subst, arith}
use Rattle.std.specs.Bool.{IsTrue}
use Rattle.octets.specs.Rule.{ber, cer, der}
use Rattle.primitives.specs.Bits.{IsBits, IsFrontOf, bits_before, CanBeUnused}
use Rattle.primitives.proofs.BitsLemmas.{bits_before-parts, canonical_bits_are_ber}
use Rattle.types.specs.Shape.{StringType, Shape}
use Rattle.types.proofs.BitsExistenceLemmas.{bits_contents}
use Rattle.types.proofs.CerLemmas.{bits_by_cer, bits_by_der, bits_count}
use Rattle.encoding_parts.specs.declared.joined.SegmentKind.{SegmentKind}
use Rattle.encoding_parts.specs.declared.joined.SegmentKind.TheVariants.{Bits, Octets}
use Rattle.encoding_parts.specs.declared.joined.Joined.{Joined}
use Rattle.encoding_parts.specs.Joined.{Element, HoldsPiece, IsHeld, IsHeldFor, IsStringOf, string_of, typed, value_of}
use Rattle.encoding_parts.proofs.JoinedLemmas.{length-bits_before, few_unused}
use Rattle.strict.specs.Leaf.{HoldsSegment, IsBitString, bits_view, value_is}
use Rattle.strict.specs.Segments.{IsLong}

-- what CER takes as a segment BER takes as a piece
pub held_by_ber : (kind : SegmentKind) (piece : List (Element kind)) (contents : List ℕ) → HoldsSegment kind piece contents → HoldsPiece kind piece contents
held_by_ber Bits piece contents h = canonical_bits_are_ber cer piece contents h
held_by_ber Octets piece contents h = h

-- a test of contents octets of a piece
abbrev pub TellsSegment : (kind : SegmentKind) → Bool → List ℕ → Type 0
TellsSegment kind b contents = (piece : List (Element kind)) → HoldsPiece kind piece contents → (IsTrue b → HoldsSegment kind piece contents × (piece ≢ [])) × (HoldsSegment kind piece contents × (piece ≢ []) → IsTrue b)

pub tells_bits : (kind : SegmentKind) (b : Bool) (contents : List ℕ) → kind ≡ Bits → 1 < length contents → ((bits : List Bool) → IsBits ber bits contents → (IsTrue b → IsBits der bits contents) × (IsBits der bits contents → IsTrue b)) → TellsSegment kind b contents
tells_bits Bits b contents is two zeros = λ piece holds. (
  λ on. (bits_by_cer piece contents ((zeros piece holds).0 on), λ none. absurd (omega (arith, bits_count ber piece contents holds, holds.at_most_7, two, ap length none))),
  λ h. (zeros piece holds).1 (bits_by_der piece contents h.0),
)
tells_bits Octets b contents is two zeros = absurd (cc is)

none_of_length : {A : Type 0} (xs : List A) → length xs ≡ 0 → xs ≡ []
none_of_length [] h = refl
none_of_length (x ∷ xs) h = absurd (omega arith)

pub tells_no_bits : (kind : SegmentKind) (b : Bool) (contents : List ℕ) → kind ≡ Bits → length contents ≤ 1 → b ≡ false → TellsSegment kind b contents
tells_no_bits Bits b contents is few off = λ piece holds. (
  λ on. let no : true ≡ false = sym on ∙ off in absurd cc,
  λ h. absurd (h.1 (none_of_length piece (omega (arith, bits_count ber piece contents holds, few)))),
)
tells_no_bits Octets b contents is few off = absurd (cc is)

pub tells_octets : (kind : SegmentKind) (b : Bool) (contents : List ℕ) → kind ≡ Octets → (b ≡ true → 0 < length contents) → (b ≡ false → length contents ≤ 0) → TellsSegment kind b contents
tells_octets Bits b contents is some none = absurd (cc is)
tells_octets Octets true contents is some none = λ piece holds. (λ on. (holds, λ empty. absurd (omega (arith, some refl, ap length (holds ∙ empty)))), λ h. refl)
tells_octets Octets false contents is some none =
    let empty : contents ≡ [] = none_of_length contents (omega (arith, none refl)) in
    λ piece holds. (λ on. absurd (cc on), λ h. absurd (h.1 (sym holds ∙ empty)))

-- a string of bits is too long for one segment from 1000 octets on, and one of octets from 1001
pub long_bits : (kind : SegmentKind) (joined : Joined) → kind ≡ Bits → IsHeld kind joined → 1000 ≤ length joined.octets.items → IsLong kind joined
long_bits Bits joined is held many = λ contents h.
    let octets = joined.octets.items in
    let unused = joined.unused in
    omega (arith, bits_count cer (bits_before octets unused) contents h, h.at_most_7, length-bits_before octets unused, held.unused_bits.at_most_7, few_unused unused octets held.unused_bits)
long_bits Octets joined is held many = absurd (cc is)

pub short_bits : (kind : SegmentKind) (joined : Joined) → kind ≡ Bits → IsHeld kind joined → length joined.octets.items < 1000 → IsLong kind joined → ⊥
short_bits Bits joined is held few long =
    let octets = joined.octets.items in
    let unused = joined.unused in
    let c = bits_contents cer (bits_before octets unused) in
    omega (arith, long c.0 c.1, bits_count cer (bits_before octets unused) c.0 c.1, c.1.at_most_7, length-bits_before octets unused, held.unused_bits.at_most_7, few_unused unused octets held.unused_bits)
short_bits Octets joined is held few long = absurd (cc is)

pub long_octets : (kind : SegmentKind) (joined : Joined) → kind ≡ Octets → 1000 < length joined.octets.items → IsLong kind joined
long_octets Bits joined is many = absurd (cc is)
long_octets Octets joined is many = λ contents h. omega (arith, ap length h)

pub short_octets : (kind : SegmentKind) (joined : Joined) → kind ≡ Octets → length joined.octets.items ≤ 1000 → IsLong kind joined → ⊥
short_octets Bits joined is few long = absurd (cc is)
short_octets Octets joined is few long = omega (arith, long joined.octets.items refl)

-- the type of a string of bits
pub bit_string_of : (kind : SegmentKind) (type : Shape) → kind ≡ Bits → IsStringOf kind type → IsBitString type
bit_string_of Bits (Shape.string tag StringType.bit_string) is of = tt
bit_string_of Bits (Shape.string tag (StringType.named_bits names)) is of = tt
bit_string_of Bits (Shape.string tag StringType.octet_string) is of = absurd (cc of.kind_is)
bit_string_of Bits (Shape.string tag (StringType.text kind)) is of = absurd (cc of.kind_is)
bit_string_of Bits (Shape.string tag (StringType.time kind)) is of = absurd (cc of.kind_is)
bit_string_of Octets type is of = absurd (cc is)
bit_string_of kind type is of = absurd of.string

-- its value
pub bits_are : (kind : SegmentKind) (type : Shape) (joined : Joined) (bits : List Bool) → kind ≡ Bits → IsFrontOf bits joined.unused joined.octets.items → value_is type kind (string_of kind joined) ≡ bits_view bits
bits_are Bits type joined bits is h = ap bits_view (bits_before-parts joined.octets.items joined.unused bits h.tail h.bits_are h.tail_is)
bits_are Octets type joined bits is h = absurd (cc is)

pub some_bits : (kind : SegmentKind) (joined : Joined) → kind ≡ Bits → IsHeld kind joined → CanBeUnused joined.unused joined.octets.items
some_bits Bits joined is held = held.unused_bits
some_bits Octets joined is held = absurd (cc is)

-- the value of a string of octets
pub octets_are : (kind : SegmentKind) (type : Shape) (joined : Joined) → kind ≡ Octets → IsStringOf kind type → value_of type joined ≡ value_is type kind (string_of kind joined)
octets_are Octets type joined is of = ap (λ k. typed type k (string_of k joined)) (sym of.kind_is)
octets_are Bits type joined is of = absurd (cc is)

pub held_for : (kind : SegmentKind) (type : Shape) (joined : Joined) → IsStringOf kind type → IsHeld kind joined → IsHeldFor type joined
held_for kind type joined of held = (of.string, subst (λ k. IsHeld k joined) of.kind_is held)

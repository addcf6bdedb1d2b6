-- Lemmas on the octets of bits: all bits have contents octets, as many as hold them.
use Rattle.std.proofs.Common.{◌≡◌, ◌+◌, ◌*◌, ◌/◌, ◌%◌, ◌<◌, ◌≤◌, ℕ, Bool, true, false, List, [], ◌∷◌, ◌++◌, replicate, refl, ◌∙◌, ap, ap₂, arith, eqb}
use Rattle.std.proofs.lemmas.List.Elements.{All-nil, All-cons}
use Rattle.std.proofs.lemmas.Nat.{div-mul-add}
use Rattle.octets.specs.Rule.{Rule, ber, cer, der}
use Rattle.primitives.specs.Bits.{bit_of, bits_of_octet, IsBits, IsPadded}
use Rattle.primitives.proofs.BitsLemmas.{IsBits-from_padded, canonical_bits_are_ber}
use Rattle.types.proofs.CerLemmas.{bits_by_cer}

digit : Bool → ℕ
digit false = 0
digit true = 1

digit-below : (bit : Bool) → digit bit ≤ 1
unfolding digit
digit-below false = omega arith
digit-below true = omega arith

is_set : (high : ℕ) (bit : Bool) → eqb ((2 * high + digit bit) % 2) 1 ≡ bit
unfolding digit
is_set high false = let even : (2 * high + 0) % 2 ≡ 0 = omega arith in ap (λ n. eqb n 1) even
is_set high true = let odd : (2 * high + 1) % 2 ≡ 1 = omega arith in ap (λ n. eqb n 1) odd

-- the bit of a place value, between the bits above it and those below
bit_at : (octet place high low : ℕ) (bit : Bool) → low < place → octet ≡ (2 * high + digit bit) * place + low → bit_of octet place ≡ bit
bit_at octet place high low bit below same =
    let quotient : octet / place ≡ 2 * high + digit bit = ap (λ n. n / place) same ∙ div-mul-add (2 * high + digit bit) place low below in
    ap (λ n. eqb (n % 2) 1) quotient ∙ is_set high bit

abbrev octet_of : Bool → Bool → Bool → Bool → Bool → Bool → Bool → Bool → ℕ
octet_of a b c d e f g h = 128 * digit a + 64 * digit b + 32 * digit c + 16 * digit d + 8 * digit e + 4 * digit f + 2 * digit g + digit h

octet_of-below : (a b c d e f g h : Bool) → octet_of a b c d e f g h < 256
octet_of-below a b c d e f g h =
    omega (arith, digit-below a, digit-below b, digit-below c, digit-below d, digit-below e, digit-below f, digit-below g, digit-below h)

bits_of_octet-octet_of : (a b c d e f g h : Bool) → bits_of_octet (octet_of a b c d e f g h) ≡ a ∷ b ∷ c ∷ d ∷ e ∷ f ∷ g ∷ h ∷ []
unfolding bits_of_octet
bits_of_octet-octet_of a b c d e f g h =
    let o = octet_of a b c d e f g h in
    let ha = digit-below a in
    let hb = digit-below b in
    let hc = digit-below c in
    let hd = digit-below d in
    let he = digit-below e in
    let hf = digit-below f in
    let hg = digit-below g in
    let hh = digit-below h in
    let low7 = digit h in
    let low6 = 2 * digit g + low7 in
    let low5 = 4 * digit f + low6 in
    let low4 = 8 * digit e + low5 in
    let low3 = 16 * digit d + low4 in
    let low2 = 32 * digit c + low3 in
    let low1 = 64 * digit b + low2 in
    let high2 = 2 * digit a + digit b in
    let high3 = 2 * high2 + digit c in
    let high4 = 2 * high3 + digit d in
    let high5 = 2 * high4 + digit e in
    let high6 = 2 * high5 + digit f in
    let high7 = 2 * high6 + digit g in
    let b8 : bit_of o 128 ≡ a = bit_at o 128 0 low1 a (omega arith) (omega arith) in
    let b7 : bit_of o 64 ≡ b = bit_at o 64 (digit a) low2 b (omega arith) (omega arith) in
    let b6 : bit_of o 32 ≡ c = bit_at o 32 high2 low3 c (omega arith) (omega arith) in
    let b5 : bit_of o 16 ≡ d = bit_at o 16 high3 low4 d (omega arith) (omega arith) in
    let b4 : bit_of o 8 ≡ e = bit_at o 8 high4 low5 e (omega arith) (omega arith) in
    let b3 : bit_of o 4 ≡ f = bit_at o 4 high5 low6 f (omega arith) (omega arith) in
    let b2 : bit_of o 2 ≡ g = bit_at o 2 high6 low7 g (omega arith) (omega arith) in
    let b1 : bit_of o 1 ≡ h = bit_at o 1 high7 0 h (omega arith) (omega arith) in
    cc

-- octets that hold the bits, with zeros after them
record IsHeld (bits : List Bool) : Type 0 where
  octets : List ℕ
  unused : ℕ
  padded : IsPadded bits octets unused

one_octet : (a b c d e f g h : Bool) (bits : List Bool) (unused : ℕ) → unused ≤ 7 → a ∷ b ∷ c ∷ d ∷ e ∷ f ∷ g ∷ h ∷ [] ≡ bits ++ replicate unused false → IsHeld bits
one_octet a b c d e f g h bits unused few same =
    let o = octet_of a b c d e f g h in
    record {
      octets = o ∷ [];
      unused = unused;
      padded = record {
        at_most_7 = few;
        below_256 = All-cons (λ octet. octet < 256) o [] (octet_of-below a b c d e f g h) (All-nil (λ octet. octet < 256));
        bits_are = ap (λ x. x ++ []) (bits_of_octet-octet_of a b c d e f g h) ∙ same;
      };
    }

more_octets : (a b c d e f g h : Bool) (rest : List Bool) → IsHeld rest → IsHeld (a ∷ b ∷ c ∷ d ∷ e ∷ f ∷ g ∷ h ∷ rest)
more_octets a b c d e f g h rest held =
    let o = octet_of a b c d e f g h in
    record {
      octets = o ∷ held.octets;
      unused = held.unused;
      padded = record {
        at_most_7 = held.padded.at_most_7;
        below_256 = All-cons (λ octet. octet < 256) o held.octets (octet_of-below a b c d e f g h) held.padded.below_256;
        bits_are = ap₂ (λ x y. x ++ y) (bits_of_octet-octet_of a b c d e f g h) held.padded.bits_are;
      };
    }

held : (bits : List Bool) → IsHeld bits
held [] = record { octets = []; unused = 0; padded = record { at_most_7 = omega arith; below_256 = All-nil (λ octet. octet < 256); bits_are = refl } }
held (a ∷ []) = one_octet a false false false false false false false (a ∷ []) 7 (omega arith) refl
held (a ∷ b ∷ []) = one_octet a b false false false false false false (a ∷ b ∷ []) 6 (omega arith) refl
held (a ∷ b ∷ c ∷ []) = one_octet a b c false false false false false (a ∷ b ∷ c ∷ []) 5 (omega arith) refl
held (a ∷ b ∷ c ∷ d ∷ []) = one_octet a b c d false false false false (a ∷ b ∷ c ∷ d ∷ []) 4 (omega arith) refl
held (a ∷ b ∷ c ∷ d ∷ e ∷ []) = one_octet a b c d e false false false (a ∷ b ∷ c ∷ d ∷ e ∷ []) 3 (omega arith) refl
held (a ∷ b ∷ c ∷ d ∷ e ∷ f ∷ []) = one_octet a b c d e f false false (a ∷ b ∷ c ∷ d ∷ e ∷ f ∷ []) 2 (omega arith) refl
held (a ∷ b ∷ c ∷ d ∷ e ∷ f ∷ g ∷ []) = one_octet a b c d e f g false (a ∷ b ∷ c ∷ d ∷ e ∷ f ∷ g ∷ []) 1 (omega arith) refl
held (a ∷ b ∷ c ∷ d ∷ e ∷ f ∷ g ∷ h ∷ rest) = more_octets a b c d e f g h rest (held rest)

bits_under : (rule : Rule) (bits : List Bool) (contents : List ℕ) → IsBits der bits contents → IsBits rule bits contents
bits_under ber bits contents h = canonical_bits_are_ber der bits contents h
bits_under cer bits contents h = bits_by_cer bits contents h
bits_under der bits contents h = h

-- bits have contents octets
pub bits_contents : (rule : Rule) (bits : List Bool) → (contents : List ℕ) × IsBits rule bits contents
bits_contents rule bits =
    let all = held bits in
    (all.unused ∷ all.octets, bits_under rule bits (all.unused ∷ all.octets) (IsBits-from_padded der bits all.octets all.unused all.padded))

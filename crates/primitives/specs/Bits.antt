-- Contents octets of a BIT STRING in a primitive encoding (X.690 8.6.2 and 11.2.1).
use Rattle.std.specs.Prelude.{◌≡◌, ◌⊎◌, ℕ, ◌*◌, ◌-◌, ◌/◌, ◌%◌, ◌<◌, ◌≤◌, Bool, true, false, List, [], ◌∷◌, ◌++◌, length, take, map, replicate, nat_eq, All, ⊤}
use Rattle.octets.specs.Rule.{Rule, ber, cer, der}

-- whether the bit of this place value is set
abbrev pub bit_of : ℕ → ℕ → Bool
bit_of octet place = nat_eq (octet / place % 2) 1

-- the bits of an octet, bit 8 first
unfoldable pub bits_of_octet : ℕ → List Bool
bits_of_octet octet = map (bit_of octet) (128 ∷ 64 ∷ 32 ∷ 16 ∷ 8 ∷ 4 ∷ 2 ∷ 1 ∷ [])

-- 8.6.2.1: the bits of octets, from the first octet to the last
abbrev pub bits_of : List ℕ → List Bool
bits_of [] = []
bits_of (octet ∷ octets) = bits_of_octet octet ++ bits_of octets

-- 11.2.1: unused bits are free under BER, and zero under CER and DER
abbrev pub AreUnused : Rule → List Bool → Type 0
AreUnused ber bits = ⊤
AreUnused cer bits = All (λ bit. bit ≡ false) bits
AreUnused der bits = All (λ bit. bit ≡ false) bits

-- 8.6.2.2: the first octet counts the unused bits, which follow the bits of the value in the last octet
pub record IsBits (rule : Rule) (bits : List Bool) (contents : List ℕ) : Type 0 where
  pub unused : ℕ
  pub octets : List ℕ
  pub tail : List Bool
  pub contents_are : contents ≡ unused ∷ octets
  pub at_most_7 : unused ≤ 7
  pub below_256 : All (λ octet. octet < 256) octets
  pub bits_are : bits_of octets ≡ bits ++ tail
  pub tail_is : length tail ≡ unused
  pub free : AreUnused rule tail

-- these are the contents octets under CER and DER both
abbrev pub IsCanonicalBits : List Bool → List ℕ → Type 0
IsCanonicalBits bits contents = IsBits cer bits contents × IsBits der bits contents

-- 11.2.2: no bit, or the last one is 1
abbrev pub IsTrimmed : List Bool → Type 0
IsTrimmed bits = (bits ≡ []) ⊎ ((front : List Bool) × (bits ≡ front ++ (true ∷ [])))

-- 8.6.2.2 and 8.6.2.3: as many bits at the end of the octets can be unused
pub record CanBeUnused (unused : ℕ) (octets : List ℕ) : Type 0 where
  pub at_most_7 : unused ≤ 7
  pub none : octets ≡ [] → unused ≡ 0

-- these are the bits of the octets without the last `unused`
pub record IsFrontOf (bits : List Bool) (unused : ℕ) (octets : List ℕ) : Type 0 where
  pub tail : List Bool
  pub bits_are : bits_of octets ≡ bits ++ tail
  pub tail_is : length tail ≡ unused

-- the octets of these bits with `unused` zero bits after them
pub record IsPadded (bits : List Bool) (octets : List ℕ) (unused : ℕ) : Type 0 where
  pub at_most_7 : unused ≤ 7
  pub below_256 : All (λ octet. octet < 256) octets
  pub bits_are : bits_of octets ≡ bits ++ replicate unused false

-- the bits of octets without the unused ones
abbrev pub bits_before : List ℕ → ℕ → List Bool
bits_before octets unused = take (8 * length octets - unused) (bits_of octets)

-- What holds of all contents octets.
use Rattle.std.specs.Prelude.{◌≡◌, ℕ, ◌≤◌, Bool, List, length, ℤ, FitsSigned}
use Rattle.std.specs.Int.{w128}
use Rattle.octets.specs.Rule.{Rule, ber, IsCanonical}
use Rattle.primitives.specs.Bits.{IsBits}
use Rattle.primitives.specs.Boolean.{IsBoolean}
use Rattle.primitives.specs.Integer.{IsInteger}
use Rattle.primitives.specs.Oid.{IsOid, IsRelativeOid}

-- contents octets have one truth value, under whatever rules they are read
abbrev pub OneBooleanValue : Type 0
OneBooleanValue =
    (r s : Rule) (v w : Bool) (contents : List ℕ) → IsBoolean r v contents → IsBoolean s w contents → v ≡ w

-- what a rule takes, BER takes as the same truth value
abbrev pub CanonicalBooleanIsBer : Type 0
CanonicalBooleanIsBer = (rule : Rule) (value : Bool) (contents : List ℕ) → IsBoolean rule value contents → IsBoolean ber value contents

-- a truth value has one encoding under CER and DER, the same under both
abbrev pub OneCanonicalBoolean : Type 0
OneCanonicalBoolean =
    (r s : Rule) (value : Bool) (c d : List ℕ) → IsCanonical r → IsCanonical s → IsBoolean r value c → IsBoolean s value d → c ≡ d

-- contents octets have one number
abbrev pub OneIntegerValue : Type 0
OneIntegerValue = (m n : ℤ) (contents : List ℕ) → IsInteger m contents → IsInteger n contents → m ≡ n

-- a number has one encoding
abbrev pub OneIntegerEncoding : Type 0
OneIntegerEncoding = (number : ℤ) (c d : List ℕ) → IsInteger number c → IsInteger number d → c ≡ d

-- a number of 128 bits has at most 16 octets
abbrev pub AtMostSixteenOctets : Type 0
AtMostSixteenOctets = (number : ℤ) (contents : List ℕ) → FitsSigned w128 number → IsInteger number contents → length contents ≤ 16

-- contents octets have one list of arcs
abbrev pub OneOidValue : Type 0
OneOidValue = (a b contents : List ℕ) → IsOid a contents → IsOid b contents → a ≡ b

abbrev pub OneRelativeOidValue : Type 0
OneRelativeOidValue = (a b contents : List ℕ) → IsRelativeOid a contents → IsRelativeOid b contents → a ≡ b

-- a list of arcs has one encoding
abbrev pub OneOidEncoding : Type 0
OneOidEncoding = (arcs c d : List ℕ) → IsOid arcs c → IsOid arcs d → c ≡ d

abbrev pub OneRelativeOidEncoding : Type 0
OneRelativeOidEncoding = (arcs c d : List ℕ) → IsRelativeOid arcs c → IsRelativeOid arcs d → c ≡ d

-- contents octets have one list of bits, under whatever rules they are read
abbrev pub OneBitsValue : Type 0
OneBitsValue =
    (r s : Rule) (b d : List Bool) (contents : List ℕ) → IsBits r b contents → IsBits s d contents → b ≡ d

-- what a rule takes, BER takes as the same bits
abbrev pub CanonicalBitsAreBer : Type 0
CanonicalBitsAreBer = (rule : Rule) (bits : List Bool) (contents : List ℕ) → IsBits rule bits contents → IsBits ber bits contents

-- bits have one primitive encoding under CER and DER, the same under both
abbrev pub OneCanonicalBits : Type 0
OneCanonicalBits =
    (r s : Rule) (bits : List Bool) (c d : List ℕ) → IsCanonical r → IsCanonical s → IsBits r bits c → IsBits s bits d → c ≡ d

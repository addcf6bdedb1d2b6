-- Contents octets of an INTEGER and of an ENUMERATED number (X.690 8.3 and 8.4): two's complement in
-- the fewest octets, under every rule.
use Rattle.std.specs.Prelude.{◌≡◌, ℕ, ◌*◌, ◌/◌, ◌%◌, ◌^◌, ◌<◌, ◌≤◌, List, [], ◌∷◌, length, All, ⊤, ℤ, pos, negsuc, FitsSigned, ◌-ℤ◌, ◌-◌, Bool, true, false}
use Rattle.std.specs.Int.{w128}
use Rattle.octets.specs.Digits.{number_of}

-- 8.3.3: the sum of the place values of the bits that are set, less that of bit 8 of the first octet
-- where it is set
abbrev pub integer_of : List ℕ → ℤ
integer_of [] = pos 0
integer_of (first ∷ rest) = pos (number_of 256 (first % 128 ∷ rest)) -ℤ pos (first / 128 * (128 * 256 ^ length rest))

-- 8.3.2: the first nine bits are neither all 0 nor all 1
abbrev pub NineBitsDiffer : List ℕ → Type 0
NineBitsDiffer [] = ⊤
NineBitsDiffer (first ∷ []) = ⊤
NineBitsDiffer (first ∷ second ∷ rest) = (first ≡ 0 → 128 ≤ second) × (first ≡ 255 → second < 128)

-- these are the contents octets of the number
pub record IsInteger (number : ℤ) (contents : List ℕ) : Type 0 where
  pub at_least_one : 1 ≤ length contents
  pub below_256 : All (λ octet. octet < 256) contents
  pub shortest : NineBitsDiffer contents
  pub value : integer_of contents ≡ number

-- these are contents octets of a number that 128 bits do not hold, at most 1,024 of them
pub record IsWideInteger (contents : List ℕ) : Type 0 where
  pub number : ℤ
  pub spelt : IsInteger number contents
  pub outside : ¬ FitsSigned w128 number
  pub within : length contents ≤ 1_024

-- the number that stands at this distance above 0, or below -1
abbrev pub number_at : Bool → ℕ → ℤ
number_at false distance = pos distance
number_at true distance = negsuc distance

-- its last octet
abbrev pub last_octet_at : Bool → ℕ → ℕ
last_octet_at false distance = distance % 256
last_octet_at true distance = 255 - distance % 256

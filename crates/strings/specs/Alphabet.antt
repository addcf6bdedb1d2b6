-- Contents octets of the character string types (X.680, "Definition of restricted character string
-- types"). Each type has the empty string.
use Rattle.std.specs.Prelude.{◌≡◌, ℕ, ◌/◌, ◌%◌, ◌<◌, ◌≤◌, ◌⊎◌, List, [], ◌∷◌, All, Contains, codes, IsUtf8}
use Rattle.std.specs.Char.{IsAsciiDigit, IsAsciiAlphanumeric}
use Rattle.std.specs.List.{flat_map}
use Rattle.strings.specs.declared.text.TextKind.{TextKind}
use Rattle.strings.specs.declared.text.TextKind.TheVariants.{Utf8, Numeric, Printable, Ia5, Visible, Bmp}

-- NumericString: 0 to 9 and space
abbrev pub IsNumericOctet : ℕ → Type 0
IsNumericOctet octet = IsAsciiDigit octet ⊎ (octet ≡ 32)

-- PrintableString: 0 to 9, A to Z, a to z, space and eleven marks
abbrev pub IsPrintableOctet : ℕ → Type 0
IsPrintableOctet octet = IsAsciiAlphanumeric octet ⊎ Contains (codes " '()+,-./:=?") octet

-- IA5String: the octets of seven bits
abbrev pub IsIa5Octet : ℕ → Type 0
IsIa5Octet octet = octet < 128

-- VisibleString: space, and what is printed
abbrev pub IsVisibleOctet : ℕ → Type 0
IsVisibleOctet octet = (32 ≤ octet) × (octet ≤ 126)

-- BMPString: a character of two octets that is no surrogate
abbrev pub IsBmpCharacter : ℕ → Type 0
IsBmpCharacter character = (character < 0xD800) ⊎ ((0xDFFF < character) × (character ≤ 0xFFFF))

-- the two octets of each character, the most significant first
abbrev pub bmp_octets : List ℕ → List ℕ
bmp_octets characters = flat_map (λ character. character / 256 ∷ character % 256 ∷ []) characters

-- the octets of some characters
pub record IsBmp (contents : List ℕ) : Type 0 where
  pub characters : List ℕ
  pub each : All IsBmpCharacter characters
  pub spelt : contents ≡ bmp_octets characters

-- the first octet of one of them
abbrev pub BeginsCharacter : ℕ → Type 0
BeginsCharacter high = (high < 0xD8) ⊎ (0xDF < high)

-- these are the contents octets of some string of the type
abbrev pub IsText : TextKind → List ℕ → Type 0
IsText Utf8 contents = IsUtf8 contents
IsText Numeric contents = All IsNumericOctet contents
IsText Printable contents = All IsPrintableOctet contents
IsText Ia5 contents = All IsIa5Octet contents
IsText Visible contents = All IsVisibleOctet contents
IsText Bmp contents = IsBmp contents

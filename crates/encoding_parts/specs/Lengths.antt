-- How many contents octets a primitive encoding of a type can have.
use Rattle.std.specs.Prelude.{◌≡◌, ◌⊎◌, ℕ, ◌%◌, ◌≤◌, ⊤}
use Rattle.strings.specs.declared.text.TextKind.{TextKind}
use Rattle.strings.specs.declared.text.TextKind.TheVariants.{Bmp}
use Rattle.strings.specs.declared.time.TimeKind.{TimeKind}
use Rattle.strings.specs.declared.time.TimeKind.TheVariants.{Utc, Generalized}
use Rattle.types.specs.Shape.{SimpleType, StringType, Shape}

-- bounds on the contents octets of a primitive encoding: an INTEGER has up to 1,024, the number of an ENUMERATED up to
-- 16, which are 128 bits, and an OBJECT IDENTIFIER or RELATIVE-OID up to 19 for each of 128 subidentifiers
abbrev pub SimpleLength : SimpleType → ℕ → Type 0
SimpleLength SimpleType.boolean n = n ≡ 1
SimpleLength SimpleType.integer n = (1 ≤ n) × (n ≤ 1_024)
SimpleLength (SimpleType.enumerated numbers) n = (1 ≤ n) × (n ≤ 16)
SimpleLength SimpleType.null n = n ≡ 0
SimpleLength SimpleType.oid n = (1 ≤ n) × (n ≤ 2432)
SimpleLength SimpleType.relative_oid n = (1 ≤ n) × (n ≤ 2432)

-- a BMPString has two octets for each character
abbrev pub TextLength : TextKind → ℕ → Type 0
TextLength Bmp n = n % 2 ≡ 0
TextLength _ n = ⊤

-- YYMMDDhhmmssZ; and YYYYMMDDhhmmssZ, with perhaps a point and 1 to 12 digits before the Z
abbrev pub TimeLength : TimeKind → ℕ → Type 0
TimeLength Utc n = n ≡ 13
TimeLength Generalized n = (n ≡ 15) ⊎ ((17 ≤ n) × (n ≤ 28))

abbrev pub StringLength : StringType → ℕ → Type 0
StringLength StringType.bit_string n = 1 ≤ n
StringLength (StringType.named_bits names) n = 1 ≤ n
StringLength StringType.octet_string n = ⊤
StringLength (StringType.text kind) n = TextLength kind n
StringLength (StringType.time kind) n = TimeLength kind n

abbrev pub CanHaveLength : Shape → ℕ → Type 0
CanHaveLength (Shape.simple tag type) n = SimpleLength type n
CanHaveLength (Shape.string tag type) n = StringLength type n
CanHaveLength _ n = ⊥

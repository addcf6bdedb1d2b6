-- Lemmas on which contents octets there are: each value of a simple type has some, as many as it weighs.
use Rattle.std.proofs.Common.{◌≡◌, ◌*◌, ◌/◌, ◌^◌, ◌<◌, ◌≤◌, inl, inr, ℕ, ℤ, pos, negsuc, zero, suc, Bool, true, false, List, [], ◌∷◌, ◌++◌, length, refl, ap, arith, length-append, FitsSigned, All, ◌⊎◌}
use Rattle.std.proofs.lemmas.Int.{ints}
use Rattle.std.specs.Int.{w128}
use Rattle.std.proofs.lemmas.Bool.{cases_lt}
use Rattle.std.proofs.lemmas.List.Elements.{All-head, All-tail}
use Rattle.std.proofs.Math.Nat.{pow-suc}
use Rattle.octets.specs.Rule.{Rule, ber, cer, der, IsCanonical}
use Rattle.octets.proofs.Base128Lemmas.{base_128, IsBase128-size}
use Rattle.primitives.specs.Boolean.{IsBoolean}
use Rattle.primitives.specs.Integer.{IsInteger, number_at, last_octet_at}
use Rattle.primitives.specs.Oid.{AreSubidentifiers, AreOfArcs}
use Rattle.primitives.proofs.IntegerLemmas.{IsInteger-last, IsInteger-more, at_most_sixteen_octets}
use Rattle.types.specs.Shape.{SimpleType, SimpleValue}
use Rattle.types.specs.Conforms.{SimpleConforms}
use Rattle.types.specs.Contents.{IsContents}
use Rattle.types.specs.Weight.{weight_of_simple}

boolean_contents : (rule : Rule) (truth : Bool) → IsCanonical rule → (contents : List ℕ) × IsBoolean rule truth contents × (length contents ≤ 1)
boolean_contents rule false canonical = (0 ∷ [], refl, omega arith)
boolean_contents ber true canonical = absurd (canonical refl)
boolean_contents cer true canonical = (255 ∷ [], refl, omega arith)
boolean_contents der true canonical = (255 ∷ [], refl, omega arith)

-- a number has contents octets: its last octet stands after those of the number divided by 256
number_octets : (negative : Bool) (more m : ℕ) → m < 128 * 256 ^ more → (contents : List ℕ) × IsInteger (number_at negative m) contents
number_octets negative zero m fits = let once : 256 ^ 0 ≡ 1 = refl in (last_octet_at negative m ∷ [], IsInteger-last negative m (omega arith))
number_octets negative (suc more) m fits = number_by (cases_lt m 128) (number_octets negative more (m / 256) (omega (arith, pow-suc 256 more)))
  where
    number_by : (m < 128) ⊎ (128 ≤ m) → ((front : List ℕ) × IsInteger (number_at negative (m / 256)) front) → (contents : List ℕ) × IsInteger (number_at negative m) contents
    number_by (inl small) front = (last_octet_at negative m ∷ [], IsInteger-last negative m small)
    number_by (inr great) front = (front.0 ++ last_octet_at negative m ∷ [], IsInteger-more negative m front.0 great front.1)

integer_contents : (number : ℤ) → FitsSigned w128 number → (contents : List ℕ) × IsInteger number contents × (length contents ≤ 16)
integer_contents (pos n) fits =
    let power : 128 * 256 ^ 15 ≡ 2 ^ 127 = refl in
    let made = number_octets false 15 n (omega (arith, ints, fits)) in
    (made.0, made.1, at_most_sixteen_octets (pos n) made.0 fits made.1)
integer_contents (negsuc n) fits =
    let power : 128 * 256 ^ 15 ≡ 2 ^ 127 = refl in
    let made = number_octets true 15 n (omega (arith, ints, fits)) in
    (made.0, made.1, at_most_sixteen_octets (negsuc n) made.0 fits made.1)

subidentifiers : (numbers : List ℕ) → All (λ number. number < 2 ^ 128) numbers → (contents : List ℕ) × AreSubidentifiers numbers contents × (length contents ≤ 19 * length numbers)
subidentifiers [] below = ([], record { spellings = []; each = tt; joined = refl }, omega arith)
subidentifiers (number ∷ numbers) below =
    let low : number < 2 ^ 128 = All-head (λ n. n < 2 ^ 128) number numbers below in
    let room : 2 ^ 128 * 32 ≡ 128 ^ 19 = refl in
    let fits : number < 128 ^ 19 = omega arith in
    let piece = base_128 number 19 fits in
    let few : length piece.0 ≤ 19 = (IsBase128-size number 19 piece.0 (omega arith) fits piece.1).1 in
    let rest = subidentifiers numbers (All-tail (λ n. n < 2 ^ 128) number numbers below) in (
      piece.0 ++ rest.0,
      record { spellings = piece.0 ∷ rest.1.spellings; each = (piece.1, rest.1.each); joined = ap (λ x. piece.0 ++ x) rest.1.joined },
      omega (arith, length-append piece.0 rest.0, rest.2),
    )

-- the first two arcs share a subidentifier
fewer_numbers : (arcs numbers : List ℕ) → AreOfArcs arcs numbers → length numbers ≤ length arcs
fewer_numbers arcs numbers h = omega (arith, ap length h.arcs_are, ap length h.numbers_are)

pub simple_contents : (rule : Rule) (type : SimpleType) (value : SimpleValue) → IsCanonical rule → SimpleConforms type value → (contents : List ℕ) × IsContents rule value contents × (length contents ≤ 19 * weight_of_simple value)
simple_contents rule SimpleType.boolean (SimpleValue.boolean truth) canonical c =
    let made = boolean_contents rule truth canonical in (made.0, made.1, omega (arith, made.2))
simple_contents rule SimpleType.integer (SimpleValue.integer number) canonical c =
    let made = integer_contents number c in (made.0, made.1, omega (arith, made.2))
simple_contents rule SimpleType.integer (SimpleValue.wide_integer octets) canonical c = (octets, refl, omega arith)
simple_contents rule (SimpleType.enumerated items) (SimpleValue.enumerated number) canonical c =
    let made = integer_contents number c.1 in (made.0, made.1, omega (arith, made.2))
simple_contents rule SimpleType.null SimpleValue.null canonical c = ([], refl, omega arith)
simple_contents rule SimpleType.oid (SimpleValue.oid arcs) canonical c =
    let made = subidentifiers c.numbers c.within.below in
    (made.0, record { numbers = c.numbers; of_arcs = c.of_arcs; spelt = made.1 }, omega (arith, made.2, fewer_numbers arcs c.numbers c.of_arcs))
simple_contents rule SimpleType.relative_oid (SimpleValue.relative_oid arcs) canonical c =
    let made = subidentifiers arcs c.within.below in
    (made.0, record { at_least_one = c.at_least_one; spelt = made.1 }, omega (arith, made.2))
simple_contents rule type value canonical c = elim c [ ]

-- How many contents octets the values of a type have.
use Rattle.std.proofs.Common.{◌≡◌, ◌⊎◌, inl, inr, ℕ, zero, suc, codes, ◌/◌, ◌%◌, ◌++◌, refl, ◌∙◌, ◌+◌, ◌*◌, ◌^◌, ◌<◌, ◌≤◌, List, [], ◌∷◌, Bool, true, false, length, sym, ap, subst, arith, FitsSigned, All, length-append}
use Rattle.std.specs.Int.{w128}
use Rattle.std.specs.List.{AllZip, concat}
use Rattle.std.proofs.lemmas.List.Elements.{All-head, All-tail}
use Rattle.octets.specs.Rule.{ber}
use Rattle.octets.specs.Base128.{IsBase128}
use Rattle.octets.proofs.Base128Lemmas.{IsBase128-size}
use Rattle.primitives.specs.Boolean.{IsBoolean}
use Rattle.primitives.specs.Oid.{AreSubidentifiers, AreOfArcs}
use Rattle.primitives.proofs.IntegerLemmas.{at_most_sixteen_octets}
use Rattle.primitives.proofs.OidLemmas.{same_numbers}
use Rattle.types.specs.Shape.{SimpleType, StringType, SimpleValue, StringValue}
use Rattle.types.specs.Conforms.{SimpleConforms, StringConforms}
use Rattle.encoding_parts.specs.Contents.{IsSimpleContents, IsStringContents}
use Rattle.encoding_parts.specs.Lengths.{SimpleLength, TextLength, TimeLength, StringLength}
use Rattle.strings.specs.declared.text.TextKind.{TextKind}
use Rattle.strings.specs.declared.text.TextKind.TheVariants.{Utf8, Numeric, Printable, Ia5, Visible, Bmp}
use Rattle.strings.specs.declared.time.TimeKind.{TimeKind}
use Rattle.strings.specs.declared.time.TimeKind.TheVariants.{Utc, Generalized}
use Rattle.strings.specs.Alphabet.{IsText, bmp_octets}
use Rattle.strings.specs.Time.{digits_of, year_digits, IsMoment, IsFraction, IsEnd, IsTime}

boolean_length : (v : Bool) (c : List ℕ) → IsBoolean ber v c → length c ≡ 1
boolean_length true c h = ap length h.is
boolean_length false c h = ap length h

pieces_length : (numbers : List ℕ) (pieces : List (List ℕ)) → All (λ n. n < 2 ^ 128) numbers → AllZip IsBase128 numbers pieces → (length numbers ≤ length (concat pieces)) × (length (concat pieces) ≤ 19 * length numbers)
pieces_length [] [] below each = (omega arith, omega arith)
pieces_length [] (p ∷ ps) below each = absurd each
pieces_length (n ∷ ns) [] below each = absurd each
pieces_length (n ∷ ns) (p ∷ ps) below each =
    let room : 2 ^ 128 ≤ 128 ^ 19 = omega arith in
    let first : n < 2 ^ 128 = All-head (λ m. m < 2 ^ 128) n ns below in
    let one = IsBase128-size n 19 p (omega arith) (omega arith) each.0 in
    let rest = pieces_length ns ps (All-tail (λ m. m < 2 ^ 128) n ns below) each.1 in
    let size : length (concat (p ∷ ps)) ≡ length p + length (concat ps) = length-append p (concat ps) in
    (omega (arith, one.0, rest.0, size), omega (arith, one.1, rest.1, size))

subidentifiers_length : (numbers c : List ℕ) → 1 ≤ length numbers → length numbers ≤ 128 → All (λ n. n < 2 ^ 128) numbers → AreSubidentifiers numbers c → (1 ≤ length c) × (length c ≤ 2432)
subidentifiers_length numbers c some few below h =
    let both = pieces_length numbers h.spellings below h.each in
    let size : length c ≡ length (concat h.spellings) = ap length h.joined in
    (omega (arith, both.0, size), omega (arith, both.1, size))

pub simple_length : (type : SimpleType) (v : SimpleValue) (c : List ℕ) → SimpleConforms type v → IsSimpleContents ber type v c → SimpleLength type (length c)
simple_length SimpleType.boolean (SimpleValue.boolean v) c conforms h = boolean_length h.truth c h.spelt
simple_length SimpleType.integer (SimpleValue.integer v) c conforms (inl h) =
    let same : v ≡ h.number = cc h.is in
    let few : length c ≤ 16 = at_most_sixteen_octets h.number c (subst (FitsSigned w128) same conforms) h.spelt in
    (h.spelt.at_least_one, omega (arith, few))
simple_length SimpleType.integer (SimpleValue.integer v) c conforms (inr is) = absurd (cc is)
simple_length SimpleType.integer (SimpleValue.wide_integer v) c conforms (inl h) = absurd (cc h.is)
simple_length SimpleType.integer (SimpleValue.wide_integer v) c conforms (inr is) =
    let same : v ≡ c = cc is in
    subst (λ x. (1 ≤ length x) × (length x ≤ 1_024)) same (conforms.spelt.at_least_one, conforms.within)
simple_length (SimpleType.enumerated numbers) (SimpleValue.enumerated v) c conforms h =
    let same : v ≡ h.number = cc h.is in
    (h.spelt.at_least_one, at_most_sixteen_octets h.number c (subst (FitsSigned w128) same conforms.1) h.spelt)
simple_length SimpleType.null SimpleValue.null c conforms h = ap length h.spelt
simple_length SimpleType.oid (SimpleValue.oid v) c conforms h =
    let arcs : v ≡ h.arcs = cc h.is in
    let same : h.spelt.numbers ≡ conforms.numbers = same_numbers v h.spelt.numbers conforms.numbers (subst (λ a. AreOfArcs a h.spelt.numbers) (sym arcs) h.spelt.of_arcs) conforms.of_arcs in
    let some : 1 ≤ length conforms.numbers = omega (arith, ap length conforms.of_arcs.numbers_are) in
    subidentifiers_length conforms.numbers c some conforms.within.few conforms.within.below (subst (λ n. AreSubidentifiers n c) same h.spelt.spelt)
simple_length SimpleType.relative_oid (SimpleValue.relative_oid v) c conforms h =
    let same : h.arcs ≡ v = cc h.is in
    subidentifiers_length v c conforms.at_least_one conforms.within.few conforms.within.below (subst (λ n. AreSubidentifiers n c) same h.spelt.spelt)
simple_length type v c conforms h = absurd conforms

bmp_length : (characters : List ℕ) → length (bmp_octets characters) ≡ 2 * length characters
bmp_length [] = refl
bmp_length (c ∷ characters) = let rest = bmp_length characters in omega (arith, rest)

text_length : (kind : TextKind) (c : List ℕ) → IsText kind c → TextLength kind (length c)
text_length Bmp c h = omega (arith, ap length h.spelt, bmp_length h.characters)
text_length Utf8 c h = tt
text_length Numeric c h = tt
text_length Printable c h = tt
text_length Ia5 c h = tt
text_length Visible c h = tt

digits_length : (count number : ℕ) → length (digits_of count number) ≡ count
digits_length zero number = refl
digits_length (suc count) number =
    let rest = digits_length count (number / 10) in
    omega (arith, rest, length-append (digits_of count (number / 10)) ((48 + number % 10) ∷ []))

moment_length : (kind : TimeKind) (m : List ℕ) → IsMoment kind m → length m ≡ year_digits kind + 10
moment_length kind m h =
    let a = digits_of (year_digits kind) h.year in
    let b = digits_of 2 h.month in
    let c = digits_of 2 h.day in
    let d = digits_of 2 h.hour in
    let e = digits_of 2 h.minute in
    let f = digits_of 2 h.second in
    omega (
      arith,
      ap length h.spelt,
      length-append (a ++ b ++ c ++ d ++ e) f,
      length-append (a ++ b ++ c ++ d) e,
      length-append (a ++ b ++ c) d,
      length-append (a ++ b) c,
      length-append a b,
      digits_length (year_digits kind) h.year,
      digits_length 2 h.month,
      digits_length 2 h.day,
      digits_length 2 h.hour,
      digits_length 2 h.minute,
      digits_length 2 h.second,
    )

fraction_length : (f : List ℕ) → IsFraction Generalized f → (length f ≡ 0) ⊎ ((2 ≤ length f) × (length f ≤ 13))
fraction_length f (inl h) = inl (ap length h)
fraction_length f (inr h) =
    let size : length f ≡ 1 + length h.0 = omega (arith, ap length h.2) in
    inr (omega (arith, size, h.1.at_least_one), omega (arith, size, h.1.at_most_12))

end_length : (kind : TimeKind) (r : List ℕ) → (h : IsEnd kind r) → length r ≡ length h.fraction + 1
end_length kind r h = ap length h.spelt ∙ length-append h.fraction (codes "Z")

time_length : (kind : TimeKind) (c : List ℕ) → IsTime kind c → TimeLength kind (length c)
time_length Utc c h =
    omega (arith, ap length h.spelt, length-append h.moment h.rest, moment_length Utc h.moment h.is_moment, end_length Utc h.rest h.is_end, ap length h.is_end.is_fraction)
time_length Generalized c h =
    let size : length c ≡ 15 + length h.is_end.fraction = omega (arith, ap length h.spelt, length-append h.moment h.rest, moment_length Generalized h.moment h.is_moment, end_length Generalized h.rest h.is_end) in
    elim (fraction_length h.is_end.fraction h.is_end.is_fraction) [
      | inl none ↦ inl (omega (arith, size, none))
      | inr some ↦ inr (omega (arith, size, some.0), omega (arith, size, some.1))
    ]

pub string_length : (type : StringType) (v : StringValue) (c : List ℕ) → StringConforms type v → IsStringContents ber type v c → StringLength type (length c)
string_length StringType.bit_string (StringValue.bits v) c conforms h = omega (arith, ap length h.spelt.contents_are)
string_length (StringType.named_bits names) (StringValue.bits v) c conforms h = omega (arith, ap length h.spelt.contents_are)
string_length StringType.octet_string (StringValue.octets v) c conforms h = tt
string_length (StringType.text kind) (StringValue.text v) c conforms h = let same : v ≡ c = cc h in subst (λ x. TextLength kind (length x)) same (text_length kind v conforms.1)
string_length (StringType.time kind) (StringValue.text v) c conforms h = let same : v ≡ c = cc h in subst (λ x. TimeLength kind (length x)) same (time_length kind v conforms.1)
string_length type v c conforms h = absurd conforms

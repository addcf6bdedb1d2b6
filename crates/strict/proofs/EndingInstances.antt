-- Octets that a caller may wait with, and octets behind which nothing makes them an encoding.
use Rattle.std.proofs.Common.{◌≡◌, inl, inr, ◌+◌, ◌<◌, ◌≤◌, ℕ, Bool, true, false, List, [], ◌∷◌, length, take, refl, sym, ap, ◌∙◌, subst, arith}
use Rattle.octets.specs.declared.canonical.Canonical.{Canonical}
use Rattle.octets.specs.declared.canonical.Canonical.TheVariants.{Cer, Der}
use Rattle.octets.specs.declared.TheConstants.{MAX_ENCODING}
use Rattle.octets.specs.declared.tag.Class.TheVariants.{Universal}
use Rattle.octets.specs.declared.tag.Tag.{Tag}
use Rattle.octets.specs.Digits.{number_of}
use Rattle.octets.specs.Front.{HasFront, Begins}
use Rattle.octets.specs.Identifier.{IsIdentifier, IsSomeIdentifier}
use Rattle.octets.specs.Length.{IsLength, IsSomeLength}
use Rattle.octets.proofs.FrontLemmas.{HasFront-from_parts}
use Rattle.octets.proofs.IdentifierLemmas.{identifier_unique}
use Rattle.octets.proofs.LengthLemmas.{length_unique, IsShortestLength-short, length_begins-nil, no_length-too_great, padded}
use Rattle.types.specs.Shape.{Shape, SimpleType, StringType}
use Rattle.types.proofs.NestingLemmas.{no_length-128}
use Rattle.encoding_parts.specs.Lengths.{CanHaveLength}
use Rattle.strict.proofs.ShortLemmas.{short_whole}
use Rattle.strict.specs.Begun.{IsPrimitiveBegun, IsConstructedBegun, IsFormBegun, IsTypeBegun, IsBegun}

abbrev universal : ℕ → Tag
universal number = record { class = Universal; number = number }

abbrev simple : ℕ → SimpleType → Shape
simple number type = Shape.simple (universal number) type

low_identifier : (number : ℕ) → number ≤ 30 → IsIdentifier (universal number) false (number ∷ [])
low_identifier number low =
    let same : number ≡ 0 + 0 + number = omega arith in
    inl (record { low = low; spelt = ap (λ n. n ∷ []) same })

short_length : (n : ℕ) → n < 128 → IsLength n (n ∷ [])
short_length n low = inl (record { low = low; spelt = refl })

begun : (rule : Canonical) (number : ℕ) (type : SimpleType) (others : List ℕ) → number ≤ 30 → IsPrimitiveBegun rule (simple number type) MAX_ENCODING 1 others → IsBegun rule (simple number type) MAX_ENCODING (number ∷ others)
begun rule number type others low h = inr record {
  tag = universal number;
  constructed = false;
  node = simple number type;
  due = (refl, refl);
  begun = record { identifier = number ∷ []; others = others; tagged = low_identifier number low; joined = refl; behind = (tt, h) };
}

-- 01 of BOOLEAN
pub identifier_alone : (rule : Canonical) → IsBegun rule (simple 1 SimpleType.boolean) MAX_ENCODING (1 ∷ [])
identifier_alone rule = begun rule 1 SimpleType.boolean [] (omega arith) (inl record { begins = length_begins-nil.1; none = length_begins-nil.0; fits = omega arith })

-- 01 01
pub head_alone : (rule : Canonical) → IsBegun rule (simple 1 SimpleType.boolean) MAX_ENCODING (1 ∷ 1 ∷ [])
head_alone rule = begun rule 1 SimpleType.boolean (1 ∷ []) (omega arith) (inr record {
  contents = 1;
  can = refl;
  whole = short_whole rule (simple 1 SimpleType.boolean) 1 (omega arith);
  begun = record {
    cut = record { size = 1 ∷ []; some = []; sized = short_length 1 (omega arith); joined = refl; fewer = omega arith; fits = omega arith };
    shortest = IsShortestLength-short 1 (omega arith);
  };
})

-- identifier octets that are complete are those of the type
identified : (rule : Canonical) (type : Shape) (number : ℕ) (others : List ℕ) → number ≤ 30 → IsBegun rule type MAX_ENCODING (number ∷ others) → IsTypeBegun rule type MAX_ENCODING (number ∷ others)
identified rule type number others low (inl h) = absurd (h.none (HasFront-from_parts IsSomeIdentifier (number ∷ []) others (number ∷ others) refl (record { tag = universal number; constructed = false; within = omega (arith, low); identifier = low_identifier number low })))
identified rule type number others low (inr h) = h

-- 02 and all that begins with it, of BOOLEAN
pub wrong_tag : (rule : Canonical) (others : List ℕ) → IsBegun rule (simple 1 SimpleType.boolean) MAX_ENCODING (2 ∷ others) → ⊥
wrong_tag rule others k =
    let h = identified rule (simple 1 SimpleType.boolean) 2 others (omega arith) k in
    let same = identifier_unique (universal 2) h.tag false h.constructed (2 ∷ []) h.begun.identifier others h.begun.others (low_identifier 2 (omega arith)) h.begun.tagged h.begun.joined in
    let both : universal 2 ≡ universal 1 = same.tag ∙ sym h.due.0 in
    let number : 2 ≡ 1 = ap (λ (t : Tag). t.number) both in
    absurd (omega (arith, number))

-- behind a length in the short form
primitive : (rule : Canonical) (node : Shape) (room taken n : ℕ) (some octets : List ℕ) → n < 128 → octets ≡ n ∷ some → IsPrimitiveBegun rule node room taken octets → CanHaveLength node n × (length some < n)
primitive rule node room taken n some octets low is (inl h) = absurd (h.none (HasFront-from_parts IsSomeLength (n ∷ []) some octets is (inl (n, omega (arith, low), short_length n low))))
primitive rule node room taken n some octets low is (inr h) =
    let cut = h.begun.cut in
    let same = length_unique n h.contents (n ∷ []) cut.size some cut.some (short_length n low) cut.sized (sym is ∙ cut.joined) in
    (subst (CanHaveLength node) (sym same.value) h.can, omega (arith, same.value, cut.fewer, ap length same.rest))

of_form : (rule : Canonical) (node : Shape) (constructed : Bool) (room taken : ℕ) (octets : List ℕ) → false ≡ constructed → IsFormBegun rule node constructed room taken octets → IsPrimitiveBegun rule node room taken octets
of_form rule node true room taken octets form h = absurd (cc form)
of_form rule node false room taken octets form h = h.1

pub of_length : (rule : Canonical) (number n : ℕ) (type : SimpleType) (some : List ℕ) → number ≤ 30 → n < 128 → IsBegun rule (simple number type) MAX_ENCODING (number ∷ n ∷ some) → CanHaveLength (simple number type) n × (length some < n)
of_length rule number n type some low short k =
    let h = identified rule (simple number type) number (n ∷ some) low k in
    let b = h.begun in
    let same = identifier_unique (universal number) h.tag false h.constructed (number ∷ []) b.identifier (n ∷ some) b.others (low_identifier number low) b.tagged b.joined in
    let p = of_form rule h.node h.constructed MAX_ENCODING (length b.identifier) b.others same.form b.behind in
    primitive rule (simple number type) MAX_ENCODING (length b.identifier) n some b.others short (sym same.rest) (subst (λ node. IsPrimitiveBegun rule node MAX_ENCODING (length b.identifier) b.others) h.due.1 p)

-- 01 02 of BOOLEAN
pub wrong_length : (rule : Canonical) → IsBegun rule (simple 1 SimpleType.boolean) MAX_ENCODING (1 ∷ 2 ∷ []) → ⊥
wrong_length rule h = let is : 2 ≡ 1 = (of_length rule 1 2 SimpleType.boolean [] (omega arith) (omega arith) h).0 in absurd (omega (arith, is))

-- 02 00 of INTEGER
pub empty_integer : (rule : Canonical) → IsBegun rule (simple 2 SimpleType.integer) MAX_ENCODING (2 ∷ 0 ∷ []) → ⊥
empty_integer rule h = let few = (of_length rule 2 0 SimpleType.integer [] (omega arith) (omega arith) h).1 in absurd (omega (arith, few))

-- 01 01 FF of BOOLEAN, which is a whole encoding
pub whole_value : (rule : Canonical) → IsBegun rule (simple 1 SimpleType.boolean) MAX_ENCODING (1 ∷ 1 ∷ 255 ∷ []) → ⊥
whole_value rule h = let few = (of_length rule 1 1 SimpleType.boolean (255 ∷ []) (omega arith) (omega arith) h).1 in absurd (omega (arith, few))

-- 04 85 01 00 00 00 00 of OCTET STRING: a length above 1,048,576
abbrev octet_string : Shape
octet_string = Shape.string (universal 4) StringType.octet_string

abbrev digits : List ℕ
digits = 1 ∷ 0 ∷ 0 ∷ 0 ∷ 0 ∷ []

no_length : (HasFront IsSomeLength (133 ∷ digits) → ⊥) × (Begins IsSomeLength (133 ∷ digits) → ⊥)
no_length =
    let value : number_of 256 (take 4 (padded 5 digits)) ≡ 16_777_216 = refl in
    no_length-too_great 5 4 digits (omega arith) (omega arith) (omega (arith, value))

none_behind : (rule : Canonical) (room taken : ℕ) (octets : List ℕ) → room ≤ MAX_ENCODING → octets ≡ 133 ∷ digits → IsPrimitiveBegun rule octet_string room taken octets → ⊥
none_behind rule room taken octets within is (inl h) = no_length.1 (subst (Begins IsSomeLength) is h.begins)
none_behind rule room taken octets within is (inr h) =
    let cut = h.begun.cut in
    no_length.0 (HasFront-from_parts IsSomeLength cut.size cut.some (133 ∷ digits) (sym is ∙ cut.joined) (inl (h.contents, omega (arith, within, cut.fits), cut.sized)))

pub too_long : (rule : Canonical) → IsBegun rule octet_string MAX_ENCODING (4 ∷ 133 ∷ digits) → ⊥
too_long rule k =
    let h = identified rule octet_string 4 (133 ∷ digits) (omega arith) k in
    let b = h.begun in
    let same = identifier_unique (universal 4) h.tag false h.constructed (4 ∷ []) b.identifier (133 ∷ digits) b.others (low_identifier 4 (omega arith)) b.tagged b.joined in
    let p = of_form rule h.node h.constructed MAX_ENCODING (length b.identifier) b.others same.form b.behind in
    none_behind rule MAX_ENCODING (length b.identifier) b.others (omega arith) (sym same.rest) (subst (λ node. IsPrimitiveBegun rule node MAX_ENCODING (length b.identifier) b.others) h.due.1 p)

-- behind the identifier octets of a constructed encoding, 80 calls for more under CER and never under DER
pub indefinite : (others : List ℕ) → 1 + length (128 ∷ others) < MAX_ENCODING → IsConstructedBegun Cer MAX_ENCODING 1 (128 ∷ others)
indefinite others fits = inr (others, refl, fits)

pub no_indefinite : (others : List ℕ) → IsConstructedBegun Der MAX_ENCODING 1 (128 ∷ others) → ⊥
no_indefinite others (inl h) = h.none (HasFront-from_parts IsSomeLength (128 ∷ []) others (128 ∷ others) refl (inr refl))
no_indefinite others (inr h) = no_length-128 h.0 h.1.cut.size h.1.cut.some others h.1.cut.sized h.1.cut.joined

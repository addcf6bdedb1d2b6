-- Lemmas on the segments of octets.
use Rattle.std.proofs.Common.{◌≡◌, ℕ, ◌+◌, ◌*◌, ◌-◌, ◌/◌, ◌^◌, ◌≤◌, ◌⊎◌, inl, inr, take, drop, List, zero, suc, [], ◌∷◌, ◌++◌, true, false, length, refl, ap, subst, arith, length-append}
use Rattle.std.proofs.lemmas.Bool.{cases_lt}
use Rattle.std.proofs.lemmas.List.{take-append-drop, length-take-le, length-drop}
use Rattle.octets.specs.declared.TheConstants.{MAX_TAG_NUMBER}
use Rattle.octets.specs.declared.tag.Tag.{Tag}
use Rattle.octets.specs.Length.{IsShortestLength}
use Rattle.octets.specs.Rule.{cer}
use Rattle.octets.proofs.IdentifierOctetsLemmas.{IsIdentifier-size_low, identifier}
use Rattle.octets.proofs.SizeLemmas.{long_length_size}
use Rattle.types.specs.Form.{IsPrimitive}
use Rattle.types.proofs.FormLemmas.{length-definite}
use Rattle.canon.proofs.PrimitiveLemmas.{primitive_exists}
use Rattle.canon.specs.Segments.{AreSegmentsOf, IsCutOf, IsWholeString, IsCutString}

-- how many octets a full segment has
full_segment : (segment : Tag) (contents octets : List ℕ) → segment.number ≤ 30 → length contents ≡ 1000 → IsPrimitive cer segment contents octets → length octets ≡ 1004
full_segment segment contents octets low full p =
    let whole = length-definite cer segment false contents octets p in
    let first = IsIdentifier-size_low segment false p.identifier low p.tagged in
    let sized : IsShortestLength 1000 p.size = subst (λ n. IsShortestLength n p.size) full p.sized in
    let second : length p.size ≡ 1 + 2 = long_length_size 1000 1 p.size (omega arith) (omega arith) (omega arith) (omega arith) sized in
    omega (arith, whole, first, second, full)

-- full segments and the last, where `room` is how many octets of the string a segment has at most
pub record AreCounted (lead : List ℕ) (room : ℕ) (string octets : List ℕ) : Type 0 where
  pub full : ℕ
  pub last : ℕ
  pub size : List ℕ
  pub at_least_one : 1 ≤ last
  pub at_most : length lead + last ≤ 1000
  pub string_is : length string ≡ full * room + last
  pub sized : IsShortestLength (length lead + last) size
  pub octets_are : length octets ≡ full * 1004 + (1 + length size + (length lead + last))

pub counted : (segment : Tag) (whole lead : List ℕ) (room : ℕ) (string octets : List ℕ) → segment.number ≤ 30 → length whole ≡ length lead → room + length lead ≡ 1000 → AreSegmentsOf segment whole lead string octets → AreCounted lead room string octets
counted segment whole lead room string octets low same full (AreSegmentsOf.last s b some few p) =
    let count = length-append lead s in
    let first = IsIdentifier-size_low segment false p.identifier low p.tagged in
    record {
      full = 0;
      last = length s;
      size = p.size;
      at_least_one = some;
      at_most = omega (arith, few, count);
      string_is = omega arith;
      sized = subst (λ n. IsShortestLength n p.size) count p.sized;
      octets_are = omega (arith, length-definite cer segment false (lead ++ s) b p, first, count);
    }
counted segment whole lead room string octets low same full (AreSegmentsOf.more {others = others} {rest = rest} s b here p later) =
    let k = counted segment whole lead room others rest low same full later in
    let one : length s ≡ room = omega (arith, here, length-append whole s, same, full) in
    record {
      full = k.full + 1;
      last = k.last;
      size = k.size;
      at_least_one = k.at_least_one;
      at_most = k.at_most;
      string_is = omega (arith, length-append s others, one, k.string_is);
      sized = k.sized;
      octets_are = omega (arith, length-append b rest, full_segment segment (whole ++ s) b low here p, k.octets_are);
    }

-- how many of the segments are full
pub full_count : (lead n full last : ℕ) → lead ≤ 1 → 1 ≤ last → lead + last ≤ 1000 → n ≡ full * (1000 - lead) + last → (n - 1) / (1000 - lead) ≡ full
full_count zero n full last low some few is = omega (arith, is)
full_count (suc zero) n full last low some few is = omega (arith, is)
full_count (suc (suc lead)) n full last low some few is = absurd (omega arith)

-- and how many octets the last one has
pub last_count : (lead n q full last room : ℕ) → q ≡ full → n ≡ full * room + last → lead + n - q * room ≡ lead + last
last_count lead n q full last room same is =
    let product : q * room ≡ full * room = ap (λ x. x * room) same in
    omega (arith, product, is)

-- the segments have no fewer octets than the string
pub segments_longer : (segment : Tag) (whole lead string octets : List ℕ) → AreSegmentsOf segment whole lead string octets → length string ≤ length octets
segments_longer segment whole lead string octets (AreSegmentsOf.last s b some few p) = omega (arith, length-definite cer segment false (lead ++ s) b p, length-append lead s)
segments_longer segment whole lead string octets (AreSegmentsOf.more {others = others} {rest = rest} s b here p later) =
    omega (arith, length-definite cer segment false (whole ++ s) b p, length-append whole s, length-append s others, length-append b rest, segments_longer segment whole lead others rest later)

pub cut_longer : (tag segment : Tag) (whole lead string octets : List ℕ) → IsCutOf tag segment whole lead string octets → length string ≤ length octets
cut_longer tag segment whole lead string octets h =
    omega (arith, segments_longer segment whole lead string h.segments_octets h.segments, ap length h.constructed.joined, length-append h.constructed.identifier (128 ∷ (h.segments_octets ++ (0 ∷ 0 ∷ []))), length-append h.segments_octets (0 ∷ 0 ∷ []))

pub segments_some : (segment : Tag) (whole lead string octets : List ℕ) → AreSegmentsOf segment whole lead string octets → 1 ≤ length string
segments_some segment whole lead string octets (AreSegmentsOf.last s b some few p) = some
segments_some segment whole lead string octets (AreSegmentsOf.more {others = others} {rest = rest} s b here p later) = omega (arith, length-append s others, segments_some segment whole lead others rest later)

-- octets have segments
pub segments_exist : (most : ℕ) (segment : Tag) (whole lead : List ℕ) (room : ℕ) (string : List ℕ) → length string ≤ most → segment.number ≤ 30 → length whole ≡ length lead → length lead ≤ 1 → room + length lead ≡ 1000 → 1 ≤ length string
    → (octets : List ℕ) × AreSegmentsOf segment whole lead string octets
segments_exist zero segment whole lead room string fits low same small full some = absurd (omega (arith, fits, some))
segments_exist (suc most) segment whole lead room string fits low same small full some =
    let wide : 2 ^ 64 ≡ 18446744073709551616 = refl in
    elim (cases_lt room (length string)) [
      | inl longer ↦
          let before = take room string in
          let after = drop room string in
          let size : length before ≡ room = length-take-le room string (omega arith) in
          let count = length-drop room string in
          let rest = segments_exist most segment whole lead room after (omega (arith, count, full, small)) low same small full (omega (arith, count)) in
          let here : length (whole ++ before) ≡ 1000 = omega (arith, length-append whole before, size, same, full) in
          let p = primitive_exists segment (whole ++ before) (omega arith) (omega (arith, here, wide)) in
          (p.0 ++ rest.0, subst (λ s. AreSegmentsOf segment whole lead s (p.0 ++ rest.0)) (take-append-drop room string) (AreSegmentsOf.more before p.0 here p.1 rest.1))
      | inr few ↦
          let short : length (lead ++ string) ≤ 1000 = omega (arith, length-append lead string, full) in
          let p = primitive_exists segment (lead ++ string) (omega arith) (omega (arith, short, wide)) in
          (p.0, AreSegmentsOf.last string p.0 some short p.1)
    ]

pub cut_exists : (tag segment : Tag) (whole lead string : List ℕ) → tag.number ≤ MAX_TAG_NUMBER → segment.number ≤ 30 → length whole ≡ length lead → length lead ≤ 1 → 1 ≤ length string → (octets : List ℕ) × IsCutOf tag segment whole lead string octets
cut_exists tag segment whole lead string kept low same small some =
    let room : 1000 - length lead + length lead ≡ 1000 = omega arith in
    let segments = segments_exist (length string) segment whole lead (1000 - length lead) string (omega arith) low same small room some in
    let head = identifier tag true kept in
    (head.0 ++ (128 ∷ (segments.0 ++ (0 ∷ 0 ∷ []))), record { segments_octets = segments.0; segments = segments.1; constructed = record { identifier = head.0; tagged = head.1; joined = refl } })

-- a string has an encoding
pub string_exists : (tag segment : Tag) (whole lead string : List ℕ) → tag.number ≤ MAX_TAG_NUMBER → segment.number ≤ 30 → length whole ≡ length lead → length lead ≤ 1
    → (octets : List ℕ) × (IsWholeString tag lead string octets ⊎ IsCutString tag segment whole lead string octets)
string_exists tag segment whole lead string kept low same small =
    let wide : 2 ^ 64 ≡ 18446744073709551616 = refl in
    elim (cases_lt 1000 (length (lead ++ string))) [
      | inl long ↦
          let cut = cut_exists tag segment whole lead string kept low same small (omega (arith, length-append lead string, long)) in
          (cut.0, inr (record { long = long; cut = cut.1 }))
      | inr short ↦
          let p = primitive_exists tag (lead ++ string) kept (omega (arith, short, wide)) in
          (p.0, inl (record { short = short; primitive = p.1 }))
    ]

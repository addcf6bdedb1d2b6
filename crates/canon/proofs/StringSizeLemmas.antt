-- Lemmas on how many octets encodings of strings have.
use Rattle.std.proofs.Common.{◌≡◌, ◌≤◌, ◌<◌, ◌^◌, ℕ, List, ◌++◌, false, inl, inr, length, min, refl, arith, length-append}
use Rattle.octets.specs.declared.canonical.Canonical.{Canonical}
use Rattle.octets.specs.declared.canonical.Canonical.TheVariants.{Cer, Der}
use Rattle.octets.specs.declared.TheConstants.{MAX_TAG_NUMBER}
use Rattle.octets.specs.declared.tag.Tag.{Tag}
use Rattle.octets.specs.Rule.{cer, der, rule_of}
use Rattle.types.specs.Form.{IsPrimitive}
use Rattle.types.proofs.CanonicalLemmas.{primitive_by_der}
use Rattle.types.proofs.FormLemmas.{length-definite}
use Rattle.canon.specs.Size.{HasSize}
use Rattle.canon.specs.Segments.{IsCutOf, IsStringOf}
use Rattle.canon.proofs.PrimitiveLemmas.{primitive_exists}
use Rattle.canon.proofs.SegmentLemmas.{cut_exists, cut_longer}

-- what `size_of_definite` says of primitive encodings
abbrev pub SizesPrimitive : Tag → ℕ → ℕ → Type 0
SizesPrimitive tag contents size = (inside octets : List ℕ) → contents ≡ min (length inside) 1_048_577 → IsPrimitive der tag inside octets → size ≡ min (length octets) 1_048_577

-- a string of more octets than the limit has no encoding within it
pub long_string_size : (rule : Canonical) (tag segment : Tag) (whole lead string : List ℕ) → 1_048_576 < length string → HasSize (IsStringOf (rule_of rule) tag segment whole lead string) 1_048_577
long_string_size Cer tag segment whole lead string long = record {
  each = λ octets h.
      elim h [
        | inl w ↦ omega (arith, w.short, length-append lead string)
        | inr w ↦ omega (arith, cut_longer tag segment whole lead string octets w.cut)
      ];
  there = λ within. absurd (omega (arith, within));
}
long_string_size Der tag segment whole lead string long = record {
  each = λ octets h. omega (arith, length-definite der tag false (lead ++ string) octets h, length-append lead string);
  there = λ within. absurd (omega (arith, within));
}

pub primitive_string_size : (tag segment : Tag) (whole lead string : List ℕ) (size : ℕ) → tag.number ≤ MAX_TAG_NUMBER → length (lead ++ string) < 2 ^ 64 → SizesPrimitive tag (min (length (lead ++ string)) 1_048_577) size
    → HasSize (IsStringOf der tag segment whole lead string) size
primitive_string_size tag segment whole lead string size kept few sizes = record {
  each = λ octets h. sizes (lead ++ string) octets refl h;
  there = λ within. let p = primitive_exists tag (lead ++ string) kept few in (p.0, primitive_by_der tag (lead ++ string) p.0 p.1);
}

pub short_string_size : (tag segment : Tag) (whole lead string : List ℕ) (size : ℕ) → tag.number ≤ MAX_TAG_NUMBER → length (lead ++ string) ≤ 1000 → SizesPrimitive tag (length (lead ++ string)) size
    → HasSize (IsStringOf cer tag segment whole lead string) size
short_string_size tag segment whole lead string size kept short sizes = record {
  each = λ octets h.
      elim h [
        | inl w ↦ sizes (lead ++ string) octets (omega (arith, short)) (primitive_by_der tag (lead ++ string) octets w.primitive)
        | inr w ↦ absurd (omega (arith, w.long, short))
      ];
  there = λ within.
      let wide : 2 ^ 64 ≡ 18446744073709551616 = refl in
      let p = primitive_exists tag (lead ++ string) kept (omega (arith, short, wide)) in
      (p.0, inl (record { short = short; primitive = p.1 }));
}

pub cut_string_size : (tag segment : Tag) (whole lead string : List ℕ) (size : ℕ) → tag.number ≤ MAX_TAG_NUMBER → segment.number ≤ 30 → length whole ≡ length lead → length lead ≤ 1 → 1000 < length (lead ++ string)
    → ((octets : List ℕ) → IsCutOf tag segment whole lead string octets → length octets ≡ size) → HasSize (IsStringOf cer tag segment whole lead string) (min size 1_048_577)
cut_string_size tag segment whole lead string size kept low same small long sizes = record {
  each = λ octets h.
      elim h [
        | inl w ↦ absurd (omega (arith, w.short, long))
        | inr w ↦ omega (arith, sizes octets w.cut)
      ];
  there = λ within.
      let cut = cut_exists tag segment whole lead string kept low same small (omega (arith, long, length-append lead string)) in
      (cut.0, inr (record { long = long; cut = cut.1 }));
}

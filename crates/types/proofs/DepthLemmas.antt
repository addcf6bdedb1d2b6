-- Lemmas on how deep encodings nest.
use Rattle.std.proofs.Common.{◌≡◌, ◌≤◌, inl, inr, ℕ, zero, suc, false, replicate, List, [], ◌∷◌, ◌++◌, Option, Some, None, refl, sym, ap, subst, arith, append-nil}
use Rattle.std.specs.List.{AllByRecursion, concat}
use Rattle.octets.specs.declared.tag.Tag.{Tag}
use Rattle.octets.specs.Rule.{Rule, ber, cer, der, IsCanonical}
use Rattle.primitives.specs.Bits.{IsBits}
use Rattle.types.specs.Shape.{StringType, Val, Slots, no_slot, absent, present, listed, Requirement, required, optional, default, Shape, Components, no_component, component, Alternatives, no_alternative, alternative}
use Rattle.types.specs.FirstTags.{IsUsable, HasDistinctTags}
use Rattle.types.specs.WellFormed.{nodes_of, nodes_of_components, nodes_of_alternatives, levels_of, levels_of_components, levels_of_alternatives}
use Rattle.types.specs.Form.{IsPrimitive, IsConstructed}
use Rattle.types.specs.Depth.{IsNested}
use Rattle.types.specs.Strings.{AreCerSegments, IsStringEncoding, bit_segment, octet_segment, IsWholeOctets, AreOctets, AlwaysWhole}
use Rattle.types.specs.Encoding.{Meaning, IsEncodingOfString, standing, StandsForAbsent, IsEncoding, AreSlotEncodings, IsAlternativeEncoding}
use Rattle.types.specs.Laws.{CanonicalEncodingsAreBer}
use Rattle.types.proofs.CanonicalLemmas.{primitive_by_ber, nested_primitive}
use Rattle.types.proofs.BerLemmas.{constructed_by_ber, encoding_by_ber}
use Rattle.types.proofs.ListLemmas.{all_append}
use Rattle.types.proofs.BeginningLemmas.{all_zip, all_permutation, explicit_parts}

-- a constructed encoding nests one more than its parts
pub nested_around : (rule : Rule) (n : ℕ) (tag : Tag) (parts : List (List ℕ)) (octets : List ℕ) → IsUsable tag → AllByRecursion (IsNested n) parts → IsConstructed rule tag (concat parts) octets → IsNested (suc n) octets
unfolding IsNested
nested_around rule n tag parts octets usable each h = inr record { tag = tag; usable = usable; parts = parts; each = each; whole = constructed_by_ber rule tag (concat parts) octets h }

pub nested_one : (rule : Rule) (n : ℕ) (tag : Tag) (contents octets : List ℕ) → IsUsable tag → IsPrimitive rule tag contents octets → IsNested n octets
nested_one rule n tag contents octets usable h = nested_primitive n octets record { tag = tag; usable = usable; contents = contents; whole = primitive_by_ber rule tag contents octets h }

-- the segments of CER
pub record AreParts (IsPart : List ℕ → Type 0) (octets : List ℕ) : Type 0 where
  pub parts : List (List ℕ)
  pub each : AllByRecursion IsPart parts
  pub whole : concat parts ≡ octets

module _ {A : Type 0} (inner : Tag) (usable : IsUsable inner) (Holds : List A → List ℕ → Type 0) (Whole : List A → Type 0) where
  segments_nested : (n : ℕ) (string : List A) (octets : List ℕ) → AreCerSegments inner Holds Whole string octets → AreParts (IsNested n) octets
  segments_nested n string octets (AreCerSegments.last piece contents segment holds some few primitive) =
      record { parts = segment ∷ []; each = (nested_one cer n inner contents segment usable primitive, tt); whole = append-nil segment }
  segments_nested n string octets (AreCerSegments.more {others = others} {rest = rest} piece contents segment holds whole full primitive following) =
      let next = segments_nested n others rest following in
      record { parts = segment ∷ next.parts; each = (nested_one cer n inner contents segment usable primitive, next.each); whole = ap (λ x. segment ++ x) next.whole }

  pub string_nested : (rule : Rule) (n : ℕ) (tag : Tag) (string : List A) (octets : List ℕ) → IsCanonical rule → IsUsable tag → IsStringEncoding rule tag inner Holds Whole string octets → IsNested (suc n) octets
  string_nested ber n tag string octets canonical u h = absurd (canonical refl)
  string_nested cer n tag string octets canonical u (inl h) = nested_one cer (suc n) tag h.contents octets u h.primitive
  string_nested cer n tag string octets canonical u (inr h) =
      let row = segments_nested n string h.segments_octets h.segments in
      nested_around cer n tag row.parts octets u row.each (subst (λ x. IsConstructed cer tag x octets) (sym row.whole) h.constructed)
  string_nested der n tag string octets canonical u h = nested_one der (suc n) tag h.contents octets u h.primitive

pub string_encoding_nested : (rule : Rule) (n : ℕ) (tag : Tag) (type : StringType) (v : Val) (octets : List ℕ) → IsCanonical rule → IsUsable tag → IsEncodingOfString rule tag type v octets → IsNested (suc n) octets
string_encoding_nested rule n tag StringType.bit_string v octets canonical u h = string_nested bit_segment (λ class. omega arith) (IsBits rule) IsWholeOctets rule n tag h.bits octets canonical u h.string
string_encoding_nested rule n tag (StringType.named_bits names) v octets canonical u h = string_nested bit_segment (λ class. omega arith) (IsBits rule) IsWholeOctets rule n tag (h.bits ++ replicate h.zeros false) octets canonical u h.string
string_encoding_nested rule n tag StringType.octet_string v octets canonical u h = string_nested octet_segment (λ class. omega arith) AreOctets AlwaysWhole rule n tag h.string_octets octets canonical u h.string
string_encoding_nested rule n tag (StringType.text kind) v octets canonical u h = string_nested octet_segment (λ class. omega arith) AreOctets AlwaysWhole rule n tag h.string_octets octets canonical u h.string
string_encoding_nested rule n tag (StringType.time kind) v octets canonical u h = string_nested octet_segment (λ class. omega arith) AreOctets AlwaysWhole rule n tag h.string_octets octets canonical u h.string

-- a canonical encoding has nothing for an absent component
pub absent_is_none : (rule : Rule) (requirement : Requirement) (P : Meaning) (encoding : Option (List ℕ)) → IsCanonical rule → StandsForAbsent rule requirement P encoding → encoding ≡ None
absent_is_none rule required P encoding canonical h = elim h [ ]
absent_is_none rule optional P encoding canonical h = h
absent_is_none ber (default value) P encoding canonical h = absurd (canonical refl)
absent_is_none cer (default value) P encoding canonical h = h
absent_is_none der (default value) P encoding canonical h = h

mutual
  -- a canonical encoding nests at most one more than its type has levels
  pub canonical_nested : (rule : Rule) (shape : Shape) (v : Val) (octets : List ℕ) (n : ℕ) → IsCanonical rule → AllByRecursion HasDistinctTags (nodes_of shape) → levels_of shape ≤ n → IsEncoding rule shape v octets → IsNested (suc n) octets
  canonical_nested rule (Shape.simple tag type) v octets n canonical tags levels h = nested_one rule (suc n) tag h.contents octets tags.0 h.primitive
  canonical_nested rule (Shape.string tag type) v octets n canonical tags levels h = string_encoding_nested rule n tag type v octets canonical tags.0 h
  canonical_nested rule (Shape.sequence tag components) v octets zero canonical tags levels h = absurd (omega arith)
  canonical_nested rule (Shape.sequence tag components) v octets (suc n) canonical tags levels h =
      nested_around rule (suc n) tag (standing h.encodings) octets tags.0.0 (slots_nested rule components h.slots h.encodings n canonical tags.1 (omega arith) h.each) h.whole
  canonical_nested rule (Shape.set tag components) v octets zero canonical tags levels h = absurd (omega arith)
  canonical_nested rule (Shape.set tag components) v octets (suc n) canonical tags levels h =
      nested_around rule (suc n) tag h.order octets tags.0.0 (all_permutation (IsNested (suc n)) (standing h.encodings) h.order h.permutes (slots_nested rule components h.slots h.encodings n canonical tags.1 (omega arith) h.each)) h.whole
  canonical_nested rule (Shape.sequence_of tag type) v octets zero canonical tags levels h = absurd (omega arith)
  canonical_nested rule (Shape.sequence_of tag type) v octets (suc n) canonical tags levels h =
      nested_around rule (suc n) tag h.encodings octets tags.0 (all_zip (IsEncoding rule type) (IsNested (suc n)) (λ w part k. canonical_nested rule type w part n canonical tags.1 (omega arith) k) (listed h.items) h.encodings h.each) h.whole
  canonical_nested rule (Shape.set_of tag type) v octets zero canonical tags levels h = absurd (omega arith)
  canonical_nested rule (Shape.set_of tag type) v octets (suc n) canonical tags levels h =
      nested_around rule (suc n) tag h.order octets tags.0 (all_permutation (IsNested (suc n)) h.encodings h.order h.permutes (all_zip (IsEncoding rule type) (IsNested (suc n)) (λ w part k. canonical_nested rule type w part n canonical tags.1 (omega arith) k) (listed h.items) h.encodings h.each)) h.whole
  canonical_nested rule (Shape.choice alternatives) v octets n canonical tags levels h = alternative_nested rule alternatives h.which h.value octets n canonical tags.1 levels h.chosen
  canonical_nested rule (Shape.explicit tag type) v octets zero canonical tags levels h = absurd (omega arith)
  canonical_nested rule (Shape.explicit tag type) v octets (suc n) canonical tags levels h =
      nested_around rule (suc n) tag (h.inner ∷ []) octets tags.0 (canonical_nested rule type v h.inner n canonical tags.1 (omega arith) h.encodes, tt) (explicit_parts rule tag h.inner octets h.whole)

  slots_nested : (rule : Rule) (components : Components) (slots : Slots) (encodings : List (Option (List ℕ))) (n : ℕ) → IsCanonical rule → AllByRecursion HasDistinctTags (nodes_of_components components) → levels_of_components components ≤ n → AreSlotEncodings rule components slots encodings → AllByRecursion (IsNested (suc n)) (standing encodings)
  slots_nested rule no_component no_slot [] n canonical tags levels h = tt
  slots_nested rule (component name type requirement others) (absent slots) (None ∷ encodings) n canonical tags levels h =
      let parts = all_append HasDistinctTags (nodes_of type) (nodes_of_components others) tags in
      slots_nested rule others slots encodings n canonical parts.1 (omega arith) h.1
  slots_nested rule (component name type requirement others) (absent slots) (Some octets ∷ encodings) n canonical tags levels h =
      let none : Some octets ≡ None = absent_is_none rule requirement (IsEncoding rule type) (Some octets) canonical h.0 in cc
  slots_nested rule (component name type requirement others) (present value slots) (Some octets ∷ encodings) n canonical tags levels h =
      let parts = all_append HasDistinctTags (nodes_of type) (nodes_of_components others) tags in
      (canonical_nested rule type value octets n canonical parts.0 (omega arith) h.0, slots_nested rule others slots encodings n canonical parts.1 (omega arith) h.2)
  slots_nested rule components slots encodings n canonical tags levels h = elim h [ ]

  alternative_nested : (rule : Rule) (alternatives : Alternatives) (which : ℕ) (v : Val) (octets : List ℕ) (n : ℕ) → IsCanonical rule → AllByRecursion HasDistinctTags (nodes_of_alternatives alternatives) → levels_of_alternatives alternatives ≤ n → IsAlternativeEncoding rule alternatives which v octets → IsNested (suc n) octets
  alternative_nested rule no_alternative which v octets n canonical tags levels h = elim h [ ]
  alternative_nested rule (alternative name type others) zero v octets n canonical tags levels h =
      canonical_nested rule type v octets n canonical (all_append HasDistinctTags (nodes_of type) (nodes_of_alternatives others) tags).0 (omega arith) h
  alternative_nested rule (alternative name type others) (suc which) v octets n canonical tags levels h =
      alternative_nested rule others which v octets n canonical (all_append HasDistinctTags (nodes_of type) (nodes_of_alternatives others) tags).1 (omega arith) h

pub canonical_are_ber : CanonicalEncodingsAreBer
canonical_are_ber rule shape v octets well canonical h =
    record { encoding = encoding_by_ber rule shape v octets h; depth = canonical_nested rule shape v octets 60 canonical well.tags well.limits.levels h }

-- Lemmas on what stands at the front: a tag, or the end of contents octets.
use Rattle.std.proofs.Common.{◌≡◌, ◌↔◌, ℕ, ◌≤◌, inl, inr, List, ◌∷◌, ◌++◌, Bool, true, false, Option, Some, None, IsTrue, Contains, MatchOption, length, take, drop, refl, sym, ◌∙◌, ap, subst, arith, append_assoc, length-append}
use Rattle.std.proofs.lemmas.List.{length-take-le, take-append-drop}
use Rattle.octets.specs.declared.canonical.Canonical.{Canonical}
use Rattle.octets.specs.declared.canonical.Canonical.TheVariants.{Cer, Der}
use Rattle.octets.specs.declared.tag.Tag.{Tag}
use Rattle.octets.specs.Identifier.{IsIdentifier}
use Rattle.octets.specs.Rule.{Rule, IsCanonical, rule_of}
use Rattle.octets.proofs.IdentifierLemmas.{identifier_unique}
use Rattle.types.specs.Shape.{Shape}
use Rattle.types.specs.FirstTags.{first_tags}
use Rattle.types.specs.Order.{BeginsWith, BeginsWithOneOf}
use Rattle.types.proofs.BeginningLemmas.{encoding_begins}
use Rattle.types.proofs.FirstTagLemmas.{tag_within}
use Rattle.encoding_parts.specs.Head.{IsTagWithin, IsReadTag}
use Rattle.encoding_parts.specs.Parts.{IsGoodType}
use Rattle.encoding_parts.specs.Segments.{BeginsAboveZero}
use Rattle.strict.specs.Head.{EndsHere}
use Rattle.strict.specs.Components.{IsFront, EndsOrBegins}
use Rattle.strict.specs.Reading.{HasPart}
use Rattle.strict.proofs.PartLemmas.{one_of, one_begins}

pub canonical_of : (rule : Canonical) → IsCanonical (rule_of rule)
canonical_of Cer = λ same. cc
canonical_of Der = λ same. cc

-- an encoding of the type can begin here
pub record BeginsPart (type : Shape) (room : ℕ) (octets : List ℕ) : Type 0 where
  pub tag : Tag
  pub first : Contains (first_tags type) tag
  pub head : IsTagWithin tag room 0 octets

-- whether an encoding that begins here begins as those of the type, whatever follows
abbrev pub IsStandingKnown : Bool → Shape → Bool → ℕ → List ℕ → Type 0
IsStandingKnown true type definite room octets = BeginsPart type room octets × ((more : List ℕ) → EndsHere definite room (octets ++ more) → ⊥)
IsStandingKnown false type definite room octets = (more : List ℕ) → BeginsPart type room (octets ++ more) → BeginsAboveZero (octets ++ more) → ⊥

-- a tag that was read stands there
pub tag_read : (tag : Tag) (constructed : Bool) (room used : ℕ) (octets : List ℕ) → IsReadTag tag room 0 octets constructed used → IsTagWithin tag room 0 octets
tag_read tag constructed room used octets read =
    record { constructed = constructed; identifier = take used octets; rest = drop used octets; tagged = read.tagged; fits = omega (arith, read.fits, length-take-le used octets read.there); parts = sym (take-append-drop used octets) }

-- and no other
pub same_tag : (t u : Tag) (room : ℕ) (octets more : List ℕ) → IsTagWithin t room 0 octets → IsTagWithin u room 0 (octets ++ more) → t ≡ u
same_tag t u room octets more h g =
    (identifier_unique t u h.constructed g.constructed h.identifier g.identifier (h.rest ++ more) g.rest h.tagged g.tagged (sym (append_assoc h.identifier h.rest more) ∙ (ap (λ x. x ++ more) (sym h.parts) ∙ g.parts))).tag

pub begins_tag : (tag : Tag) (room : ℕ) (octets more : List ℕ) → IsTagWithin tag room 0 octets → BeginsWith tag (octets ++ more)
begins_tag tag room octets more h = record { constructed = h.constructed; identifier = h.identifier; rest = h.rest ++ more; tagged = h.tagged; joined = ap (λ x. x ++ more) h.parts ∙ append_assoc h.identifier h.rest more }

standing_known : (b : Bool) (type : Shape) (definite : Bool) (room : ℕ) (octets : List ℕ) (tag : Tag) → IsTagWithin tag room 0 octets → (IsTrue b ↔ Contains (first_tags type) tag)
    → ((more : List ℕ) → EndsHere definite room (octets ++ more) → ⊥) → IsStandingKnown b type definite room octets
standing_known true type definite room octets tag h iff goes = (record { tag = tag; first = iff.0 refl; head = h }, goes)
standing_known false type definite room octets tag h iff goes = λ more b above.
    let same = same_tag tag b.tag room octets more h b.head in
    let no : false ≡ true = iff.1 (subst (Contains (first_tags type)) (sym same) b.first) in
    cc

pub begins_whole : (tag : Tag) (a b octets : List ℕ) → octets ≡ a ++ b → BeginsWith tag a → BeginsWith tag octets
begins_whole tag a b octets parts h = record { constructed = h.constructed; identifier = h.identifier; rest = h.rest ++ b; tagged = h.tagged; joined = parts ∙ (ap (λ x. x ++ b) h.joined ∙ append_assoc h.identifier h.rest b) }

pub begins_front : (tags : List Tag) (a b octets : List ℕ) → octets ≡ a ++ b → BeginsWithOneOf tags a → BeginsWithOneOf tags octets
begins_front tags a b octets parts h = (h.0, h.1, begins_whole h.0 a b octets parts h.2)

pub within_of : (tag : Tag) (room : ℕ) (a b octets : List ℕ) → octets ≡ a ++ b → length a ≤ room → BeginsWith tag a → IsTagWithin tag room 0 octets
within_of tag room a b octets parts fits h = record {
  constructed = h.constructed;
  identifier = h.identifier;
  rest = h.rest ++ b;
  tagged = h.tagged;
  fits = omega (arith, fits, ap length h.joined, length-append h.identifier h.rest);
  parts = parts ∙ (ap (λ x. x ++ b) h.joined ∙ append_assoc h.identifier h.rest b);
}

identifier_some : (tag : Tag) (constructed : Bool) (octets : List ℕ) → IsIdentifier tag constructed octets → 1 ≤ length octets
identifier_some tag constructed octets (inl h) = omega (arith, ap length h.spelt)
identifier_some tag constructed octets (inr h) = omega (arith, ap length h.spelt)

-- where the contents octets end, nothing begins
pub nothing_begins : (type : Shape) (definite : Bool) (room : ℕ) (octets : List ℕ) → EndsHere definite room octets → (more : List ℕ) → BeginsPart type room (octets ++ more) → BeginsAboveZero (octets ++ more) → ⊥
nothing_begins type true room octets ends more h above = absurd (omega (arith, ends, h.head.fits, identifier_some h.tag h.head.constructed h.head.identifier h.head.tagged))
nothing_begins type false room octets ends more h above =
    let zero_first : 0 ∷ 0 ∷ (ends.0 ++ more) ≡ above.0 ∷ above.1 = ap (λ x. x ++ more) (sym ends.1) ∙ above.3 in
    let same : 0 ≡ above.0 = cc zero_first in
    absurd (omega (arith, same, above.2))

-- whether what stands at the front is of the type
pub front_known : (front : Option Tag) (b : Bool) (type : Shape) (definite : Bool) (room : ℕ) (octets : List ℕ) → IsFront front definite room octets → (IsTrue b ↔ MatchOption front ⊥ (λ tag. Contains (first_tags type) tag)) → IsStandingKnown b type definite room octets
front_known None true type definite room octets h iff = absurd (iff.0 refl)
front_known None false type definite room octets h iff = nothing_begins type definite room octets h
front_known (Some tag) b type definite room octets h iff = standing_known b type definite room octets tag h.0 iff h.1

-- an encoding of the type that stands at the front begins there
pub part_begins : (rule : Rule) (type : Shape) (room : ℕ) (octets : List ℕ) → IsGoodType type → HasPart rule type room octets → BeginsPart type room octets × BeginsAboveZero octets
part_begins rule type room octets good h =
    let b = encoding_begins rule type h.value h.part h.encoding in
    (record { tag = b.0; first = b.1; head = within_of b.0 room h.part h.rest octets h.parts h.fits b.2 }, subst BeginsAboveZero (sym h.parts) (one_begins h.part h.rest (one_of rule type h.value h.part good h.encoding)))

-- so it can be told that it does
pub part_or_end : (rule : Rule) (type : Shape) (definite : Bool) (room : ℕ) (octets : List ℕ) → IsGoodType type → HasPart rule type room octets → EndsOrBegins definite room octets
part_or_end rule type definite room octets good h = let b = part_begins rule type room octets good h in inr (b.0.tag, tag_within type b.0.tag good.within b.0.first, b.0.head, b.1)

-- where none begins, none stands
pub no_part : (rule : Rule) (type : Shape) (definite : Bool) (room : ℕ) (octets more : List ℕ) → IsGoodType type → IsStandingKnown false type definite room octets → HasPart rule type room (octets ++ more) → ⊥
no_part rule type definite room octets more good known h = let b = part_begins rule type room (octets ++ more) good h in known more b.0 b.1

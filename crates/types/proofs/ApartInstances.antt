-- What shows that octets encode no value of a type, or not this value.
use Rattle.std.proofs.Common.{◌≡◌, ℕ, ◌+◌, ◌≤◌, List, [], ◌∷◌, ◌++◌, inl, inr, refl, sym, ◌∙◌, ap, subst, Bool, true, false, append-nil, append_assoc, Contains}
use Rattle.octets.specs.declared.tag.Class.{Class}
use Rattle.octets.specs.declared.tag.Tag.{Tag}
use Rattle.octets.specs.Identifier.{class_bits, form_bit, IsIdentifier}
use Rattle.octets.specs.Rule.{Rule, ber, IsCanonical}
use Rattle.types.specs.Shape.{Shape, Val}
use Rattle.types.specs.FirstTags.{first_tags}
use Rattle.types.specs.WellFormed.{IsWellFormed}
use Rattle.types.specs.Same.{IsSame}
use Rattle.types.specs.Form.{IsDefinite, IsConstructed}
use Rattle.types.specs.Order.{BeginsWith}
use Rattle.types.specs.Encoding.{IsEncoding}
use Rattle.types.proofs.FormLemmas.{definite_unique}
use Rattle.types.proofs.NestingLemmas.{definite_not_indefinite, primitive_not_constructed}
use Rattle.types.proofs.BeginningLemmas.{begins_once, encoding_begins}
use Rattle.types.proofs.BerLemmas.{constructed_by_ber, encoding_by_ber}
use Rattle.types.proofs.EncodingLemmas.{encoding_unique}
use Rattle.types.proofs.OneEncodingLemmas.{one_canonical}
use Rattle.types.proofs.FormInstances.{low_tag}

-- octets of another value are none of this one
pub of_another : (rule : Rule) (shape : Shape) (v w : Val) (octets : List ℕ) → IsWellFormed shape → IsEncoding ber shape w octets → (IsSame shape v w → ⊥) → IsEncoding rule shape v octets → ⊥
of_another rule shape v w octets well k apart h = apart (encoding_unique shape v w octets octets [] [] well (encoding_by_ber rule shape v octets h) k refl).values

-- under CER and DER a value has no other octets
pub in_other_octets : (rule : Rule) (shape : Shape) (v : Val) (x y : List ℕ) → IsWellFormed shape → IsCanonical rule → IsEncoding rule shape v x → (x ≡ y → ⊥) → IsEncoding rule shape v y → ⊥
in_other_octets rule shape v x y well canonical h apart g = apart (one_canonical rule shape v x y well canonical h g)

-- octets after an encoding make no encoding
pub gone_on : (rule : Rule) (shape : Shape) (v w : Val) (octets more : List ℕ) (next : ℕ) → IsWellFormed shape → IsEncoding ber shape w octets → IsEncoding rule shape v (octets ++ (next ∷ more)) → ⊥
gone_on rule shape v w octets more next well k h =
    let same = encoding_unique shape v w (octets ++ (next ∷ more)) octets [] (next ∷ more) well (encoding_by_ber rule shape v (octets ++ (next ∷ more)) h) k (append-nil (octets ++ (next ∷ more))) in
    let rest : [] ≡ next ∷ more = same.rest in
    cc

-- nor do octets that begin with another tag
pub begins : (class : Class) (number : ℕ) (form : Bool) (rest : List ℕ) → number ≤ 30 → BeginsWith record { class = class; number = number } ((class_bits class + form_bit form + number) ∷ rest)
begins class number form rest low = record { constructed = form; identifier = (class_bits class + form_bit form + number) ∷ []; rest = rest; tagged = low_tag class number form low; joined = refl }

pub with_another_tag : (rule : Rule) (shape : Shape) (v : Val) (octets : List ℕ) (tag : Tag) → BeginsWith tag octets → (Contains (first_tags shape) tag → ⊥) → IsEncoding rule shape v octets → ⊥
with_another_tag rule shape v octets tag h apart g =
    let first = encoding_begins rule shape v octets g in
    apart (subst (Contains (first_tags shape)) (begins_once first.0 tag octets first.2 h) first.1)

-- nor does a front of such octets
pub front_with_another_tag : (rule : Rule) (shape : Shape) (v : Val) (front rest octets : List ℕ) (tag : Tag) → front ++ rest ≡ octets → BeginsWith tag octets → (Contains (first_tags shape) tag → ⊥) → IsEncoding rule shape v front → ⊥
front_with_another_tag rule shape v front rest octets tag whole h apart g =
    let first = encoding_begins rule shape v front g in
    let joined = ap (λ x. x ++ rest) first.2.joined ∙ append_assoc first.2.identifier first.2.rest rest in
    let begins : BeginsWith first.0 octets = record { constructed = first.2.constructed; identifier = first.2.identifier; rest = first.2.rest ++ rest; tagged = first.2.tagged; joined = sym whole ∙ joined } in
    apart (subst (Contains (first_tags shape)) (begins_once first.0 tag octets begins h) first.1)

-- nor do no octets
no_identifier : (tag : Tag) (form : Bool) (identifier rest : List ℕ) → IsIdentifier tag form identifier → [] ≡ identifier ++ rest → ⊥
no_identifier tag form identifier rest (inl h) same = let joined = same ∙ ap (λ x. x ++ rest) h.spelt in cc
no_identifier tag form identifier rest (inr h) same = let joined = same ∙ ap (λ x. x ++ rest) h.spelt in cc

pub of_no_octets : (rule : Rule) (shape : Shape) (v : Val) → IsEncoding rule shape v [] → ⊥
of_no_octets rule shape v h =
    let first = encoding_begins rule shape v [] h in
    no_identifier first.0 first.2.constructed first.2.identifier first.2.rest first.2.tagged first.2.joined

-- a constructed encoding in the definite form is around these contents, and not in a primitive form
pub contents_of : (rule : Rule) (tag : Tag) (c d octets : List ℕ) → IsConstructed rule tag c octets → IsDefinite ber tag true d octets → c ≡ d
contents_of rule tag c d octets h f = of_ber (constructed_by_ber rule tag c octets h)
  where
    of_ber : IsConstructed ber tag c octets → c ≡ d
    of_ber (inl g) = (definite_unique ber ber tag tag true true c d octets octets [] [] g f refl).contents
    of_ber (inr g) = absurd (definite_not_indefinite tag tag true d c octets octets [] [] f g refl)

pub not_primitive : (rule : Rule) (tag : Tag) (c d octets : List ℕ) → IsConstructed rule tag c octets → IsDefinite ber tag false d octets → ⊥
not_primitive rule tag c d octets h f = primitive_not_constructed tag tag d c octets octets [] [] f (constructed_by_ber rule tag c octets h) refl

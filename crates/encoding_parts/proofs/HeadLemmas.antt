-- Lemmas on identifier octets and length octets within what holds them.
use Rattle.std.proofs.Common.{◌≡◌, inl, inr, ℕ, ◌+◌, ◌-◌, ◌≤◌, List, [], ◌∷◌, ◌++◌, Bool, false, length, take, drop, refl, sym, ◌∙◌, ap, subst, arith, append_assoc, length-append}
use Rattle.std.specs.Prelude.{slice_range}
use Rattle.std.proofs.Math.Seq.{take-add}
use Rattle.std.proofs.lemmas.Bool.{cases_lt}
use Rattle.std.proofs.lemmas.List.{take-append-le, length-take-le, length-drop, take_all}
use Rattle.octets.specs.declared.TheConstants.{MAX_ENCODING, MAX_TAG_NUMBER}
use Rattle.octets.specs.declared.tag.Tag.{Tag}
use Rattle.octets.specs.Front.{HasFront, Begins}
use Rattle.octets.specs.Identifier.{IsIdentifier, IsSomeIdentifier}
use Rattle.octets.specs.Laws.{IsSameIdentifier}
use Rattle.octets.specs.Length.{IsLength, IsSomeLength}
use Rattle.octets.specs.Rule.{ber}
use Rattle.octets.proofs.FrontLemmas.{no_front-append, HasFront-from_parts, front_of_more, whole_front}
use Rattle.octets.proofs.IdentifierLemmas.{identifier_unique}
use Rattle.octets.proofs.LengthLemmas.{length_unique}
use Rattle.types.specs.Form.{IsPrimitive}
use Rattle.types.proofs.FormLemmas.{parts_of_definite, length-definite}
use Rattle.types.proofs.NestingLemmas.{no_length-128}
use Rattle.encoding_parts.specs.Head.{IsTagWithin, IsExtentWithin, IsPrimitiveWithin}

-- a front of the octets that fits is one of as many of them as fit
windowed : (P : List ℕ → Type 0) (room : ℕ) (front rest octets : List ℕ) → P front → length front ≤ room → room ≤ length octets → octets ≡ front ++ rest → HasFront P (take room octets)
windowed P room front rest octets h fits long parts =
    let window = take room octets in
    let size : length window ≡ room = length-take-le room octets long in
    let there : length front ≤ length window = omega arith in
    let whole : octets ≡ window ++ drop room octets = whole_front room octets in
    let f : take (length front) octets ≡ front = ap (take (length front)) parts ∙ (take-append-le (length front) front rest (omega arith) ∙ take_all (length front) front (omega arith)) in
    let g : take (length front) octets ≡ take (length front) window = ap (take (length front)) whole ∙ take-append-le (length front) window (drop room octets) there in
    (length front, there, subst P (sym f ∙ g) h)

pub front_within : (front rest octets more : List ℕ) → length front ≤ length octets → octets ++ more ≡ front ++ rest → octets ≡ front ++ drop (length front) octets
front_within front rest octets more fits parts =
    let f : take (length front) (octets ++ more) ≡ front = ap (take (length front)) parts ∙ (take-append-le (length front) front rest (omega arith) ∙ take_all (length front) front (omega arith)) in
    whole_front (length front) octets ∙ ap (λ x. x ++ drop (length front) octets) (sym (take-append-le (length front) octets more fits) ∙ f)

-- nor has any octets that begin with them
pub none_windowed : (P : List ℕ → Type 0) (room : ℕ) (front rest octets more : List ℕ) → (HasFront P (take room octets) → ⊥) → (Begins P (take room octets) → ⊥) → P front → length front ≤ room → octets ++ more ≡ front ++ rest → ⊥
none_windowed P room front rest octets more none begins h fits parts =
    elim (cases_lt (length octets) room) [
      | inl short ↦
          let window : take room octets ≡ octets = take_all room octets (omega arith) in
          let n : HasFront P octets → ⊥ = subst (λ x. HasFront P x → ⊥) window none in
          let b : Begins P octets → ⊥ = subst (λ x. Begins P x → ⊥) window begins in
          no_front-append P octets more n b (HasFront-from_parts P front rest (octets ++ more) parts h)
      | inr long ↦
          let split : octets ≡ front ++ drop (length front) octets = front_within front rest octets more (omega arith) parts in
          none (windowed P room front (drop (length front) octets) octets h fits long split)
    ]

-- where they are cut by the end of what holds them
pub none_past_end : (P : List ℕ → Type 0) (room : ℕ) (front rest octets more : List ℕ) → (HasFront P (take room octets) → ⊥) → room ≤ length (take room octets) → P front → length front ≤ room → octets ++ more ≡ front ++ rest → ⊥
none_past_end P room front rest octets more none full h fits parts =
    elim (cases_lt (length octets) room) [
      | inl short ↦ let window : take room octets ≡ octets = take_all room octets (omega arith) in absurd (omega (arith, ap length window))
      | inr long ↦
          let split : octets ≡ front ++ drop (length front) octets = front_within front rest octets more (omega arith) parts in
          none (windowed P room front (drop (length front) octets) octets h fits long split)
    ]

-- or by the end of the input
pub none_cut : (P : List ℕ → Type 0) (room : ℕ) (front rest octets : List ℕ) → (HasFront P (take room octets) → ⊥) → P front → length front ≤ room → octets ≡ front ++ rest → ⊥
none_cut P room front rest octets none h fits parts =
    elim (cases_lt (length octets) room) [
      | inl short ↦
          let window : take room octets ≡ octets = take_all room octets (omega arith) in
          none (subst (HasFront P) (sym window) (HasFront-from_parts P front rest octets parts h))
      | inr long ↦ none (windowed P room front rest octets h fits long parts)
    ]

-- octets by a front of as many of them as fit
pub window_of_more : (n room : ℕ) (octets more : List ℕ) → octets ++ more ≡ take n (take room octets) ++ (drop n (take room octets) ++ (drop room octets ++ more))
window_of_more n room octets more = front_of_more room octets more ∙ front_of_more n (take room octets) (drop room octets ++ more)

-- the identifier octets that were read are those at the front
pub tag_of_front : (t u : Tag) (j : Bool) (end taken used : ℕ) (octets more : List ℕ) → IsIdentifier t j (take used octets) → (h : IsTagWithin u end taken (octets ++ more))
    → IsSameIdentifier t u j h.constructed (take used octets) h.identifier (drop used octets ++ more) h.rest
tag_of_front t u j end taken used octets more f h =
    identifier_unique t u j h.constructed (take used octets) h.identifier (drop used octets ++ more) h.rest f h.tagged (sym (front_of_more used octets more) ∙ h.parts)

pub some_identifier : (t : Tag) (end taken : ℕ) (octets : List ℕ) → t.number ≤ MAX_TAG_NUMBER → (h : IsTagWithin t end taken octets) → IsSomeIdentifier h.identifier
some_identifier t end taken octets within h = record { tag = t; constructed = h.constructed; within = within; identifier = h.tagged }

-- length octets at the front that fit
pub record IsSized (room : ℕ) (octets : List ℕ) : Type 0 where
  pub front : List ℕ
  pub rest : List ℕ
  pub some : IsSomeLength front
  pub fits : length front ≤ room
  pub parts : octets ≡ front ++ rest

pub sized : (j : Bool) (end taken : ℕ) (octets : List ℕ) → end ≤ MAX_ENCODING → IsExtentWithin j end taken octets → IsSized (end - taken) octets
sized j end taken octets within (inl h) = record { front = h.size; rest = h.rest; some = inl (h.contents, omega (arith, h.fits), h.sized); fits = omega (arith, h.fits); parts = h.parts }
sized j end taken octets within (inr h) = record { front = 128 ∷ []; rest = h.rest; some = inr refl; fits = omega (arith, h.fits); parts = h.parts }

-- the length that was read is the one at the front, and its contents octets fit
pub extent_of_front : (j : Bool) (end taken n used room : ℕ) (octets more : List ℕ) → IsLength n (take used (take room octets)) → used ≤ length (take room octets) → IsExtentWithin j end taken (octets ++ more) → taken + used + n ≤ end
extent_of_front j end taken n used room octets more f there (inl h) =
    let same = length_unique n h.contents (take used (take room octets)) h.size (drop used (take room octets) ++ (drop room octets ++ more)) h.rest f h.sized (sym (window_of_more used room octets more) ∙ h.parts) in
    let size : length (take used (take room octets)) ≡ used = length-take-le used (take room octets) there in
    omega (arith, h.fits, same.value, ap length same.octets)
extent_of_front j end taken n used room octets more f there (inr h) =
    absurd (no_length-128 n (take used (take room octets)) (drop used (take room octets) ++ (drop room octets ++ more)) h.rest f (sym h.parts ∙ window_of_more used room octets more))

-- behind the identifier octets of a primitive encoding stand its length octets
pub record IsBehind (tag : Tag) (end taken i : ℕ) (octets more : List ℕ) : Type 0 where
  pub extent : IsExtentWithin false end (taken + i) (drop i octets ++ more)
  pub size : List ℕ
  pub contents : ℕ
  pub length_is : IsLength contents size
  pub rest : List ℕ
  pub parts : drop i octets ++ more ≡ size ++ rest
  pub long : i + length size + contents ≤ length (octets ++ more)

pub behind : (tag : Tag) (end taken i : ℕ) (octets more : List ℕ) → i ≤ length octets → IsIdentifier tag false (take i octets) → IsPrimitiveWithin tag end taken (octets ++ more) → IsBehind tag end taken i octets more
behind tag end taken i octets more there f h =
    let p = h.primitive in
    let parts : octets ++ more ≡ p.identifier ++ (p.size ++ (h.contents ++ h.rest)) = h.parts ∙ parts_of_definite ber tag false h.contents h.part h.rest p in
    let same = identifier_unique tag tag false false (take i octets) p.identifier (drop i octets ++ more) (p.size ++ (h.contents ++ h.rest)) f p.tagged (sym (front_of_more i octets more) ∙ parts) in
    let first : length (take i octets) ≡ i = length-take-le i octets there in
    let size = length-definite ber tag false h.contents h.part p in
    let whole : length (octets ++ more) ≡ length h.part + length h.rest = ap length h.parts ∙ length-append h.part h.rest in
    record {
      extent = inl (record { contents = length h.contents; size = p.size; rest = h.contents ++ h.rest; sized = p.sized; fits = omega (arith, h.fits, size, first, ap length same.octets); parts = same.rest });
      size = p.size;
      contents = length h.contents;
      length_is = p.sized;
      rest = h.contents ++ h.rest;
      parts = same.rest;
      long = omega (arith, size, first, whole, ap length same.octets);
    }

-- so the input must have them all
pub behind_long : (tag : Tag) (end taken i used n : ℕ) (octets more : List ℕ) → i ≤ length octets → IsIdentifier tag false (take i octets) → used ≤ length (drop i octets) → IsLength n (take used (drop i octets)) → IsPrimitiveWithin tag end taken (octets ++ more)
    → i + used + n ≤ length (octets ++ more)
behind_long tag end taken i used n octets more there f below k h =
    let b = behind tag end taken i octets more there f h in
    let same = length_unique n b.contents (take used (drop i octets)) b.size (drop used (drop i octets) ++ more) b.rest k b.length_is (sym (front_of_more used (drop i octets) more) ∙ b.parts) in
    let size : length (take used (drop i octets)) ≡ used = length-take-le used (drop i octets) below in
    omega (arith, b.long, same.value, size, ap length same.octets)

-- the parts that were read make a primitive encoding
pub IsPrimitive-from_parts : (tag : Tag) (i used n : ℕ) (octets : List ℕ) → IsIdentifier tag false (take i octets) → IsLength n (take used (drop i octets)) → i + used + n ≤ length octets
    → IsPrimitive ber tag (slice_range octets (i + used) (i + used + n)) (take (i + used + n) octets)
IsPrimitive-from_parts tag i used n octets h k there =
    let contents = slice_range octets (i + used) (i + used + n) in
    let exact : contents ≡ take n (drop (i + used) octets) = ap (λ m. take m (drop (i + used) octets)) (omega arith) in
    let size : length contents ≡ n = ap length exact ∙ length-take-le n (drop (i + used) octets) (omega (arith, length-drop (i + used) octets)) in
    let join : take (i + used + n) octets ≡ take i octets ++ take used (drop i octets) ++ take n (drop (i + used) octets) =
    take-add (i + used) n octets ∙ ap (λ x. x ++ take n (drop (i + used) octets)) (take-add i used octets) in
    let group : take i octets ++ take used (drop i octets) ++ take n (drop (i + used) octets) ≡ take i octets ++ (take used (drop i octets) ++ take n (drop (i + used) octets)) = append_assoc (take i octets) (take used (drop i octets)) (take n (drop (i + used) octets)) in
    record {
      identifier = take i octets;
      size = take used (drop i octets);
      tagged = h;
      sized = subst (λ m. IsLength m (take used (drop i octets))) (sym size) k;
      joined = join ∙ (group ∙ ap (λ x. take i octets ++ (take used (drop i octets) ++ x)) (sym exact));
    }

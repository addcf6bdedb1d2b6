-- Lemmas on constructed encodings: what opens them, and where they end.
use Rattle.std.proofs.Common.{◌≡◌, ℕ, ◌+◌, ◌-◌, ◌≤◌, inr, List, [], ◌∷◌, ◌++◌, Bool, true, false, length, take, drop, refl, sym, ◌∙◌, ap, subst, arith, append_assoc, append-nil, length-append}
use Rattle.std.proofs.Math.Seq.{take-add}
use Rattle.std.proofs.lemmas.List.{length-take-le, length-drop, drop-drop}
use Rattle.octets.specs.declared.canonical.Canonical.{Canonical}
use Rattle.octets.specs.declared.canonical.Canonical.TheVariants.{Cer, Der}
use Rattle.octets.specs.declared.tag.Tag.{Tag}
use Rattle.octets.specs.Identifier.{IsIdentifier}
use Rattle.octets.specs.Rule.{Rule, cer, der, rule_of}
use Rattle.octets.proofs.FrontLemmas.{front_of_more}
use Rattle.octets.proofs.IdentifierLemmas.{identifier_unique}
use Rattle.types.specs.Form.{IsConstructed}
use Rattle.types.proofs.NestingLemmas.{parts_of_indefinite}
use Rattle.encoding_parts.specs.Head.{IsTagWithin, IsExtentWithin, IsReadIndefinite}
use Rattle.types.specs.declared.refusal.Refusal.{Refusal}
use Rattle.strict.specs.declared.head.Inside.{Inside}
use Rattle.strict.specs.Bars.{RefusesStrictly}
use Rattle.strict.specs.Begun.{IsConstructedCut}
use Rattle.strict.specs.Head.{HasDefinite, IsDefiniteAt, HasConstructed, IsOpened, Fills, mark, EndsHere}
use Rattle.strict.proofs.BarsLemmas.{refused_by}

-- of the definite form
pub opened_definite : (tag : Tag) (room start size : ℕ) (octets : List ℕ) → IsDefiniteAt tag true room octets start size → IsOpened der tag room octets record { start = start; room = size; definite = true }
opened_definite tag room start size octets h = record {
  form = refl;
  there = h.there;
  fits = omega (arith, h.fits);
  makes = λ contents fills. subst (λ x. IsConstructed der tag contents (take start octets ++ x)) (sym (append-nil contents)) (h.makes contents (fills.exact refl));
  only = λ more k.
      let d : HasDefinite tag true room (octets ++ more) = record { contents = k.contents; part = k.part; rest = k.rest; whole = k.whole; fits = k.fits; parts = k.parts } in
      let o = h.only more d in
      (record { within = omega (arith, o.0); exact = λ same. o.0 }, o.1);
}

pub refused_definite : (rule : Canonical) (tag : Tag) (room : ℕ) (octets : List ℕ) (r : Refusal) → rule ≡ Der → RefusesStrictly (HasDefinite tag true room) (IsConstructedCut Der tag room) octets r → RefusesStrictly (HasConstructed (rule_of rule) tag room) (IsConstructedCut rule tag room) octets r
refused_definite Der tag room octets r is h = refused_by h (λ more k. record { contents = k.contents; part = k.part; rest = k.rest; whole = k.whole; fits = k.fits; parts = k.parts }) (λ k. k)
refused_definite Cer tag room octets r is h = absurd (cc is)

length-indefinite : (tag : Tag) (room : ℕ) (octets : List ℕ) (h : HasConstructed cer tag room octets) → length h.part ≡ length h.whole.identifier + 1 + length h.contents + 2
length-indefinite tag room octets h = omega (arith, ap length h.whole.joined, length-append h.whole.identifier (128 ∷ (h.contents ++ (0 ∷ 0 ∷ []))), length-append h.contents (0 ∷ 0 ∷ []))

pub tag_of_indefinite : (tag : Tag) (room : ℕ) (octets : List ℕ) → HasConstructed cer tag room octets → IsTagWithin tag room 0 octets
tag_of_indefinite tag room octets h = record {
  constructed = true;
  identifier = h.whole.identifier;
  rest = 128 ∷ (h.contents ++ (0 ∷ 0 ∷ h.rest));
  tagged = h.whole.tagged;
  fits = omega (arith, h.fits, length-indefinite tag room octets h);
  parts = h.parts ∙ parts_of_indefinite tag h.contents h.part h.rest h.whole;
}

pub record IsBehindMark (room i : ℕ) (octets more contents rest : List ℕ) : Type 0 where
  pub parts : drop i octets ++ more ≡ 128 ∷ (contents ++ (0 ∷ 0 ∷ rest))
  pub fits : i + 1 + length contents + 2 ≤ room
  pub extent : IsExtentWithin true room i (drop i octets ++ more)

pub behind_indefinite : (tag : Tag) (room i : ℕ) (octets more : List ℕ) → i ≤ length octets → IsIdentifier tag true (take i octets) → (h : HasConstructed cer tag room (octets ++ more)) → IsBehindMark room i octets more h.contents h.rest
behind_indefinite tag room i octets more there id h =
    let same = identifier_unique tag tag true true (take i octets) h.whole.identifier (drop i octets ++ more) (128 ∷ (h.contents ++ (0 ∷ 0 ∷ h.rest))) id h.whole.tagged (sym (front_of_more i octets more) ∙ (h.parts ∙ parts_of_indefinite tag h.contents h.part h.rest h.whole)) in
    let first : length (take i octets) ≡ i = length-take-le i octets there in
    let fits : i + 1 + length h.contents + 2 ≤ room = omega (arith, h.fits, first, ap length same.octets, length-indefinite tag room (octets ++ more) h) in
    record {
      parts = same.rest;
      fits = fits;
      extent = inr record { form = refl; rest = h.contents ++ (0 ∷ 0 ∷ h.rest); fits = omega (arith, fits); parts = same.rest };
    }

pub form_of_indefinite : (tag : Tag) (f : Bool) (room i : ℕ) (octets more : List ℕ) → IsIdentifier tag f (take i octets) → HasConstructed cer tag room (octets ++ more) → f ≡ true
form_of_indefinite tag f room i octets more id h =
    (identifier_unique tag tag f true (take i octets) h.whole.identifier (drop i octets ++ more) (128 ∷ (h.contents ++ (0 ∷ 0 ∷ h.rest))) id h.whole.tagged (sym (front_of_more i octets more) ∙ (h.parts ∙ parts_of_indefinite tag h.contents h.part h.rest h.whole))).form

-- of the indefinite form
pub opened_indefinite : (tag : Tag) (room i used : ℕ) (octets : List ℕ) → i ≤ length octets → IsIdentifier tag true (take i octets) → IsReadIndefinite true room i (drop i octets) used
    → IsOpened cer tag room octets record { start = i + used; room = room - (i + used) - 2; definite = false }
opened_indefinite tag room i used octets there id h =
    let behind = drop i octets in
    let one : used ≡ 1 = sym (length-take-le used behind h.there) ∙ ap length h.mark in
    record {
      form = refl;
      there = omega (arith, there, h.there, length-drop i octets);
      fits = omega (arith, h.fits);
      makes = λ contents fills. record {
        identifier = take i octets;
        tagged = id;
        joined = ap (λ x. x ++ (contents ++ (0 ∷ 0 ∷ []))) (take-add i used octets ∙ ap (λ x. take i octets ++ x) h.mark) ∙ append_assoc (take i octets) (128 ∷ []) (contents ++ (0 ∷ 0 ∷ []));
      };
      only = λ more k.
          let b = behind_indefinite tag room i octets more there id k in
          let split : 128 ∷ (drop used behind ++ more) ≡ 128 ∷ (k.contents ++ (0 ∷ 0 ∷ k.rest)) = sym (front_of_more used behind more ∙ ap (λ x. x ++ (drop used behind ++ more)) h.mark) ∙ b.parts in
          let rest : drop used behind ++ more ≡ k.contents ++ (0 ∷ 0 ∷ k.rest) = cc split in (
            record { within = omega (arith, b.fits, one); exact = λ d. let no : false ≡ true = d in cc },
            subst (λ x. x ++ more ≡ k.contents ++ (0 ∷ 0 ∷ k.rest)) (drop-drop used i octets) rest,
          );
    }

-- the whole of it, where its contents octets end
pub record IsClosed (rule : Rule) (tag : Tag) (room : ℕ) (octets contents : List ℕ) (whole : ℕ) : Type 0 where
  pub there : whole ≤ length octets
  pub fits : whole ≤ room
  pub made : IsConstructed rule tag contents (take whole octets)

closed_at : (rule : Rule) (tag : Tag) (room start size : ℕ) (definite : Bool) (octets : List ℕ) (used : ℕ) → start ≤ length octets → start + size + length (mark definite) ≤ room
    → ((contents : List ℕ) → Fills definite size contents → IsConstructed rule tag contents (take start octets ++ (contents ++ mark definite)))
    → used ≤ length (drop start octets) → used ≤ size → EndsHere definite (size - used) (drop used (drop start octets)) → IsClosed rule tag room octets (take used (drop start octets)) (start + used + length (mark definite))
closed_at rule tag room start size true octets used there fits makes below within ends =
    let inner = drop start octets in
    let contents = take used inner in
    let count : length contents ≡ used = length-take-le used inner below in
    let made = makes contents (record { within = omega (arith, count, within); exact = λ same. omega (arith, count, within, ends) }) in
    let n : start + used ≡ start + used + 0 = omega arith in
    let joined : take start octets ++ (contents ++ []) ≡ take (start + used + 0) octets = ap (λ x. take start octets ++ x) (append-nil contents) ∙ (sym (take-add start used octets) ∙ ap (λ m. take m octets) n) in
    record { there = omega (arith, there, below, length-drop start octets); fits = omega (arith, fits, within); made = subst (IsConstructed rule tag contents) joined made }
closed_at rule tag room start size false octets used there fits makes below within ends =
    let inner = drop start octets in
    let contents = take used inner in
    let end : List ℕ = 0 ∷ 0 ∷ [] in
    let count : length contents ≡ used = length-take-le used inner below in
    let made = makes contents (record { within = omega (arith, count, within); exact = λ d. let no : false ≡ true = d in cc }) in
    let tail : drop (start + used) octets ≡ 0 ∷ 0 ∷ ends.0 = sym (drop-drop used start octets) ∙ ends.1 in
    let joined : take start octets ++ (contents ++ end) ≡ take (start + used + 2) octets =
    sym (append_assoc (take start octets) contents end) ∙ (ap (λ x. x ++ end) (sym (take-add start used octets)) ∙ sym (take-add (start + used) 2 octets ∙ ap (λ x. take (start + used) octets ++ take 2 x) tail)) in
    record { there = omega (arith, there, ap length tail, length-drop (start + used) octets); fits = omega (arith, fits, within); made = subst (IsConstructed rule tag contents) joined made }

pub closed : (rule : Rule) (tag : Tag) (room : ℕ) (octets : List ℕ) (inside : Inside) (used : ℕ) → IsOpened rule tag room octets inside → used ≤ length (drop inside.start octets) → used ≤ inside.room → EndsHere inside.definite (inside.room - used) (drop used (drop inside.start octets))
    → IsClosed rule tag room octets (take used (drop inside.start octets)) (inside.start + used + length (mark inside.definite))
closed rule tag room octets inside used h below within ends = closed_at rule tag room inside.start inside.room inside.definite octets used h.there h.fits h.makes below within ends

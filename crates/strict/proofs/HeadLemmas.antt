-- Lemmas on identifier octets and length octets of the canonical rules.
use Rattle.std.proofs.Common.{◌≡◌, ℕ, ◌+◌, ◌≤◌, List, ◌++◌, Bool, inl, length, take, drop, sym, ◌∙◌, ap, subst, arith, append_assoc}
use Rattle.std.proofs.Math.Seq.{take-add}
use Rattle.std.proofs.lemmas.List.{length-take-le, length-drop, drop-drop}
use Rattle.octets.specs.declared.tag.Tag.{Tag}
use Rattle.octets.specs.Identifier.{IsIdentifier}
use Rattle.octets.specs.Length.{IsLength, IsShortestLength}
use Rattle.octets.specs.Rule.{der}
use Rattle.octets.proofs.FrontLemmas.{front_of_more}
use Rattle.octets.proofs.IdentifierLemmas.{identifier_unique}
use Rattle.octets.proofs.LengthLemmas.{length_unique}
use Rattle.types.proofs.FormLemmas.{parts_of_definite, length-definite}
use Rattle.encoding_parts.specs.Head.{IsReadTag, IsTagWithin, IsExtentWithin}
use Rattle.strict.specs.Head.{HasDefinite, IsDefiniteAt}

-- a definite encoding by what was read before it
pub tag_of_definite : (tag : Tag) (j : Bool) (room : ℕ) (octets : List ℕ) → HasDefinite tag j room octets → IsTagWithin tag room 0 octets
tag_of_definite tag j room octets h = record {
  constructed = j;
  identifier = h.whole.identifier;
  rest = h.whole.size ++ (h.contents ++ h.rest);
  tagged = h.whole.tagged;
  fits = omega (arith, h.fits, length-definite der tag j h.contents h.part h.whole);
  parts = h.parts ∙ parts_of_definite der tag j h.contents h.part h.rest h.whole;
}

-- identifier octets of the one tag and form are of the other, which are the same
pub tagged_so : (tag other : Tag) (room i : ℕ) (octets : List ℕ) (f g : Bool) → tag ≡ other → f ≡ g → IsReadTag tag room 0 octets f i → IsReadTag other room 0 octets g i
tagged_so tag other room i octets f g same form h = subst (λ x. IsReadTag other room 0 octets x i) form (subst (λ t. IsReadTag t room 0 octets f i) same h)

-- the form is that of the identifier octets
pub form_of_definite : (tag : Tag) (f j : Bool) (room i : ℕ) (octets more : List ℕ) → IsIdentifier tag f (take i octets) → HasDefinite tag j room (octets ++ more) → f ≡ j
form_of_definite tag f j room i octets more id h =
    (identifier_unique tag tag f j (take i octets) h.whole.identifier (drop i octets ++ more) (h.whole.size ++ (h.contents ++ h.rest)) id h.whole.tagged (sym (front_of_more i octets more) ∙ (h.parts ∙ parts_of_definite der tag j h.contents h.part h.rest h.whole))).form

-- what stands behind the identifier octets
pub record IsBehind (j : Bool) (room i : ℕ) (octets more size contents rest : List ℕ) : Type 0 where
  pub parts : drop i octets ++ more ≡ size ++ (contents ++ rest)
  pub fits : i + length size + length contents ≤ room
  pub extent : IsExtentWithin j room i (drop i octets ++ more)

pub behind_identifier : (tag : Tag) (j : Bool) (room i : ℕ) (octets more : List ℕ) → i ≤ length octets → IsIdentifier tag j (take i octets) → (h : HasDefinite tag j room (octets ++ more)) → IsBehind j room i octets more h.whole.size h.contents h.rest
behind_identifier tag j room i octets more there id h =
    let same = identifier_unique tag tag j j (take i octets) h.whole.identifier (drop i octets ++ more) (h.whole.size ++ (h.contents ++ h.rest)) id h.whole.tagged (sym (front_of_more i octets more) ∙ (h.parts ∙ parts_of_definite der tag j h.contents h.part h.rest h.whole)) in
    let first : length (take i octets) ≡ i = length-take-le i octets there in
    let fits : i + length h.whole.size + length h.contents ≤ room = omega (arith, h.fits, first, ap length same.octets, length-definite der tag j h.contents h.part h.whole) in
    record {
      parts = same.rest;
      fits = fits;
      extent = inl record { contents = length h.contents; size = h.whole.size; rest = h.contents ++ h.rest; sized = h.whole.sized.form; fits = fits; parts = same.rest };
    }

-- the length that was read is its own
pub record IsItsLength (n used : ℕ) (octets more size contents rest : List ℕ) : Type 0 where
  pub count : length contents ≡ n
  pub same : take used octets ≡ size
  pub rest_is : drop used octets ++ more ≡ contents ++ rest

pub its_length : (n used : ℕ) (octets more size contents rest : List ℕ) → IsLength n (take used octets) → IsShortestLength (length contents) size → octets ++ more ≡ size ++ (contents ++ rest) → IsItsLength n used octets more size contents rest
its_length n used octets more size contents rest k s parts =
    let same = length_unique n (length contents) (take used octets) size (drop used octets ++ more) (contents ++ rest) k s.form (sym (front_of_more used octets more) ∙ parts) in
    record { count = sym same.value; same = same.octets; rest_is = same.rest }

pub shortest_of : (n used : ℕ) (octets more size contents rest : List ℕ) → IsItsLength n used octets more size contents rest → IsShortestLength (length contents) size → IsShortestLength n (take used octets)
shortest_of n used octets more size contents rest h s = subst (λ l. IsShortestLength n l) (sym h.same) (subst (λ m. IsShortestLength m size) h.count s)

-- what was read is identifier octets and length octets
pub definite_at : (tag : Tag) (j : Bool) (i used n room : ℕ) (octets : List ℕ) → i ≤ length octets → IsIdentifier tag j (take i octets) → used ≤ length (drop i octets) → IsShortestLength n (take used (drop i octets)) → i + used + n ≤ room
    → IsDefiniteAt tag j room octets (i + used) n
definite_at tag j i used n room octets there id below s fits = record {
  there = omega (arith, there, below, length-drop i octets);
  fits = fits;
  makes = λ contents size. record {
    identifier = take i octets;
    size = take used (drop i octets);
    tagged = id;
    sized = subst (λ m. IsShortestLength m (take used (drop i octets))) (sym size) s;
    joined = ap (λ x. x ++ contents) (take-add i used octets) ∙ append_assoc (take i octets) (take used (drop i octets)) contents;
  };
  only = λ more h.
      let b = behind_identifier tag j room i octets more there id h in
      let l = its_length n used (drop i octets) more h.whole.size h.contents h.rest s.form h.whole.sized b.parts in
      (l.count, ap (λ x. x ++ more) (sym (drop-drop used i octets)) ∙ l.rest_is);
}

-- Lemmas on primitive encodings and those of the definite form.
use Rattle.std.proofs.Common.{◌≡◌, ℕ, ◌+◌, List, ◌++◌, Bool, length, sym, ◌∙◌, ap, arith, append_assoc, length-append}
use Rattle.octets.specs.declared.tag.Tag.{Tag}
use Rattle.octets.specs.Rule.{Rule, ber, cer, der}
use Rattle.octets.specs.Length.{IsLength, IsLengthUnder}
use Rattle.octets.proofs.FrontLemmas.{same_front}
use Rattle.octets.proofs.IdentifierLemmas.{identifier_unique}
use Rattle.octets.proofs.LengthLemmas.{length_unique}
use Rattle.octets.proofs.ShortestLemmas.{IsShortestLength-unique}
use Rattle.octets.proofs.UniqueLemmas.{one_identifier}
use Rattle.types.specs.Form.{IsDefinite}

-- BER takes the length octets of every rule
pub IsLength-from_rule : (rule : Rule) (n : ℕ) (octets : List ℕ) → IsLengthUnder rule n octets → IsLength n octets
IsLength-from_rule ber n octets h = h
IsLength-from_rule cer n octets h = h.form
IsLength-from_rule der n octets h = h.form

-- two encodings of the definite form at the front of one list are the same
pub record IsSameDefinite (t u : Tag) (j k : Bool) (c d a b r s : List ℕ) : Type 0 where
  pub tag : t ≡ u
  pub form : j ≡ k
  pub contents : c ≡ d
  pub octets : a ≡ b
  pub rest : r ≡ s

-- the parts of a definite encoding before what follows it
pub parts_of_definite : (rule : Rule) (t : Tag) (j : Bool) (c a r : List ℕ) → (f : IsDefinite rule t j c a) → a ++ r ≡ f.identifier ++ (f.size ++ (c ++ r))
parts_of_definite rule t j c a r f =
    ap (λ x. x ++ r) f.joined ∙ (append_assoc f.identifier (f.size ++ c) r ∙ ap (λ x. f.identifier ++ x) (append_assoc f.size c r))

pub definite_unique : (rule other : Rule) (t u : Tag) (j k : Bool) (c d a b r s : List ℕ) → IsDefinite rule t j c a → IsDefinite other u k d b → a ++ r ≡ b ++ s → IsSameDefinite t u j k c d a b r s
definite_unique rule other t u j k c d a b r s f g whole =
    let parts : f.identifier ++ (f.size ++ (c ++ r)) ≡ g.identifier ++ (g.size ++ (d ++ s)) = sym (parts_of_definite rule t j c a r f) ∙ (whole ∙ parts_of_definite other u k d b s g) in
    let same = identifier_unique t u j k f.identifier g.identifier (f.size ++ (c ++ r)) (g.size ++ (d ++ s)) f.tagged g.tagged parts in
    let sizes = length_unique (length c) (length d) f.size g.size (c ++ r) (d ++ s) (IsLength-from_rule rule (length c) f.size f.sized) (IsLength-from_rule other (length d) g.size g.sized) same.rest in
    let ends = same_front c d r s sizes.value sizes.rest in
    let octets : f.identifier ++ (f.size ++ c) ≡ g.identifier ++ (g.size ++ d) =
    ap (λ x. x ++ (f.size ++ c)) same.octets ∙ ap (λ x. g.identifier ++ x) (ap (λ x. x ++ c) sizes.octets ∙ ap (λ x. g.size ++ x) ends.0) in
    record {
      tag = same.tag;
      form = same.form;
      contents = ends.0;
      octets = f.joined ∙ (octets ∙ sym g.joined);
      rest = ends.1;
    }

-- under DER the contents have one definite encoding
pub one_definite : (t : Tag) (j : Bool) (c a b : List ℕ) → IsDefinite der t j c a → IsDefinite der t j c b → a ≡ b
one_definite t j c a b f g =
    let identifiers : f.identifier ≡ g.identifier = one_identifier t j f.identifier g.identifier f.tagged g.tagged in
    let sizes : f.size ≡ g.size = IsShortestLength-unique (length c) f.size g.size f.sized g.sized in
    f.joined ∙ (ap (λ x. x ++ (f.size ++ c)) identifiers ∙ (ap (λ x. g.identifier ++ (x ++ c)) sizes ∙ sym g.joined))

pub length-definite : (rule : Rule) (t : Tag) (j : Bool) (c a : List ℕ) → (f : IsDefinite rule t j c a) → length a ≡ length f.identifier + length f.size + length c
length-definite rule t j c a f = omega (arith, ap length f.joined, length-append f.identifier (f.size ++ c), length-append f.size c)

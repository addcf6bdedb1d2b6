-- Lemmas on what follows a head: what is left begins with one, and goes on as it says.
use Rattle.std.proofs.Common.{◌≡◌, ℕ, zero, suc, List, [], ◌∷◌, ◌++◌, inl, inr, length, take, drop, refl, sym, ap, ◌∙◌, subst, arith, append_assoc, append-nil, length-append}
use Rattle.std.specs.List.{AllByRecursion, concat}
use Rattle.std.proofs.lemmas.List.{take-append-drop, length-take-le}
use Rattle.std.proofs.Math.Seq.{drop-append_seam}
use Rattle.octets.specs.Length.{IsLength}
use Rattle.cutting.specs.declared.found.Opened.{Opened}
use Rattle.cutting.specs.declared.found.Opened.TheVariants.{Definite, Indefinite, End}
use Rattle.cutting.specs.Encoding.{IsSomeDefinite, IsIndefiniteOf, IsAnyEncoding}
use Rattle.cutting.specs.Rest.{IsRestOf, IsRestBehind, IsFromHead}
use Rattle.cutting.specs.Heads.{IsHead, IsDefiniteHead, IsIndefiniteHead}
use Rattle.cutting.proofs.EncodingLemmas.{definite_encoding, indefinite_encoding, encoding_cases}
use Rattle.cutting.proofs.HeadLemmas.{head_unique}

-- what follows a head, inside so many open encodings
abbrev pub Follows : Opened → ℕ → List ℕ → Type 0
Follows (Definite contents) around rest = IsRestBehind contents around rest
Follows Indefinite around rest = IsRestOf (suc around) rest
Follows End zero rest = ⊥
Follows End (suc around) rest = IsRestOf around rest

-- an encoding in front of what is left
before_rest : (around : ℕ) (part rest : List ℕ) → IsAnyEncoding part → IsRestOf around rest → IsFromHead around (part ++ rest)
unfolding IsRestOf
before_rest zero part rest h r = subst IsAnyEncoding (sym (ap (λ x. part ++ x) r ∙ append-nil part)) h
before_rest (suc around) part rest h r =
    record { parts = part ∷ r.parts; each = (h, r.each); around = r.around; outside = r.outside; joined = ap (λ x. part ++ x) r.joined ∙ sym (append_assoc part (concat r.parts) (0 ∷ 0 ∷ r.around)) }

definite_part : (n : ℕ) (head contents : List ℕ) → length contents ≡ n → IsDefiniteHead n head → IsSomeDefinite (head ++ contents)
definite_part n head contents size h = record {
  tag = h.tag;
  usable = h.usable;
  number = h.number;
  constructed = h.constructed;
  contents = contents;
  size = omega (arith, h.within);
  whole = record {
    identifier = h.identifier;
    size = h.size;
    tagged = h.tagged;
    sized = subst (λ m. IsLength m h.size) (sym size) h.sized;
    joined = ap (λ x. x ++ contents) h.joined ∙ append_assoc h.identifier h.size contents;
  };
}

indefinite_part : (head : List ℕ) (parts : List (List ℕ)) → AllByRecursion IsAnyEncoding parts → IsIndefiniteHead head → IsIndefiniteOf IsAnyEncoding (head ++ (concat parts ++ (0 ∷ 0 ∷ [])))
indefinite_part head parts each h = record {
  tag = h.tag;
  usable = h.usable;
  number = h.number;
  parts = parts;
  each = each;
  whole = record {
    identifier = h.identifier;
    tagged = h.tagged;
    joined = ap (λ x. x ++ (concat parts ++ (0 ∷ 0 ∷ []))) h.joined ∙ append_assoc h.identifier (128 ∷ []) (concat parts ++ (0 ∷ 0 ∷ []));
  };
}

-- a head, and what follows it
pub from_head : (opened : Opened) (around : ℕ) (head rest : List ℕ) → IsHead opened head → Follows opened around rest → IsFromHead around (head ++ rest)
unfolding IsRestOf
from_head (Definite n) around head rest h f =
    let part = head ++ take n rest in
    let size : length (take n rest) ≡ n = length-take-le n rest f.0 in
    let split : part ++ drop n rest ≡ head ++ rest = append_assoc head (take n rest) (drop n rest) ∙ ap (λ x. head ++ x) (take-append-drop n rest) in
    subst (IsFromHead around) split (before_rest around part (drop n rest) (definite_encoding part (definite_part n head (take n rest) size h)) f.1)
from_head Indefinite around head rest h f =
    let part = head ++ (concat f.parts ++ (0 ∷ 0 ∷ [])) in
    let inner : (concat f.parts ++ (0 ∷ 0 ∷ [])) ++ f.around ≡ rest = append_assoc (concat f.parts) (0 ∷ 0 ∷ []) f.around ∙ sym f.joined in
    let split : part ++ f.around ≡ head ++ rest = append_assoc head (concat f.parts ++ (0 ∷ 0 ∷ [])) f.around ∙ ap (λ x. head ++ x) inner in
    subst (IsFromHead around) split (before_rest around part f.around (indefinite_encoding part (indefinite_part head f.parts f.each h)) f.outside)
from_head End zero head rest h f = absurd f
from_head End (suc around) head rest h f = record { parts = []; each = tt; around = rest; outside = f; joined = ap (λ x. x ++ rest) h }

-- octets that begin with a head
pub record IsHeaded (around : ℕ) (octets : List ℕ) : Type 0 where
  pub opened : Opened
  pub head : List ℕ
  pub rest : List ℕ
  pub is : IsHead opened head
  pub joined : octets ≡ head ++ rest
  pub follows : Follows opened around rest

headed_definite : (around : ℕ) (part rest : List ℕ) → IsSomeDefinite part → IsRestOf around rest → IsHeaded around (part ++ rest)
headed_definite around part rest h r =
    let whole = h.whole in
    let parts : whole.identifier ++ (whole.size ++ h.contents) ≡ (whole.identifier ++ whole.size) ++ h.contents = sym (append_assoc whole.identifier whole.size h.contents) in
    let split : part ++ rest ≡ (whole.identifier ++ whole.size) ++ (h.contents ++ rest) =
    ap (λ x. x ++ rest) (whole.joined ∙ parts) ∙ append_assoc (whole.identifier ++ whole.size) h.contents rest in
    record {
      opened = Definite (length h.contents);
      head = whole.identifier ++ whole.size;
      rest = h.contents ++ rest;
      is = record { tag = h.tag; usable = h.usable; number = h.number; within = h.size; constructed = h.constructed; identifier = whole.identifier; size = whole.size; tagged = whole.tagged; sized = whole.sized; joined = refl };
      joined = split;
      follows = (omega (arith, length-append h.contents rest), subst (IsRestOf around) (sym (drop-append_seam h.contents rest)) r);
    }

headed_indefinite : (around : ℕ) (part rest : List ℕ) → IsIndefiniteOf IsAnyEncoding part → IsRestOf around rest → IsHeaded around (part ++ rest)
unfolding IsRestOf
headed_indefinite around part rest h r =
    let whole = h.whole in
    let contents = concat h.parts in
    let inner : (contents ++ (0 ∷ 0 ∷ [])) ++ rest ≡ contents ++ (0 ∷ 0 ∷ rest) = append_assoc contents (0 ∷ 0 ∷ []) rest in
    let outer : whole.identifier ++ (128 ∷ ((contents ++ (0 ∷ 0 ∷ [])) ++ rest)) ≡ (whole.identifier ++ (128 ∷ [])) ++ ((contents ++ (0 ∷ 0 ∷ [])) ++ rest) =
    sym (append_assoc whole.identifier (128 ∷ []) ((contents ++ (0 ∷ 0 ∷ [])) ++ rest)) in
    let split : part ++ rest ≡ (whole.identifier ++ (128 ∷ [])) ++ (contents ++ (0 ∷ 0 ∷ rest)) =
    ap (λ x. x ++ rest) whole.joined ∙ (append_assoc whole.identifier (128 ∷ (contents ++ (0 ∷ 0 ∷ []))) rest ∙ (outer ∙ ap (λ x. (whole.identifier ++ (128 ∷ [])) ++ x) inner)) in
    record {
      opened = Indefinite;
      head = whole.identifier ++ (128 ∷ []);
      rest = contents ++ (0 ∷ 0 ∷ rest);
      is = record { tag = h.tag; usable = h.usable; number = h.number; identifier = whole.identifier; tagged = whole.tagged; joined = refl };
      joined = split;
      follows = record { parts = h.parts; each = h.each; around = rest; outside = r; joined = refl };
    }

headed_part : (around : ℕ) (part rest : List ℕ) → IsAnyEncoding part → IsRestOf around rest → IsHeaded around (part ++ rest)
headed_part around part rest h r =
    elim (encoding_cases part h) [
      | inl definite ↦ headed_definite around part rest definite r
      | inr indefinite ↦ headed_indefinite around part rest indefinite r
    ]

headed_inside : (around : ℕ) (parts : List (List ℕ)) (rest : List ℕ) → AllByRecursion IsAnyEncoding parts → IsRestOf around rest → IsHeaded (suc around) (concat parts ++ (0 ∷ 0 ∷ rest))
unfolding IsRestOf
headed_inside around [] rest each r = record { opened = End; head = 0 ∷ 0 ∷ []; rest = rest; is = refl; joined = refl; follows = r }
headed_inside around (part ∷ parts) rest each r =
    let others : IsRestOf (suc around) (concat parts ++ (0 ∷ 0 ∷ rest)) = record { parts = parts; each = each.1; around = rest; outside = r; joined = refl } in
    subst (IsHeaded (suc around)) (sym (append_assoc part (concat parts) (0 ∷ 0 ∷ rest))) (headed_part (suc around) part (concat parts ++ (0 ∷ 0 ∷ rest)) each.0 others)

-- where an encoding may begin, a head stands
pub headed : (around : ℕ) (octets : List ℕ) → IsFromHead around octets → IsHeaded around octets
unfolding IsRestOf
headed zero octets h = subst (IsHeaded zero) (append-nil octets) (headed_part zero octets [] h refl)
headed (suc around) octets h = subst (IsHeaded (suc around)) (sym h.joined) (headed_inside around h.parts h.around h.each h.outside)

-- and what follows it is as it says
pub behind_head : (opened : Opened) (around : ℕ) (head rest : List ℕ) → IsHead opened head → IsFromHead around (head ++ rest) → Follows opened around rest
behind_head opened around head rest h f =
    let g = headed around (head ++ rest) f in
    let same = head_unique opened g.opened head g.head rest g.rest h g.is g.joined in
    subst (λ o. Follows o around rest) (sym same.opened) (subst (Follows g.opened around) (sym same.rest) g.follows)

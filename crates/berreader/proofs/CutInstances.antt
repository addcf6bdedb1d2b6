-- Octets that may be kept of a BOOLEAN of which nothing else has come, and octets that may not.
use Rattle.std.proofs.Common.{◌≡◌, inl, inr, ◌+◌, ◌<◌, ◌≤◌, ℕ, zero, suc, Bool, true, false, List, [], ◌∷◌, length, take, refl, sym, ap, ◌∙◌, subst, arith}
use Rattle.octets.specs.declared.TheConstants.{MAX_ENCODING}
use Rattle.octets.specs.declared.tag.Class.TheVariants.{Universal}
use Rattle.octets.specs.declared.tag.Tag.{Tag}
use Rattle.octets.specs.Identifier.{IsIdentifier, IsSomeIdentifier}
use Rattle.octets.specs.Length.{IsLength, IsSomeLength}
use Rattle.octets.proofs.FrontLemmas.{HasFront-from_parts}
use Rattle.octets.proofs.IdentifierLemmas.{identifier_unique}
use Rattle.octets.proofs.LengthLemmas.{length_unique}
use Rattle.types.specs.Shape.{Shape, SimpleType}
use Rattle.encoding_parts.specs.Cut.{IsCutBehind}
use Rattle.encoding_parts.specs.Parts.{IsNodeFor}
use Rattle.berreader.specs.Cut.{IsCutNext}

abbrev universal : ℕ → Tag
universal number = record { class = Universal; number = number }

abbrev boolean : Shape
boolean = Shape.simple (universal 1) SimpleType.boolean

low_identifier : (number : ℕ) → number ≤ 30 → IsIdentifier (universal number) false (number ∷ [])
low_identifier number low =
    let same : number ≡ 0 + 0 + number = omega arith in
    inl (record { low = low; spelt = ap (λ n. n ∷ []) same })

short_length : (n : ℕ) → n < 128 → IsLength n (n ∷ [])
short_length n low = inl (record { low = low; spelt = refl })

no_length : (n : ℕ) → IsSomeLength (take n []) → ⊥
no_length zero (inl (m, within, inl h)) = let is = h.spelt in cc
no_length zero (inl (m, within, inr h)) = let is = h.spelt in cc
no_length zero (inr is) = cc
no_length (suc n) (inl (m, within, inl h)) = let is = h.spelt in cc
no_length (suc n) (inl (m, within, inr h)) = let is = h.spelt in cc
no_length (suc n) (inr is) = cc

part : (rest : List ℕ) → IsCutBehind boolean false MAX_ENCODING 1 rest → IsCutNext boolean [] 0 (1 ∷ rest)
part rest cut = inr (inl (record {
  which = 0;
  type = boolean;
  tag = universal 1;
  node = boolean;
  due = refl;
  chosen = (refl, refl);
  cut = record { constructed = false; form = tt; identifier = 1 ∷ []; rest = rest; tagged = low_identifier 1 (omega arith); joined = refl; behind = cut };
}))

-- 01
pub identifier_alone : IsCutNext boolean [] 0 (1 ∷ [])
identifier_alone = part [] (inl (record { begins = (1 ∷ [], inl (1, omega arith, short_length 1 (omega arith))); none = λ h. no_length h.0 h.2; fits = omega arith }))

-- 01 01
pub head_alone : IsCutNext boolean [] 0 (1 ∷ 1 ∷ [])
head_alone = part (1 ∷ []) (inr (record {
  contents = 1;
  can = refl;
  cut = record { size = 1 ∷ []; some = []; sized = short_length 1 (omega arith); joined = refl; fewer = omega arith; fits = omega arith };
}))

-- 02, and all that begins with it
pub integer : (rest : List ℕ) → IsCutNext boolean [] 0 (2 ∷ rest) → ⊥
integer rest (inl h) = h.none (HasFront-from_parts IsSomeIdentifier (2 ∷ []) rest (2 ∷ rest) refl (record { tag = universal 2; constructed = false; within = omega arith; identifier = low_identifier 2 (omega arith) }))
integer rest (inr (inl h)) =
    let chosen : IsNodeFor h.tag boolean h.node = subst (λ t. IsNodeFor h.tag t h.node) (sym h.due) h.chosen in
    let same = identifier_unique (universal 2) h.tag false h.cut.constructed (2 ∷ []) h.cut.identifier rest h.cut.rest (low_identifier 2 (omega arith)) h.cut.tagged h.cut.joined in
    let both : universal 2 ≡ universal 1 = same.tag ∙ sym chosen.0 in
    let number : 2 ≡ 1 = ap (λ (t : Tag). t.number) both in
    absurd (omega (arith, number))
integer rest (inr (inr h)) = absurd h

-- behind 01 and a length in the short form
behind : (constructed : Bool) (end taken n : ℕ) (some octets : List ℕ) → false ≡ constructed → n < 128 → octets ≡ n ∷ some → IsCutBehind boolean constructed end taken octets → (n ≡ 1) × (length some < n)
behind true end taken n some octets form low is h = absurd (cc form)
behind false end taken n some octets form low is (inl h) = absurd (h.none (HasFront-from_parts IsSomeLength (n ∷ []) some octets is (inl (n, omega (arith, low), short_length n low))))
behind false end taken n some octets form low is (inr h) =
    let same = length_unique n h.contents (n ∷ []) h.cut.size some h.cut.some (short_length n low) h.cut.sized (sym is ∙ h.cut.joined) in
    let one : h.contents ≡ 1 = h.can in
    (same.value ∙ one, omega (arith, same.value, h.cut.fewer, ap length same.rest))

-- the length is 1, and no contents octet has come: so it is not 01 02, nor 01 01 FF
pub of_length : (n : ℕ) (some : List ℕ) → n < 128 → IsCutNext boolean [] 0 (1 ∷ n ∷ some) → (n ≡ 1) × (length some < n)
of_length n some low (inl h) = absurd (h.none (HasFront-from_parts IsSomeIdentifier (1 ∷ []) (n ∷ some) (1 ∷ n ∷ some) refl (record { tag = universal 1; constructed = false; within = omega arith; identifier = low_identifier 1 (omega arith) })))
of_length n some low (inr (inl h)) =
    let chosen : IsNodeFor h.tag boolean h.node = subst (λ t. IsNodeFor h.tag t h.node) (sym h.due) h.chosen in
    let same = identifier_unique (universal 1) h.tag false h.cut.constructed (1 ∷ []) h.cut.identifier (n ∷ some) h.cut.rest (low_identifier 1 (omega arith)) h.cut.tagged h.cut.joined in
    behind h.cut.constructed MAX_ENCODING (0 + length h.cut.identifier) n some h.cut.rest same.form low (sym same.rest)
    (subst (λ node. IsCutBehind node h.cut.constructed MAX_ENCODING (0 + length h.cut.identifier) h.cut.rest) chosen.1 h.cut.behind)
of_length n some low (inr (inr h)) = absurd h

pub wrong_length : IsCutNext boolean [] 0 (1 ∷ 2 ∷ []) → ⊥
wrong_length h = let is = (of_length 2 [] (omega arith) h).0 in absurd (omega (arith, is))

pub whole_value : IsCutNext boolean [] 0 (1 ∷ 1 ∷ 255 ∷ []) → ⊥
whole_value h = let few = (of_length 1 (255 ∷ []) (omega arith) h).1 in absurd (omega (arith, few))

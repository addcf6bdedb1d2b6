-- Lemmas on identifier octets and length octets at the front of some octets.
use Rattle.std.proofs.Common.{◌≡◌, inl, inr, ℕ, zero, suc, ◌+◌, ◌*◌, ◌/◌, ◌%◌, ◌<◌, ◌≤◌, List, [], ◌∷◌, ◌++◌, Bool, true, false, nat_eq, Bor, length, take, drop, get_or, refl, sym, ◌∙◌, ap, subst, subst₂, arith, append_assoc, append-nil, length-append}
use Rattle.std.specs.Prelude.{slice_range}
use Rattle.std.proofs.Math.Seq.{take-add, take-append_seam}
use Rattle.std.proofs.lemmas.List.{take-append-drop, length-take-le, length-drop, take_all}
use Rattle.std.proofs.lemmas.List.Elements.{All-nil, All-cons}
use Rattle.octets.specs.declared.tag.Tag.{Tag}
use Rattle.octets.specs.Base128.{IsBase128}
use Rattle.octets.proofs.Base128Lemmas.{base_128-pair}
use Rattle.octets.specs.Identifier.{class_bits, form_bit, IsIdentifier}
use Rattle.octets.specs.Length.{IsLength}
use Rattle.octets.specs.Rule.{ber}
use Rattle.types.specs.Form.{IsConstructed}
use Rattle.berslice.specs.Heads.{Completes, IsOpened}
use Rattle.berslice.specs.declared.heads.Inside.{Inside}

-- one of some octets
pub octet_at : (i : ℕ) (octets : List ℕ) → i < length octets → take 1 (drop i octets) ≡ get_or octets i 0 ∷ []
octet_at i [] there = absurd (omega (arith, there))
octet_at zero (a ∷ octets) there = refl
octet_at (suc i) (a ∷ octets) there = octet_at i octets (omega (arith, there))

-- one identifier octet
pub low_identifier : (tag : Tag) (constructed : Bool) (octets : List ℕ) → tag.number < 31 → 0 < length octets → get_or octets 0 0 ≡ class_bits tag.class + form_bit constructed + tag.number → IsIdentifier tag constructed (take 1 octets)
low_identifier tag constructed octets low there is = inl record { low = omega (arith, low); spelt = octet_at 0 octets there ∙ ap (λ octet. octet ∷ []) is }

-- the first of some octets
two_octets : (octets : List ℕ) → 2 ≤ length octets → take 2 octets ≡ get_or octets 0 0 ∷ get_or octets 1 0 ∷ []
two_octets [] there = absurd (omega (arith, there))
two_octets (a ∷ []) there = absurd (omega (arith, there))
two_octets (a ∷ b ∷ octets) there = refl

three_octets : (octets : List ℕ) → 3 ≤ length octets → take 3 octets ≡ get_or octets 0 0 ∷ get_or octets 1 0 ∷ get_or octets 2 0 ∷ []
three_octets [] there = absurd (omega (arith, there))
three_octets (a ∷ []) there = absurd (omega (arith, there))
three_octets (a ∷ b ∷ []) there = absurd (omega (arith, there))
three_octets (a ∷ b ∷ c ∷ octets) there = refl

-- a number of one digit
base_128-digit : (n : ℕ) → n < 128 → IsBase128 n (n ∷ [])
base_128-digit n few = record {
  digits = n ∷ [];
  below_128 = All-cons (λ d. d < 128) n [] few (All-nil (λ d. d < 128));
  at_least_one = omega arith;
  no_leading_zero = λ two. absurd (omega arith);
  value = omega arith;
  spelt = refl;
}

-- a leading octet, and one digit behind it
pub pair_identifier : (tag : Tag) (constructed : Bool) (octets : List ℕ) → 31 ≤ tag.number → tag.number < 128 → 2 ≤ length octets
    → get_or octets 0 0 ≡ class_bits tag.class + form_bit constructed + 31 → get_or octets 1 0 ≡ tag.number → IsIdentifier tag constructed (take 2 octets)
pair_identifier tag constructed octets high few there first second = inr record {
  high = high;
  following = tag.number ∷ [];
  number = base_128-digit tag.number few;
  spelt = let front = two_octets octets there in cc;
}

-- and two digits
pub triple_identifier : (tag : Tag) (constructed : Bool) (octets : List ℕ) → 128 ≤ tag.number → tag.number < 16384 → 3 ≤ length octets
    → get_or octets 0 0 ≡ class_bits tag.class + form_bit constructed + 31 → get_or octets 1 0 ≡ 128 + tag.number / 128 → get_or octets 2 0 ≡ tag.number % 128
    → IsIdentifier tag constructed (take 3 octets)
triple_identifier tag constructed octets high few there first second third = inr record {
  high = omega (arith, high);
  following = (128 + tag.number / 128) ∷ (tag.number % 128) ∷ [];
  number = base_128-pair tag.number high few;
  spelt = let front = three_octets octets there in cc;
}

-- bit 6 of a leading octet
pub form_bit-of : (n : ℕ) → n < 2 → form_bit (nat_eq n 1) ≡ n * 32
form_bit-of zero few = refl
form_bit-of (suc zero) few = refl
form_bit-of (suc (suc n)) few = absurd (omega (arith, few))

-- one length octet
pub short_length : (n i : ℕ) (octets : List ℕ) → i < length octets → get_or octets i 0 < 128 → n ≡ get_or octets i 0 → IsLength n (take 1 (drop i octets))
short_length n i octets there low is = inl record { low = omega (arith, low, is); spelt = octet_at i octets there ∙ ap (λ octet. octet ∷ []) (sym is) }

-- the identifier octets and length octets of the definite form, and what stands behind them
pub opened_definite : (tag : Tag) (i used n : ℕ) (octets : List ℕ) (inside : Bor (List ℕ)) → IsIdentifier tag true (take i octets) → IsLength n (take used (drop i octets)) → i + used + n ≤ length octets
    → inside.now ≡ slice_range octets (i + used) (i + used + n) → IsOpened tag octets record { octets = inside; start = i + used; definite = true }
opened_definite tag i used n octets inside id k there is =
    let start = i + used in
    let behind = drop start octets in
    let exact : inside.now ≡ take n behind = is ∙ ap (λ m. take m behind) (omega arith) in
    let size : length inside.now ≡ n = ap length exact ∙ length-take-le n behind (omega (arith, there, length-drop start octets)) in
    record {
      head = take start octets;
      rest = drop n behind;
      joined = sym (take-append-drop start octets) ∙ ap (λ x. take start octets ++ x) (sym (take-append-drop n behind) ∙ ap (λ x. x ++ drop n behind) (sym exact));
      count = length-take-le start octets (omega (arith, there));
      form = inl record {
        identifier = take i octets;
        size = take used (drop i octets);
        tagged = id;
        sized = subst (λ m. IsLength m (take used (drop i octets))) (sym size) k;
        joined = ap (λ x. x ++ inside.now) (take-add i used octets) ∙ append_assoc (take i octets) (take used (drop i octets)) inside.now;
      };
    }

-- and of the indefinite form
pub opened_indefinite : (tag : Tag) (i used : ℕ) (octets : List ℕ) (inside : Bor (List ℕ)) → IsIdentifier tag true (take i octets) → take used (drop i octets) ≡ 128 ∷ [] → i + used ≤ length octets
    → inside.now ≡ drop (i + used) octets → IsOpened tag octets record { octets = inside; start = i + used; definite = false }
opened_indefinite tag i used octets inside id k there is =
    let start = i + used in
    record {
      head = take start octets;
      rest = [];
      joined = sym (take-append-drop start octets) ∙ ap (λ x. take start octets ++ x) (sym is ∙ sym (append-nil inside.now));
      count = length-take-le start octets there;
      form = λ contents. inr record {
        identifier = take i octets;
        tagged = id;
        joined = ap (λ x. x ++ (contents ++ (0 ∷ 0 ∷ []))) (take-add i used octets ∙ ap (λ x. take i octets ++ x) k) ∙ append_assoc (take i octets) (128 ∷ []) (contents ++ (0 ∷ 0 ∷ []));
      };
    }

-- a front of so many octets
front_of_joined : (n : ℕ) (octets front rest : List ℕ) → octets ≡ front ++ rest → n ≡ length front → take n octets ≡ front
front_of_joined n octets front rest is size = ap (λ x. take n x) is ∙ (ap (λ m. take m (front ++ rest)) size ∙ take-append_seam front rest)

-- the definite form ends behind all that it holds
pub closed_definite : (tag : Tag) (octets : List ℕ) (inside : Inside) (used : ℕ) → inside.definite ≡ true → IsOpened tag octets inside → used ≡ length inside.octets.now
    → IsConstructed ber tag (take used inside.octets.now) (take (inside.start + used) octets)
closed_definite tag octets inside used definite h all =
    let contents = inside.octets.now in
    let front = h.head ++ contents in
    let n = inside.start + used in
    let size : n ≡ length front = omega (arith, h.count, all, length-append h.head contents) in
    let whole : take n octets ≡ front = front_of_joined n octets front h.rest (h.joined ∙ sym (append_assoc h.head contents h.rest)) size in
    let form : IsConstructed ber tag contents front = subst (λ d. Completes d tag h.head contents) definite h.form in
    subst₂ (IsConstructed ber tag) (sym (take_all used contents (omega (arith, all)))) (sym whole) form

-- the indefinite form ends behind end-of-contents octets
pub closed_indefinite : (tag : Tag) (octets : List ℕ) (inside : Inside) (used : ℕ) (others : List ℕ) → inside.definite ≡ false → IsOpened tag octets inside → used ≤ length inside.octets.now → drop used inside.octets.now ≡ 0 ∷ 0 ∷ others
    → IsConstructed ber tag (take used inside.octets.now) (take (inside.start + used + 2) octets)
closed_indefinite tag octets inside used others indefinite h there mark =
    let held = inside.octets.now in
    let contents = take used held in
    let end : List ℕ = 0 ∷ 0 ∷ [] in
    let front = h.head ++ (contents ++ end) in
    let n = inside.start + used + 2 in
    let size : n ≡ length front = omega (arith, h.count, length-append h.head (contents ++ end), length-append contents end, length-take-le used held there) in
    let split : held ≡ (contents ++ end) ++ others = sym (take-append-drop used held) ∙ (ap (λ x. contents ++ x) mark ∙ sym (append_assoc contents end others)) in
    let joined : octets ≡ front ++ (others ++ h.rest) =
    h.joined ∙ (ap (λ x. h.head ++ (x ++ h.rest)) split ∙ (ap (λ x. h.head ++ x) (append_assoc (contents ++ end) others h.rest) ∙ sym (append_assoc h.head (contents ++ end) (others ++ h.rest)))) in
    let whole : take n octets ≡ front = front_of_joined n octets front (others ++ h.rest) joined size in
    let form : (some : List ℕ) → IsConstructed ber tag some (h.head ++ (some ++ end)) = subst (λ d. Completes d tag h.head held) indefinite h.form in
    subst (IsConstructed ber tag contents) (sym whole) (form contents)

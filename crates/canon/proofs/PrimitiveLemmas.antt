-- Lemmas on primitive encodings with the shortest length.
use Rattle.std.proofs.Common.{◌≡◌, ◌∙◌, ◌+◌, ◌/◌, ◌%◌, ◌≤◌, ℕ, ℤ, ◌<◌, ◌^◌, List, [], ◌∷◌, ◌++◌, false, length, refl, sym, ap, inl, inr, arith, subst, append_assoc, length-append}
use Rattle.std.proofs.lemmas.List.Elements.{All-nil, All-cons}
use Rattle.octets.specs.declared.TheConstants.{MAX_TAG_NUMBER}
use Rattle.octets.specs.declared.tag.Tag.{Tag}
use Rattle.octets.specs.Front.{Appends}
use Rattle.octets.specs.Identifier.{class_bits}
use Rattle.octets.specs.Length.{IsShortestLength}
use Rattle.octets.specs.Rule.{cer}
use Rattle.octets.specs.Base128.{IsBase128}
use Rattle.octets.proofs.Base128Lemmas.{base_128-pair}
use Rattle.octets.proofs.IdentifierOctetsLemmas.{identifier}
use Rattle.octets.proofs.LengthLemmas.{IsShortestLength-short}
use Rattle.octets.proofs.ShortestLemmas.{shortest_length}
use Rattle.primitives.specs.Integer.{IsInteger}
use Rattle.types.specs.Form.{IsPrimitive}
use Rattle.canon.specs.Leaf.{IsNumberEncoding, IsPrimitiveHead}

-- a head with octets behind it, in two parts
pub primitive_put : (tag : Tag) (n : ℕ) (lead string old one two new : List ℕ) → Appends (IsPrimitiveHead tag n) old one → n ≡ length lead + length string → two ≡ one ++ lead → new ≡ two ++ string → Appends (IsPrimitive cer tag (lead ++ string)) old new
primitive_put tag n lead string old one two new head count led put =
    let h = head.2 in
    let contents = lead ++ string in
    let sized : IsShortestLength (length contents) h.size = subst (λ k. IsShortestLength k h.size) (count ∙ sym (length-append lead string)) h.sized in (
      head.0 ++ contents,
      put ∙ ap (λ s. s ++ string) led ∙ append_assoc one lead string ∙ ap (λ s. s ++ contents) head.1 ∙ append_assoc old head.0 contents,
      record { identifier = h.identifier; size = h.size; tagged = h.tagged; sized = sized; joined = ap (λ x. x ++ contents) h.joined ∙ append_assoc h.identifier h.size contents },
    )

-- contents octets have a primitive encoding
pub primitive_exists : (tag : Tag) (contents : List ℕ) → tag.number ≤ MAX_TAG_NUMBER → length contents < 2 ^ 64 → (octets : List ℕ) × IsPrimitive cer tag contents octets
primitive_exists tag contents kept within =
    let head = identifier tag false kept in
    let size = shortest_length (length contents) within in
    (head.0 ++ (size.0 ++ contents), record { identifier = head.0; size = size.0; tagged = head.1; sized = size.1; joined = refl })

-- a head of two octets
pub short_head : (tag : Tag) (n first : ℕ) → tag.number < 31 → n < 128 → first ≡ class_bits tag.class + tag.number → IsPrimitiveHead tag n (first ∷ n ∷ [])
short_head tag n first low few is =
    let spelt : first ≡ class_bits tag.class + 0 + tag.number = omega (arith, is) in
    record {
      identifier = first ∷ [];
      size = n ∷ [];
      tagged = inl record { low = omega (arith, low); spelt = ap (λ m. m ∷ []) spelt };
      sized = IsShortestLength-short n few;
      joined = refl;
    }

-- a head whose tag's number follows the leading octet
high_head : (tag : Tag) (n first : ℕ) (digits : List ℕ) → 31 ≤ tag.number → n < 128 → first ≡ class_bits tag.class + 31 → IsBase128 tag.number digits → IsPrimitiveHead tag n (first ∷ (digits ++ n ∷ []))
high_head tag n first digits high few is number =
    let spelt : first ≡ class_bits tag.class + 0 + 31 = omega (arith, is) in
    record {
      identifier = first ∷ digits;
      size = n ∷ [];
      tagged = inr record { high = high; following = digits; number = number; spelt = ap (λ m. m ∷ digits) spelt };
      sized = IsShortestLength-short n few;
      joined = refl;
    }

pub high_head_one : (tag : Tag) (n first : ℕ) → 31 ≤ tag.number → tag.number < 128 → n < 128 → first ≡ class_bits tag.class + 31 → IsPrimitiveHead tag n (first ∷ (tag.number % 128) ∷ n ∷ [])
high_head_one tag n first high low few is =
    let d = tag.number % 128 in
    let same : d ≡ tag.number = omega (arith, low) in
    high_head tag n first (d ∷ []) high few is record {
      digits = d ∷ [];
      below_128 = All-cons (λ x. x < 128) d [] (omega arith) (All-nil (λ x. x < 128));
      at_least_one = omega arith;
      no_leading_zero = λ two. absurd (omega (arith, two));
      value = omega (arith, same);
      spelt = refl;
    }

pub high_head_two : (tag : Tag) (n first : ℕ) → 128 ≤ tag.number → tag.number < 16384 → n < 128 → first ≡ class_bits tag.class + 31 → IsPrimitiveHead tag n (first ∷ (128 + tag.number / 128) ∷ (tag.number % 128) ∷ n ∷ [])
high_head_two tag n first high low few is = high_head tag n first ((128 + tag.number / 128) ∷ (tag.number % 128) ∷ []) (omega (arith, high)) few is (base_128-pair tag.number high low)

-- a head with the contents octets of a number behind it
pub number_made : (tag : Tag) (number : ℤ) (n : ℕ) (head contents : List ℕ) → IsPrimitiveHead tag n head → length contents ≡ n → IsInteger number contents → IsNumberEncoding tag number (head ++ contents)
number_made tag number n head contents h count spelt =
    let sized : IsShortestLength (length contents) h.size = subst (λ k. IsShortestLength k h.size) (sym count) h.sized in
    let joined : head ++ contents ≡ h.identifier ++ (h.size ++ contents) = ap (λ x. x ++ contents) h.joined ∙ append_assoc h.identifier h.size contents in
    record { contents = contents; spelt = spelt; primitive = record { identifier = h.identifier; size = h.size; tagged = h.tagged; sized = sized; joined = joined } }

-- Octets made of few parts, and which of them are primitive and constructed encodings under each rule.
use Rattle.std.proofs.Common.{◌≡◌, ℕ, ◌+◌, ◌<◌, ◌≤◌, List, [], ◌∷◌, ◌++◌, inl, inr, length, refl, sym, ap, arith, Bool, true, false, All}
use Rattle.std.proofs.lemmas.List.Elements.{All-nil, All-cons}
use Rattle.octets.specs.declared.tag.Class.{Class}
use Rattle.octets.specs.declared.tag.Class.TheVariants.{Universal, Context}
use Rattle.octets.specs.declared.tag.Tag.{Tag}
use Rattle.octets.specs.Identifier.{class_bits, form_bit, IsIdentifier}
use Rattle.octets.specs.Length.{IsLengthUnder}
use Rattle.octets.specs.Rule.{Rule, ber, cer, der}
use Rattle.octets.proofs.LengthLemmas.{IsShortestLength-short}
use Rattle.types.specs.FirstTags.{IsUsable}
use Rattle.types.specs.Form.{IsDefinite, IsIndefinite, IsPrimitive, IsConstructed}
use Rattle.types.proofs.FormLemmas.{definite_unique, one_definite}
use Rattle.types.proofs.NestingLemmas.{definite_not_indefinite, primitive_not_constructed}

pub not_same : (a b : ℕ) → a < b → a ≡ b → ⊥
not_same a b less same = omega arith

abbrev pub universal : ℕ → Tag
universal number = record { class = Universal; number = number }

abbrev pub context : ℕ → Tag
context number = record { class = Context; number = number }

pub usable_universal : (number : ℕ) → 1 ≤ number → IsUsable (universal number)
usable_universal number some = λ same none. absurd (omega arith)

pub usable_context : (number : ℕ) → IsUsable (context number)
usable_context number = λ same. cc

pub one_octet : (octet : ℕ) → octet < 256 → All (λ o. o < 256) (octet ∷ [])
one_octet octet below = All-cons (λ o. o < 256) octet [] below (All-nil (λ o. o < 256))

pub low_tag : (class : Class) (number : ℕ) (form : Bool) → number ≤ 30 → IsIdentifier record { class = class; number = number } form ((class_bits class + form_bit form + number) ∷ [])
low_tag class number form low = inl record { low = low; spelt = refl }

pub short : (rule : Rule) (n : ℕ) → n < 128 → IsLengthUnder rule n (n ∷ [])
short ber n low = (IsShortestLength-short n low).form
short cer n low = IsShortestLength-short n low
short der n low = IsShortestLength-short n low

-- definite encodings of few octets, under every rule, and indefinite ones
pub definite : (rule : Rule) (class : Class) (number : ℕ) (form : Bool) (contents : List ℕ) → number ≤ 30 → length contents < 128
    → IsDefinite rule record { class = class; number = number } form contents ((class_bits class + form_bit form + number) ∷ length contents ∷ contents)
definite rule class number form contents low few = record {
  identifier = (class_bits class + form_bit form + number) ∷ [];
  size = length contents ∷ [];
  tagged = low_tag class number form low;
  sized = short rule (length contents) few;
  joined = refl;
}

pub indefinite : (class : Class) (number : ℕ) (contents : List ℕ) → number ≤ 30
    → IsIndefinite record { class = class; number = number } contents ((class_bits class + form_bit true + number) ∷ 0x80 ∷ (contents ++ (0x00 ∷ 0x00 ∷ [])))
indefinite class number contents low = record { identifier = (class_bits class + form_bit true + number) ∷ []; tagged = low_tag class number true low; joined = refl }

-- the same under BER with the length in one octet after 81
pub definite_81 : (class : Class) (number : ℕ) (form : Bool) (contents : List ℕ) → number ≤ 30 → length contents < 256
    → IsDefinite ber record { class = class; number = number } form contents ((class_bits class + form_bit form + number) ∷ 0x81 ∷ length contents ∷ contents)
definite_81 class number form contents low few = record {
  identifier = (class_bits class + form_bit form + number) ∷ [];
  size = 0x81 ∷ length contents ∷ [];
  tagged = low_tag class number form low;
  sized = inr record { digits = length contents ∷ []; below_256 = one_octet (length contents) few; at_least_one = omega arith; at_most_126 = omega arith; value = omega arith; spelt = refl };
  joined = refl;
}

-- 41 under universal 4 is 04 01 41 under every rule, and 04 81 01 41 under BER alone
octet_41 : (rule : Rule) → IsPrimitive rule (universal 4) (0x41 ∷ []) (0x04 ∷ 0x01 ∷ 0x41 ∷ [])
octet_41 rule = definite rule Universal 4 false (0x41 ∷ []) (omega arith) (omega arith)

pub octet_41-long : IsPrimitive ber (universal 4) (0x41 ∷ []) (0x04 ∷ 0x81 ∷ 0x01 ∷ 0x41 ∷ [])
octet_41-long = definite_81 Universal 4 false (0x41 ∷ []) (omega arith) (omega arith)

octet_41-long_der : IsPrimitive der (universal 4) (0x41 ∷ []) (0x04 ∷ 0x81 ∷ 0x01 ∷ 0x41 ∷ []) → ⊥
octet_41-long_der h = let same = one_definite (universal 4) false (0x41 ∷ []) (0x04 ∷ 0x81 ∷ 0x01 ∷ 0x41 ∷ []) (0x04 ∷ 0x01 ∷ 0x41 ∷ []) h (octet_41 der) in cc

octet_41-long_cer : IsPrimitive cer (universal 4) (0x41 ∷ []) (0x04 ∷ 0x81 ∷ 0x01 ∷ 0x41 ∷ []) → ⊥
octet_41-long_cer h = octet_41-long_der record { identifier = h.identifier; size = h.size; tagged = h.tagged; sized = h.sized; joined = h.joined }

-- nor is it 04 02 41, whose length is another, 24 01 41, which is constructed, or 04 80 41 00 00
octet_41-size : IsPrimitive ber (universal 4) (0x41 ∷ []) (0x04 ∷ 0x02 ∷ 0x41 ∷ []) → ⊥
octet_41-size h =
    let two = definite ber Universal 4 false (0x41 ∷ 0x41 ∷ []) (omega arith) (omega arith) in
    let same = definite_unique ber ber (universal 4) (universal 4) false false (0x41 ∷ []) (0x41 ∷ 0x41 ∷ []) (0x04 ∷ 0x02 ∷ 0x41 ∷ []) (0x04 ∷ 0x02 ∷ 0x41 ∷ 0x41 ∷ []) (0x41 ∷ []) [] h two refl in
    absurd (omega (arith, ap length same.contents))

octet_41-form : IsPrimitive ber (universal 4) (0x41 ∷ []) (0x24 ∷ 0x01 ∷ 0x41 ∷ []) → ⊥
octet_41-form h = primitive_not_constructed (universal 4) (universal 4) (0x41 ∷ []) (0x41 ∷ []) (0x24 ∷ 0x01 ∷ 0x41 ∷ []) (0x24 ∷ 0x01 ∷ 0x41 ∷ []) [] [] h (inl (definite ber Universal 4 true (0x41 ∷ []) (omega arith) (omega arith))) refl

octet_41-indefinite : IsPrimitive ber (universal 4) (0x41 ∷ []) (0x24 ∷ 0x80 ∷ 0x41 ∷ 0x00 ∷ 0x00 ∷ []) → ⊥
octet_41-indefinite h = primitive_not_constructed (universal 4) (universal 4) (0x41 ∷ []) (0x41 ∷ []) (0x24 ∷ 0x80 ∷ 0x41 ∷ 0x00 ∷ 0x00 ∷ []) (0x24 ∷ 0x80 ∷ 0x41 ∷ 0x00 ∷ 0x00 ∷ []) [] [] h (inr (indefinite Universal 4 (0x41 ∷ []) (omega arith))) refl

-- 05 00 under universal 16, constructed: BER takes either form, DER the definite one alone, CER the indefinite one alone
null_within-definite : IsConstructed der (universal 16) (0x05 ∷ 0x00 ∷ []) (0x30 ∷ 0x02 ∷ 0x05 ∷ 0x00 ∷ [])
null_within-definite = definite der Universal 16 true (0x05 ∷ 0x00 ∷ []) (omega arith) (omega arith)

null_within-indefinite : IsConstructed cer (universal 16) (0x05 ∷ 0x00 ∷ []) (0x30 ∷ 0x80 ∷ 0x05 ∷ 0x00 ∷ 0x00 ∷ 0x00 ∷ [])
null_within-indefinite = indefinite Universal 16 (0x05 ∷ 0x00 ∷ []) (omega arith)

null_within-either : IsConstructed ber (universal 16) (0x05 ∷ 0x00 ∷ []) (0x30 ∷ 0x02 ∷ 0x05 ∷ 0x00 ∷ []) × IsConstructed ber (universal 16) (0x05 ∷ 0x00 ∷ []) (0x30 ∷ 0x80 ∷ 0x05 ∷ 0x00 ∷ 0x00 ∷ 0x00 ∷ [])
null_within-either = (inl (definite ber Universal 16 true (0x05 ∷ 0x00 ∷ []) (omega arith) (omega arith)), inr null_within-indefinite)

null_within-cer : IsConstructed cer (universal 16) (0x05 ∷ 0x00 ∷ []) (0x30 ∷ 0x02 ∷ 0x05 ∷ 0x00 ∷ []) → ⊥
null_within-cer h = definite_not_indefinite (universal 16) (universal 16) true (0x05 ∷ 0x00 ∷ []) (0x05 ∷ 0x00 ∷ []) (0x30 ∷ 0x02 ∷ 0x05 ∷ 0x00 ∷ []) (0x30 ∷ 0x02 ∷ 0x05 ∷ 0x00 ∷ []) [] [] (definite ber Universal 16 true (0x05 ∷ 0x00 ∷ []) (omega arith) (omega arith)) h refl

null_within-der : IsConstructed der (universal 16) (0x05 ∷ 0x00 ∷ []) (0x30 ∷ 0x80 ∷ 0x05 ∷ 0x00 ∷ 0x00 ∷ 0x00 ∷ []) → ⊥
null_within-der h =
    let same = one_definite (universal 16) true (0x05 ∷ 0x00 ∷ []) (0x30 ∷ 0x80 ∷ 0x05 ∷ 0x00 ∷ 0x00 ∷ 0x00 ∷ []) (0x30 ∷ 0x02 ∷ 0x05 ∷ 0x00 ∷ []) h null_within-definite in
    not_same 4 6 (omega arith) (ap length (sym same))

-- 30 04 05 00 00 00 is not around 05 00: nothing ends definite contents
null_within-ended : IsConstructed ber (universal 16) (0x05 ∷ 0x00 ∷ []) (0x30 ∷ 0x04 ∷ 0x05 ∷ 0x00 ∷ 0x00 ∷ 0x00 ∷ []) → ⊥
null_within-ended (inl h) =
    let four = definite ber Universal 16 true (0x05 ∷ 0x00 ∷ 0x00 ∷ 0x00 ∷ []) (omega arith) (omega arith) in
    let same = definite_unique ber ber (universal 16) (universal 16) true true (0x05 ∷ 0x00 ∷ []) (0x05 ∷ 0x00 ∷ 0x00 ∷ 0x00 ∷ []) (0x30 ∷ 0x04 ∷ 0x05 ∷ 0x00 ∷ 0x00 ∷ 0x00 ∷ []) (0x30 ∷ 0x04 ∷ 0x05 ∷ 0x00 ∷ 0x00 ∷ 0x00 ∷ []) [] [] h four refl in
    absurd (omega (arith, ap length same.contents))
null_within-ended (inr h) = definite_not_indefinite (universal 16) (universal 16) true (0x05 ∷ 0x00 ∷ 0x00 ∷ 0x00 ∷ []) (0x05 ∷ 0x00 ∷ []) (0x30 ∷ 0x04 ∷ 0x05 ∷ 0x00 ∷ 0x00 ∷ 0x00 ∷ []) (0x30 ∷ 0x04 ∷ 0x05 ∷ 0x00 ∷ 0x00 ∷ 0x00 ∷ []) [] [] (definite ber Universal 16 true (0x05 ∷ 0x00 ∷ 0x00 ∷ 0x00 ∷ []) (omega arith) (omega arith)) h refl

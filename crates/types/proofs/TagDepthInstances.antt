-- An OCTET STRING in segments under sixty explicit tags: as deep as may be, and one level deeper.
use Rattle.std.proofs.Common.{◌≡◌, ℕ, zero, suc, ◌+◌, ◌*◌, List, [], ◌∷◌, ◌++◌, inl, inr, length, refl, sym, ◌∙◌, ap, subst, arith, true, append-nil, length-append}
use Rattle.std.specs.List.{AllByRecursion, concat}
use Rattle.octets.specs.declared.tag.Class.TheVariants.{Universal, Context}
use Rattle.octets.specs.declared.tag.Tag.{Tag}
use Rattle.octets.specs.Rule.{ber}
use Rattle.types.specs.Shape.{Shape}
use Rattle.types.specs.Form.{IsConstructed, IsIndefinite}
use Rattle.types.specs.Depth.{IsNested}
use Rattle.types.specs.Encoding.{IsEncoding, IsAccepted}
use Rattle.types.proofs.NestingLemmas.{definite_not_indefinite, indefinite_opening, primitive_not_constructed, nested_above, parts_unique, nested_unique}
use Rattle.types.proofs.DepthLemmas.{nested_around}
use Rattle.types.proofs.BeginningLemmas.{explicit_parts}
use Rattle.types.proofs.FormInstances.{universal, context, usable_context, one_octet, indefinite}
use Rattle.types.proofs.OctetSegmentInstances.{OctetSegments, octets_first, octets_within-indefinite, none_of_none}
use Rattle.types.proofs.StringInstances.{octet_string, octets_of}
use Rattle.types.proofs.DepthInstances.{wrapped, length-wrapped, wrapped_nested, wrapped_deep}

-- OCTET STRING under so many tags [0] EXPLICIT
tagged : ℕ → Shape
tagged zero = octet_string (universal 4)
tagged (suc n) = Shape.explicit (context 0) (tagged n)

-- A0 80 and 00 00 around octets, once and so many times
abbrev tag_around : List ℕ → List ℕ
tag_around octets = 0xA0 ∷ 0x80 ∷ (octets ++ (0x00 ∷ 0x00 ∷ []))

tags_around : ℕ → List ℕ → List ℕ
tags_around zero octets = octets
tags_around (suc n) octets = tag_around (tags_around n octets)

length-tags : (n : ℕ) (octets : List ℕ) → length (tags_around n octets) ≡ 4 * n + length octets
unfolding tags_around
length-tags zero octets = omega arith
length-tags (suc n) octets = omega (arith, length-append (tags_around n octets) (0x00 ∷ 0x00 ∷ []), length-tags n octets)

tag_is : (octets : List ℕ) → IsIndefinite (context 0) octets (tag_around octets)
tag_is octets = indefinite Context 0 octets (omega arith)

-- AA in 24 80 so often and 04 01 AA, under so many tags
segments_AA : (n : ℕ) → OctetSegments (0xAA ∷ []) (wrapped n)
unfolding wrapped
segments_AA zero = octets_first (0xAA ∷ []) [] [] (omega arith) none_of_none
segments_AA (suc n) = subst (OctetSegments (0xAA ∷ [])) (append-nil (0x24 ∷ 0x80 ∷ (wrapped n ++ (0x00 ∷ 0x00 ∷ [])))) (octets_within-indefinite (0xAA ∷ []) (wrapped n) [] [] (segments_AA n) none_of_none)

string_AA : (n : ℕ) → IsEncoding ber (octet_string (universal 4)) (octets_of (0xAA ∷ [])) (wrapped (suc n))
unfolding wrapped
string_AA n = record { string_octets = 0xAA ∷ []; is = refl; conforms = one_octet 0xAA (omega arith); string = inr record { contents = wrapped n; segments = segments_AA n; constructed = inr (indefinite Universal 4 (wrapped n) (omega arith)) } }

tagged_AA : (n m : ℕ) → IsEncoding ber (tagged n) (octets_of (0xAA ∷ [])) (tags_around n (wrapped (suc m)))
unfolding tagged tags_around
tagged_AA zero m = string_AA m
tagged_AA (suc n) m = record { inner = tags_around n (wrapped (suc m)); encodes = tagged_AA n m; whole = inr (tag_is (tags_around n (wrapped (suc m)))) }

-- each tag nests one level
abbrev deeper : ℕ → ℕ → ℕ
deeper zero m = m
deeper (suc n) m = suc (deeper n m)

tags_nested : (n m : ℕ) (octets : List ℕ) → IsNested m octets → IsNested (deeper n m) (tags_around n octets)
unfolding tags_around
tags_nested zero m octets h = h
tags_nested (suc n) m octets h =
    nested_around ber (deeper n m) (context 0) (tags_around n octets ∷ []) (tag_around (tags_around n octets)) (usable_context 0) (tags_nested n m octets h, tt)
    (explicit_parts ber (context 0) (tags_around n octets) (tag_around (tags_around n octets)) (inr (tag_is (tags_around n octets))))

-- and what stands within it nests one less
within_tag : (n m : ℕ) (tag : Tag) (parts : List (List ℕ)) (octets : List ℕ) → AllByRecursion (IsNested n) parts → IsNested m octets → IsConstructed ber tag (concat parts) (tag_around octets) → parts ≡ octets ∷ []
within_tag n m tag parts octets each inner (inl h) = absurd (definite_not_indefinite tag (context 0) true (concat parts) octets (tag_around octets) (tag_around octets) [] [] h (tag_is octets) refl)
within_tag n m tag parts octets each inner (inr h) =
    let opening = indefinite_opening tag (context 0) (concat parts) octets (tag_around octets) (tag_around octets) [] [] h (tag_is octets) refl in
    parts_unique (IsNested n) (IsNested m) (nested_unique n m) (nested_above n) (nested_above m) parts (octets ∷ []) (0x00 ∷ 0x00 ∷ []) (0x00 ∷ 0x00 ∷ []) each (inner, tt) refl refl
    (opening.contents ∙ ap (λ x. x ++ (0x00 ∷ 0x00 ∷ [])) (sym (append-nil octets)))

one_level : (n m : ℕ) (octets : List ℕ) → IsNested m octets → IsNested (suc n) (tag_around octets) → IsNested n octets
unfolding IsNested
one_level n m octets inner (inl h) = absurd (primitive_not_constructed h.tag (context 0) h.contents octets (tag_around octets) (tag_around octets) [] [] h.whole (inr (tag_is octets)) refl)
one_level n m octets inner (inr h) = (subst (AllByRecursion (IsNested n)) (within_tag n m h.tag h.parts octets h.each inner h.whole) h.each).0

tags_deep : (n k m : ℕ) (octets : List ℕ) → IsNested m octets → (IsNested k octets → ⊥) → IsNested (deeper n k) (tags_around n octets) → ⊥
unfolding tags_around
tags_deep zero k m octets inner deep h = deep h
tags_deep (suc n) k m octets inner deep h = tags_deep n k m octets inner deep (one_level (deeper n k) (deeper n m) (tags_around n octets) (tags_nested n m octets inner) h)

-- A0 80 sixty times, 24 80 four times, 04 01 AA and 00 00 sixty-four times are accepted under BER
abbrev pairs : ℕ → ℕ → ℕ → List ℕ
pairs zero x y = []
pairs (suc n) x y = x ∷ y ∷ pairs n x y

sixty_four-octets : tags_around 60 (wrapped 4) ≡ pairs 60 0xA0 0x80 ++ (pairs 4 0x24 0x80 ++ ((0x04 ∷ 0x01 ∷ 0xAA ∷ []) ++ pairs 64 0x00 0x00))
unfolding tags_around wrapped
sixty_four-octets = refl

sixty_four : IsAccepted ber (tagged 60) (octets_of (0xAA ∷ [])) (tags_around 60 (wrapped 4))
sixty_four = record { encoding = tagged_AA 60 3; depth = tags_nested 60 4 (wrapped 4) (wrapped_nested 4); size = omega (arith, length-tags 60 (wrapped 4), length-wrapped 4) }

-- with 24 80 five times and 00 00 sixty-five times they are an encoding that is not accepted
sixty_five-octets : tags_around 60 (wrapped 5) ≡ pairs 60 0xA0 0x80 ++ (pairs 5 0x24 0x80 ++ ((0x04 ∷ 0x01 ∷ 0xAA ∷ []) ++ pairs 65 0x00 0x00))
unfolding tags_around wrapped
sixty_five-octets = refl

sixty_five : IsEncoding ber (tagged 60) (octets_of (0xAA ∷ [])) (tags_around 60 (wrapped 5))
sixty_five = tagged_AA 60 4

sixty_five-too_deep : IsAccepted ber (tagged 60) (octets_of (0xAA ∷ [])) (tags_around 60 (wrapped 5)) → ⊥
sixty_five-too_deep h = tags_deep 60 4 5 (wrapped 5) (wrapped_nested 5) (wrapped_deep 4) h.depth

-- Segments of an OCTET STRING that the definition takes, and octets that it does not (X.690 8.7).
use Rattle.std.proofs.Common.{◌≡◌, ◌≢◌, ℕ, ◌<◌, List, [], ◌∷◌, ◌++◌, inl, inr, length, refl, sym, ◌∙◌, ap, subst, arith, Bool, true, false, get_or}
use Rattle.octets.specs.declared.tag.Class.TheVariants.{Universal}
use Rattle.octets.specs.declared.tag.Tag.{Tag}
use Rattle.octets.specs.Identifier.{IsIdentifier}
use Rattle.octets.specs.Rule.{ber}
use Rattle.octets.proofs.IdentifierLemmas.{identifier_unique}
use Rattle.types.specs.FirstTags.{IsUsable}
use Rattle.types.specs.Form.{IsDefinite, IsIndefinite, IsPrimitive}
use Rattle.types.specs.Strings.{AreSegments, octet_segment, AreOctets, AlwaysWhole}
use Rattle.types.proofs.FormLemmas.{definite_unique, parts_of_definite}
use Rattle.types.proofs.NestingLemmas.{not_end, definite_above, definite_not_indefinite, primitive_not_constructed, no_length-128, parts_of_indefinite}
use Rattle.types.proofs.SegmentLemmas.{segments_unique}
use Rattle.types.proofs.FormInstances.{not_same, universal, low_tag, definite, indefinite, octet_41-long}

pub usable_octet : IsUsable octet_segment
usable_octet = λ same none. absurd (omega arith)

abbrev pub OctetSegments : List ℕ → List ℕ → Type 0
OctetSegments string octets = AreSegments octet_segment AreOctets AlwaysWhole string octets

-- an OCTET STRING's segment before others, primitive, or around segments in either form
pub octets_first : (contents others rest : List ℕ) → length contents < 128 → OctetSegments others rest → OctetSegments (contents ++ others) (0x04 ∷ length contents ∷ (contents ++ rest))
octets_first contents others rest few more = AreSegments.primitive contents contents (0x04 ∷ length contents ∷ contents) refl (definite ber Universal 4 false contents (omega arith) few) more (λ some. tt)

octets_within : (piece contents others rest : List ℕ) → length contents < 128 → OctetSegments piece contents → OctetSegments others rest → OctetSegments (piece ++ others) (0x24 ∷ length contents ∷ (contents ++ rest))
octets_within piece contents others rest few inside more = AreSegments.constructed piece contents (0x24 ∷ length contents ∷ contents) inside (inl (definite ber Universal 4 true contents (omega arith) few)) more (λ some. tt)

pub octets_within-indefinite : (piece contents others rest : List ℕ) → OctetSegments piece contents → OctetSegments others rest → OctetSegments (piece ++ others) ((0x24 ∷ 0x80 ∷ (contents ++ (0x00 ∷ 0x00 ∷ []))) ++ rest)
octets_within-indefinite piece contents others rest inside more =
    AreSegments.constructed piece contents (0x24 ∷ 0x80 ∷ (contents ++ (0x00 ∷ 0x00 ∷ []))) inside (inr (indefinite Universal 4 contents (omega arith))) more (λ some. tt)

one_octets : (p q c : List ℕ) → OctetSegments p c → OctetSegments q c → p ≡ q
one_octets p q c h k = (segments_unique octet_segment AreOctets AlwaysWhole (λ a b o f g. sym f ∙ g) usable_octet p c q c [] [] h k tt tt refl).string

-- nothing, 24 00 and 04 00 are segments of no octets
pub none_of_none : OctetSegments [] []
none_of_none = AreSegments.none

none_of_24_00 : OctetSegments [] (0x24 ∷ 0x00 ∷ [])
none_of_24_00 = octets_within [] [] [] [] (omega arith) none_of_none none_of_none

none_of_04_00 : OctetSegments [] (0x04 ∷ 0x00 ∷ [])
none_of_04_00 = octets_first [] [] [] (omega arith) none_of_none

-- 41 42 in two segments: the first of them primitive, or around one in the definite form, or around one in the
-- indefinite form whose length is not the shortest
octets_42 : OctetSegments (0x42 ∷ []) (0x04 ∷ 0x01 ∷ 0x42 ∷ [])
octets_42 = octets_first (0x42 ∷ []) [] [] (omega arith) none_of_none

octets_41 : OctetSegments (0x41 ∷ []) (0x04 ∷ 0x01 ∷ 0x41 ∷ [])
octets_41 = octets_first (0x41 ∷ []) [] [] (omega arith) none_of_none

octets_41_42 : OctetSegments (0x41 ∷ 0x42 ∷ []) (0x04 ∷ 0x01 ∷ 0x41 ∷ 0x04 ∷ 0x01 ∷ 0x42 ∷ [])
octets_41_42 = octets_first (0x41 ∷ []) (0x42 ∷ []) (0x04 ∷ 0x01 ∷ 0x42 ∷ []) (omega arith) octets_42

octets_41_42-within : OctetSegments (0x41 ∷ 0x42 ∷ []) (0x24 ∷ 0x03 ∷ 0x04 ∷ 0x01 ∷ 0x41 ∷ 0x04 ∷ 0x01 ∷ 0x42 ∷ [])
octets_41_42-within = octets_within (0x41 ∷ []) (0x04 ∷ 0x01 ∷ 0x41 ∷ []) (0x42 ∷ []) (0x04 ∷ 0x01 ∷ 0x42 ∷ []) (omega arith) octets_41 octets_42

octets_41-long : OctetSegments (0x41 ∷ []) (0x04 ∷ 0x81 ∷ 0x01 ∷ 0x41 ∷ [])
octets_41-long = AreSegments.primitive (0x41 ∷ []) (0x41 ∷ []) (0x04 ∷ 0x81 ∷ 0x01 ∷ 0x41 ∷ []) refl octet_41-long none_of_none (λ some. tt)

octets_41_42-indefinite : OctetSegments (0x41 ∷ 0x42 ∷ []) (0x24 ∷ 0x80 ∷ 0x04 ∷ 0x81 ∷ 0x01 ∷ 0x41 ∷ 0x00 ∷ 0x00 ∷ 0x04 ∷ 0x01 ∷ 0x42 ∷ [])
octets_41_42-indefinite = octets_within-indefinite (0x41 ∷ []) (0x04 ∷ 0x81 ∷ 0x01 ∷ 0x41 ∷ []) (0x42 ∷ []) (0x04 ∷ 0x01 ∷ 0x42 ∷ []) octets_41-long octets_42

-- and they are not 42 41
octets_turned : OctetSegments (0x42 ∷ 0x41 ∷ []) (0x04 ∷ 0x01 ∷ 0x41 ∷ 0x04 ∷ 0x01 ∷ 0x42 ∷ []) → ⊥
octets_turned h =
    let same = one_octets (0x42 ∷ 0x41 ∷ []) (0x41 ∷ 0x42 ∷ []) (0x04 ∷ 0x01 ∷ 0x41 ∷ 0x04 ∷ 0x01 ∷ 0x42 ∷ []) h octets_41_42 in
    not_same 0x41 0x42 (omega arith) (ap (λ l. get_or l 0 0) (sym same))

module _ {A : Type 0} (inner : Tag) (Holds : List A → List ℕ → Type 0) (Whole : List A → Type 0) where
  -- what the first segment holds, and the segments after it
  pub record IsFirst (tag : Tag) (Held : List A → Type 0) (string : List A) (rest : List ℕ) : Type 0 where
    pub same : inner ≡ tag
    pub piece : List A
    pub others : List A
    pub held : Held piece
    pub more : AreSegments inner Holds Whole others rest
    pub whole : rest ≢ [] → Whole piece

  -- segments whose first is primitive
  pub after_primitive : (tag : Tag) (held segment rest c : List ℕ) (string : List A) → IsUsable tag → IsPrimitive ber tag held segment → c ≡ segment ++ rest → AreSegments inner Holds Whole string c → IsFirst tag (λ p. Holds p held) string rest
  after_primitive tag held segment rest c string usable f e AreSegments.none = absurd (not_end segment rest [] (definite_above tag false held segment usable f) tt e)
  after_primitive tag held segment rest c string usable f e (AreSegments.primitive {others = s} {rest = x} piece contents b h w k g) =
      let same = definite_unique ber ber inner tag false false contents held b segment x rest w f e in
      record { same = same.tag; piece = piece; others = s; held = subst (Holds piece) same.contents h; more = subst (AreSegments inner Holds Whole s) same.rest k; whole = λ some. g (λ none. some (sym same.rest ∙ none)) }
  after_primitive tag held segment rest c string usable f e (AreSegments.constructed {others = s} {rest = x} piece contents b h w k g) =
      absurd (primitive_not_constructed tag inner held contents segment b rest x f w (sym e))

  -- segments whose first is constructed in the definite form
  pub after_definite : (tag : Tag) (held segment rest c : List ℕ) (string : List A) → IsUsable tag → IsDefinite ber tag true held segment → c ≡ segment ++ rest → AreSegments inner Holds Whole string c
      → IsFirst tag (λ p. AreSegments inner Holds Whole p held) string rest
  after_definite tag held segment rest c string usable f e AreSegments.none = absurd (not_end segment rest [] (definite_above tag true held segment usable f) tt e)
  after_definite tag held segment rest c string usable f e (AreSegments.primitive {others = s} {rest = x} piece contents b h w k g) =
      absurd (primitive_not_constructed inner tag contents held b segment x rest w (inl f) e)
  after_definite tag held segment rest c string usable f e (AreSegments.constructed {others = s} {rest = x} piece contents b h (inl w) k g) =
      let same = definite_unique ber ber inner tag true true contents held b segment x rest w f e in
      record { same = same.tag; piece = piece; others = s; held = subst (AreSegments inner Holds Whole piece) same.contents h; more = subst (AreSegments inner Holds Whole s) same.rest k; whole = λ some. g (λ none. some (sym same.rest ∙ none)) }
  after_definite tag held segment rest c string usable f e (AreSegments.constructed {others = s} {rest = x} piece contents b h (inr w) k g) =
      absurd (definite_not_indefinite tag inner true held contents segment b rest x f w (sym e))

-- 1A 01 41 is no segment, nor is 24 03 1A 01 41: the tag is asked at each level
no_octets_1A : (string : List ℕ) → OctetSegments string (0x1A ∷ 0x01 ∷ 0x41 ∷ []) → ⊥
no_octets_1A string h =
    let first = after_primitive octet_segment AreOctets AlwaysWhole (universal 26) (0x41 ∷ []) (0x1A ∷ 0x01 ∷ 0x41 ∷ []) [] (0x1A ∷ 0x01 ∷ 0x41 ∷ []) string (λ same none. absurd (omega arith)) (definite ber Universal 26 false (0x41 ∷ []) (omega arith) (omega arith)) refl h in
    not_same 4 26 (omega arith) (ap (λ (t : Tag). t.number) first.same)

no_octets_1A-within : (string : List ℕ) → OctetSegments string (0x24 ∷ 0x03 ∷ 0x1A ∷ 0x01 ∷ 0x41 ∷ []) → ⊥
no_octets_1A-within string h =
    let first = after_definite octet_segment AreOctets AlwaysWhole octet_segment (0x1A ∷ 0x01 ∷ 0x41 ∷ []) (0x24 ∷ 0x03 ∷ 0x1A ∷ 0x01 ∷ 0x41 ∷ []) [] (0x24 ∷ 0x03 ∷ 0x1A ∷ 0x01 ∷ 0x41 ∷ []) string usable_octet (definite ber Universal 4 true (0x1A ∷ 0x01 ∷ 0x41 ∷ []) (omega arith) (omega arith)) refl h in
    no_octets_1A first.piece first.held

-- 00 00 are no segments: in 04 01 41 00 00 they end nothing
no_octets_00_00 : (string : List ℕ) → OctetSegments string (0x00 ∷ 0x00 ∷ []) → ⊥
no_octets_00_00 string h =
    let same = segments_unique octet_segment AreOctets AlwaysWhole (λ a b o f g. sym f ∙ g) usable_octet string (0x00 ∷ 0x00 ∷ []) [] [] [] (0x00 ∷ 0x00 ∷ []) h none_of_none tt refl refl in
    not_same 0 2 (omega arith) (ap length (sym same.octets))

no_octets_41_00_00 : (string : List ℕ) → OctetSegments string (0x04 ∷ 0x01 ∷ 0x41 ∷ 0x00 ∷ 0x00 ∷ []) → ⊥
no_octets_41_00_00 string h =
    let first = after_primitive octet_segment AreOctets AlwaysWhole octet_segment (0x41 ∷ []) (0x04 ∷ 0x01 ∷ 0x41 ∷ []) (0x00 ∷ 0x00 ∷ []) (0x04 ∷ 0x01 ∷ 0x41 ∷ 0x00 ∷ 0x00 ∷ []) string usable_octet (definite ber Universal 4 false (0x41 ∷ []) (omega arith) (omega arith)) refl h in
    no_octets_00_00 first.others first.more

-- primitive identifier octets before 80 begin no encoding
pub no_definite_80 : (tag other : Tag) (form : Bool) (identifier contents octets rest more : List ℕ) → IsIdentifier other false identifier → IsDefinite ber tag form contents octets → octets ++ rest ≡ identifier ++ (0x80 ∷ more) → ⊥
no_definite_80 tag other form identifier contents octets rest more tagged h whole =
    let parts = sym (parts_of_definite ber tag form contents octets rest h) ∙ whole in
    let same = identifier_unique tag other form false h.identifier identifier (h.size ++ (contents ++ rest)) (0x80 ∷ more) h.tagged tagged parts in
    no_length-128 (length contents) h.size (contents ++ rest) more h.sized (sym same.rest)

pub no_indefinite_80 : (tag other : Tag) (identifier contents octets rest more : List ℕ) → IsIdentifier other false identifier → IsIndefinite tag contents octets → octets ++ rest ≡ identifier ++ more → ⊥
no_indefinite_80 tag other identifier contents octets rest more tagged h whole =
    let parts = sym (parts_of_indefinite tag contents octets rest h) ∙ whole in
    let same = identifier_unique tag other true false h.identifier identifier (0x80 ∷ (contents ++ (0x00 ∷ 0x00 ∷ rest))) more h.tagged tagged parts in
    let form : true ≡ false = same.form in
    cc form

-- so 04 80 41 00 00 are no segments
no_octets_04_80 : (string octets more : List ℕ) → octets ≡ 0x04 ∷ 0x80 ∷ more → OctetSegments string octets → ⊥
no_octets_04_80 string octets more whole AreSegments.none = cc
no_octets_04_80 string octets more whole (AreSegments.primitive {rest = rest} piece contents b h w k f) = no_definite_80 octet_segment octet_segment false (0x04 ∷ []) contents b rest more (low_tag Universal 4 false (omega arith)) w whole
no_octets_04_80 string octets more whole (AreSegments.constructed {rest = rest} piece contents b h (inl w) k f) = no_definite_80 octet_segment octet_segment true (0x04 ∷ []) contents b rest more (low_tag Universal 4 false (omega arith)) w whole
no_octets_04_80 string octets more whole (AreSegments.constructed {rest = rest} piece contents b h (inr w) k f) =
    no_indefinite_80 octet_segment octet_segment (0x04 ∷ []) contents b rest (0x80 ∷ more) (low_tag Universal 4 false (omega arith)) w whole

no_octets_04_80_41 : (string : List ℕ) → OctetSegments string (0x04 ∷ 0x80 ∷ 0x41 ∷ 0x00 ∷ 0x00 ∷ []) → ⊥
no_octets_04_80_41 string h = no_octets_04_80 string (0x04 ∷ 0x80 ∷ 0x41 ∷ 0x00 ∷ 0x00 ∷ []) (0x41 ∷ 0x00 ∷ 0x00 ∷ []) refl h

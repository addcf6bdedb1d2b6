-- Lemmas on CER: it cuts a string in one way, and spells what is not cut as DER does.
use Rattle.std.proofs.Common.{◌≡◌, ℕ, ◌+◌, ◌*◌, ◌<◌, List, [], ◌∷◌, ◌++◌, Bool, true, false, inl, inr, length, refl, sym, ◌∙◌, ap, ap₂, subst, arith, length-append}
use Rattle.octets.specs.declared.tag.Tag.{Tag}
use Rattle.octets.specs.Rule.{Rule, cer, der}
use Rattle.octets.proofs.UniqueLemmas.{one_identifier}
use Rattle.octets.proofs.RuleLemmas.{der_is_canonical}
use Rattle.primitives.specs.Bits.{IsBits}
use Rattle.primitives.specs.Boolean.{IsBoolean}
use Rattle.primitives.proofs.BitsLemmas.{length-bits_of, one_canonical_bits}
use Rattle.types.specs.Shape.{SimpleType, SimpleValue, Val}
use Rattle.types.specs.Contents.{IsContents}
use Rattle.types.specs.Encoding.{IsSimpleEncoding}
use Rattle.types.specs.Form.{IsPrimitive, IsIndefinite}
use Rattle.types.specs.Strings.{segment_octets, AreCerSegments, IsStringEncoding, IsWholeOctets, AreOctets, AlwaysWhole}
use Rattle.types.proofs.CanonicalLemmas.{primitive_by_cer, primitive_by_der}
use Rattle.types.proofs.FormLemmas.{one_definite}

-- equal contents octets have one primitive encoding
pub one_primitive : (t : Tag) (c d a b : List ℕ) → c ≡ d → IsPrimitive cer t c a → IsPrimitive cer t d b → a ≡ b
one_primitive t c d a b same h g = one_definite t false d a b (primitive_by_der t d a (subst (λ x. IsPrimitive cer t x a) same h)) (primitive_by_der t d b g)

pub one_indefinite : (t : Tag) (c d a b : List ℕ) → c ≡ d → IsIndefinite t c a → IsIndefinite t d b → a ≡ b
one_indefinite t c d a b same h g =
    h.joined ∙ (ap (λ i. i ++ (128 ∷ (c ++ (0 ∷ 0 ∷ [])))) (one_identifier t true h.identifier g.identifier h.tagged g.tagged) ∙ (ap (λ x. g.identifier ++ (128 ∷ (x ++ (0 ∷ 0 ∷ [])))) same ∙ sym g.joined))

-- two fronts of one length are one
pub same_fronts : {A : Type 0} (a c x y : List A) → length a ≡ length c → a ++ x ≡ c ++ y → (a ≡ c) × (x ≡ y)
same_fronts [] [] x y size same = (refl, same)
same_fronts [] (d ∷ c) x y size same = absurd (omega arith)
same_fronts (d ∷ a) [] x y size same = absurd (omega arith)
same_fronts (d ∷ a) (f ∷ c) x y size same =
    let tails : a ++ x ≡ c ++ y = cc in
    let rest : (a ≡ c) × (x ≡ y) = same_fronts a c x y (omega arith) tails in
    let first : a ≡ c = rest.0 in
    let whole : d ∷ a ≡ f ∷ c = cc in
    (whole, rest.1)

-- what a kind of string has to keep so that it is cut in one way
pub record IsCutOnce {A : Type 0} (Holds : List A → List ℕ → Type 0) (Whole : List A → Type 0) : Type 0 where
  pub one : (p : List A) (c d : List ℕ) → Holds p c → Holds p d → c ≡ d
  pub level : (p q : List A) (c d : List ℕ) → Holds p c → Holds q d → length c ≡ segment_octets → length d ≡ segment_octets → Whole p → Whole q → length p ≡ length q
  pub longer : (p q : List A) (c d : List ℕ) → Holds p c → Holds q d → Whole p → length c ≡ segment_octets → length p < length q → segment_octets < length d

module _ {A : Type 0} (inner : Tag) (Holds : List A → List ℕ → Type 0) (Whole : List A → Type 0) where
  -- segments carry at least one element
  cer_some : (s : List A) (c : List ℕ) → AreCerSegments inner Holds Whole s c → 0 < length s
  cer_some s c (AreCerSegments.last [] contents b h some few w) = absurd (some refl)
  cer_some s c (AreCerSegments.last (x ∷ piece) contents b h some few w) = omega arith
  cer_some s c (AreCerSegments.more {others = s1} {rest = c1} piece contents b h f l w k) = omega (arith, length-append piece s1, cer_some s1 c1 k)

  module _ (once : IsCutOnce Holds Whole) where
    -- a string has one row of segments
    pub one_cut : (s u : List A) (c d : List ℕ) → s ≡ u → AreCerSegments inner Holds Whole s c → AreCerSegments inner Holds Whole u d → c ≡ d
    one_cut s u c d same (AreCerSegments.last p1 o1 b1 h1 n1 l1 w1) (AreCerSegments.last p2 o2 b2 h2 n2 l2 w2) =
        one_primitive inner o1 o2 b1 b2 (once.one p2 o1 o2 (subst (λ p. Holds p o1) same h1) h2) w1 w2
    one_cut s u c d same (AreCerSegments.last p1 o1 b1 h1 n1 l1 w1) (AreCerSegments.more {others = s2} {rest = c2} p2 o2 b2 h2 f2 l2 w2 k2) =
        let size : length p1 ≡ length (p2 ++ s2) = ap length same in
        absurd (omega (arith, l1, once.longer p2 p1 o2 o1 h2 h1 f2 l2 (omega (arith, size, length-append p2 s2, cer_some s2 c2 k2))))
    one_cut s u c d same (AreCerSegments.more {others = s1} {rest = c1} p1 o1 b1 h1 f1 l1 w1 k1) (AreCerSegments.last p2 o2 b2 h2 n2 l2 w2) =
        let size : length (p1 ++ s1) ≡ length p2 = ap length same in
        absurd (omega (arith, l2, once.longer p1 p2 o1 o2 h1 h2 f1 l1 (omega (arith, size, length-append p1 s1, cer_some s1 c1 k1))))
    one_cut s u c d same (AreCerSegments.more {others = s1} {rest = c1} p1 o1 b1 h1 f1 l1 w1 k1) (AreCerSegments.more {others = s2} {rest = c2} p2 o2 b2 h2 f2 l2 w2 k2) =
        let parts = same_fronts p1 p2 s1 s2 (once.level p1 p2 o1 o2 h1 h2 l1 l2 f1 f2) same in
        ap₂ (λ i j. i ++ j) (one_primitive inner o1 o2 b1 b2 (once.one p2 o1 o2 (subst (λ p. Holds p o1) parts.0 h1) h2) w1 w2) (one_cut s1 s2 c1 c2 parts.1 k1 k2)

    -- and one encoding
    pub one_string_encoding : (tag : Tag) (s : List A) (a b : List ℕ) → IsStringEncoding cer tag inner Holds Whole s a → IsStringEncoding cer tag inner Holds Whole s b → a ≡ b
    one_string_encoding tag s a b (inl f) (inl g) = one_primitive tag f.contents g.contents a b (once.one s f.contents g.contents f.holds g.holds) f.primitive g.primitive
    one_string_encoding tag s a b (inl f) (inr g) = absurd (omega (arith, f.short, g.long f.contents f.holds))
    one_string_encoding tag s a b (inr f) (inl g) = absurd (omega (arith, g.short, f.long g.contents g.holds))
    one_string_encoding tag s a b (inr f) (inr g) = one_indefinite tag f.segments_octets g.segments_octets a b (one_cut s s f.segments_octets g.segments_octets refl f.segments g.segments) f.constructed g.constructed

-- octets are cut in one way
pub octets_cut_once : IsCutOnce AreOctets AlwaysWhole
octets_cut_once = record {
  one = λ p c d h k. h ∙ sym k;
  level = λ p q c d h k l m f g. omega (arith, ap length h, ap length k, l, m);
  longer = λ p q c d h k f l less. omega (arith, ap length h, ap length k, l, less);
}

-- how many bits there are in so many contents octets
pub bits_count : (rule : Rule) (bits : List Bool) (contents : List ℕ) → (h : IsBits rule bits contents) → 8 * length contents ≡ length bits + h.unused + 8
bits_count rule bits contents h = omega (arith, ap length h.contents_are, length-bits_of h.octets, ap length h.bits_are, length-append bits h.tail, h.tail_is)

-- CER and DER have the same contents octets
pub bits_by_der : (bits : List Bool) (contents : List ℕ) → IsBits cer bits contents → IsBits der bits contents
bits_by_der bits contents h = record { unused = h.unused; octets = h.octets; tail = h.tail; contents_are = h.contents_are; at_most_7 = h.at_most_7; below_256 = h.below_256; bits_are = h.bits_are; tail_is = h.tail_is; free = h.free }

pub bits_by_cer : (bits : List Bool) (contents : List ℕ) → IsBits der bits contents → IsBits cer bits contents
bits_by_cer bits contents h = record { unused = h.unused; octets = h.octets; tail = h.tail; contents_are = h.contents_are; at_most_7 = h.at_most_7; below_256 = h.below_256; bits_are = h.bits_are; tail_is = h.tail_is; free = h.free }

pub one_der_bits : (bits : List Bool) (c d : List ℕ) → IsBits der bits c → IsBits der bits d → c ≡ d
one_der_bits bits c d h k = one_canonical_bits der der bits c d der_is_canonical der_is_canonical h k

-- a full segment of whole octets
full_bits : (bits : List Bool) (contents : List ℕ) → IsBits cer bits contents → length contents ≡ segment_octets → IsWholeOctets bits → length bits ≡ 7992
full_bits bits contents h full whole = omega (arith, bits_count cer bits contents h, full, h.at_most_7, whole.1)

-- bits are cut in one way
pub bits_cut_once : IsCutOnce (IsBits cer) IsWholeOctets
bits_cut_once = record {
  one = λ p c d h k. one_der_bits p c d (bits_by_der p c h) (bits_by_der p d k);
  level = λ p q c d h k l m f g. full_bits p c h l f ∙ sym (full_bits q d k m g);
  longer = λ p q c d h k f l less. omega (arith, full_bits p c h l f, bits_count cer q d k, less);
}

boolean_by_der : (truth : Bool) (contents : List ℕ) → IsBoolean cer truth contents → IsBoolean der truth contents
boolean_by_der true contents h = h
boolean_by_der false contents h = h

boolean_by_cer : (truth : Bool) (contents : List ℕ) → IsBoolean der truth contents → IsBoolean cer truth contents
boolean_by_cer true contents h = h
boolean_by_cer false contents h = h

pub contents_by_der : (v : SimpleValue) (contents : List ℕ) → IsContents cer v contents → IsContents der v contents
contents_by_der (SimpleValue.boolean truth) contents h = boolean_by_der truth contents h
contents_by_der (SimpleValue.integer number) contents h = h
contents_by_der (SimpleValue.wide_integer octets) contents h = h
contents_by_der (SimpleValue.enumerated number) contents h = h
contents_by_der SimpleValue.null contents h = h
contents_by_der (SimpleValue.oid arcs) contents h = h
contents_by_der (SimpleValue.relative_oid arcs) contents h = h

pub contents_by_cer : (v : SimpleValue) (contents : List ℕ) → IsContents der v contents → IsContents cer v contents
contents_by_cer (SimpleValue.boolean truth) contents h = boolean_by_cer truth contents h
contents_by_cer (SimpleValue.integer number) contents h = h
contents_by_cer (SimpleValue.wide_integer octets) contents h = h
contents_by_cer (SimpleValue.enumerated number) contents h = h
contents_by_cer SimpleValue.null contents h = h
contents_by_cer (SimpleValue.oid arcs) contents h = h
contents_by_cer (SimpleValue.relative_oid arcs) contents h = h

-- CER and DER have the same encodings of a type without strings
pub simple_by_der : (tag : Tag) (type : SimpleType) (v : Val) (octets : List ℕ) → IsSimpleEncoding cer tag type v octets → IsSimpleEncoding der tag type v octets
simple_by_der tag type v octets h =
    record { value = h.value; is = h.is; conforms = h.conforms; contents = h.contents; spelt = contents_by_der h.value h.contents h.spelt; primitive = primitive_by_der tag h.contents octets h.primitive }

pub simple_by_cer : (tag : Tag) (type : SimpleType) (v : Val) (octets : List ℕ) → IsSimpleEncoding der tag type v octets → IsSimpleEncoding cer tag type v octets
simple_by_cer tag type v octets h =
    record { value = h.value; is = h.is; conforms = h.conforms; contents = h.contents; spelt = contents_by_cer h.value h.contents h.spelt; primitive = primitive_by_cer tag h.contents octets h.primitive }

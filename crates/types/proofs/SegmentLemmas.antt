-- Lemmas on strings in segments: octets are segments of one string, and end at one place.
use Rattle.std.proofs.Common.{◌≡◌, inl, inr, ℕ, true, false, List, [], ◌∷◌, ◌++◌, refl, sym, ap, ap₂, ◌∙◌, subst, append_assoc}
use Rattle.std.proofs.lemmas.List.{append_cancel_left}
use Rattle.octets.specs.declared.tag.Tag.{Tag}
use Rattle.octets.specs.Rule.{ber}
use Rattle.types.specs.Form.{IsConstructed}
use Rattle.types.specs.FirstTags.{IsUsable}
use Rattle.types.specs.Strings.{AreSegments, IsStringEncoding}
use Rattle.types.proofs.FormLemmas.{definite_unique}
use Rattle.types.proofs.NestingLemmas.{IsEnd, not_end, definite_above, constructed_above, definite_not_indefinite, indefinite_opening, primitive_not_constructed}

module _ {A : Type 0} (inner : Tag) (Holds : List A → List ℕ → Type 0) (Whole : List A → Type 0) (one : (p q : List A) (c : List ℕ) → Holds p c → Holds q c → p ≡ q) (usable : IsUsable inner) where
  pub record AreSame (p : List A) (c : List ℕ) (q : List A) (d : List ℕ) : Type 0 where
    pub octets : c ≡ d
    pub string : p ≡ q

  -- one segment more
  both : (p1 p2 s1 s2 : List A) (b1 b2 c1 c2 : List ℕ) → b1 ≡ b2 → p1 ≡ p2 → AreSame s1 c1 s2 c2 → AreSame (p1 ++ s1) (b1 ++ c1) (p2 ++ s2) (b2 ++ c2)
  both p1 p2 s1 s2 b1 b2 c1 c2 octets string rest = record { octets = ap₂ (λ x y. x ++ y) octets rest.octets; string = ap₂ (λ x y. x ++ y) string rest.string }

  after : (b1 b2 c1 c2 x y : List ℕ) → b1 ≡ b2 → b1 ++ (c1 ++ x) ≡ b2 ++ (c2 ++ y) → c1 ++ x ≡ c2 ++ y
  after b1 b2 c1 c2 x y same whole = append_cancel_left b2 (c1 ++ x) (c2 ++ y) (subst (λ z. z ++ (c1 ++ x) ≡ b2 ++ (c2 ++ y)) same whole)

  pub segments_unique : (p : List A) (c : List ℕ) (q : List A) (d x y : List ℕ) → AreSegments inner Holds Whole p c → AreSegments inner Holds Whole q d → IsEnd x → IsEnd y → c ++ x ≡ d ++ y → AreSame p c q d
  segments_unique p c q d x y AreSegments.none AreSegments.none m n e = record { octets = refl; string = refl }
  segments_unique p c q d x y AreSegments.none (AreSegments.primitive {rest = d'} piece contents b h w k f) m n e =
      absurd (not_end b (d' ++ y) x (definite_above inner false contents b usable w) m (e ∙ append_assoc b d' y))
  segments_unique p c q d x y AreSegments.none (AreSegments.constructed {rest = d'} piece contents b h w k f) m n e =
      absurd (not_end b (d' ++ y) x (constructed_above inner contents b usable w) m (e ∙ append_assoc b d' y))
  segments_unique p c q d x y (AreSegments.primitive {rest = c'} piece contents b h w k f) AreSegments.none m n e =
      absurd (not_end b (c' ++ x) y (definite_above inner false contents b usable w) n (sym e ∙ append_assoc b c' x))
  segments_unique p c q d x y (AreSegments.constructed {rest = c'} piece contents b h w k f) AreSegments.none m n e =
      absurd (not_end b (c' ++ x) y (constructed_above inner contents b usable w) n (sym e ∙ append_assoc b c' x))
  segments_unique p c q d x y (AreSegments.primitive {others = s1} {rest = c1} p1 o1 b1 h1 w1 k1 f1) (AreSegments.primitive {others = s2} {rest = c2} p2 o2 b2 h2 w2 k2 f2) m n e =
      let z : b1 ++ (c1 ++ x) ≡ b2 ++ (c2 ++ y) = sym (append_assoc b1 c1 x) ∙ (e ∙ append_assoc b2 c2 y) in
      let same = definite_unique ber ber inner inner false false o1 o2 b1 b2 (c1 ++ x) (c2 ++ y) w1 w2 z in
      let rest = segments_unique s1 c1 s2 c2 x y k1 k2 m n same.rest in
      both p1 p2 s1 s2 b1 b2 c1 c2 same.octets (one p1 p2 o2 (subst (Holds p1) same.contents h1) h2) rest
  segments_unique p c q d x y (AreSegments.primitive {others = s1} {rest = c1} p1 o1 b1 h1 w1 k1 f1) (AreSegments.constructed {others = s2} {rest = c2} p2 o2 b2 h2 w2 k2 f2) m n e =
      let z : b1 ++ (c1 ++ x) ≡ b2 ++ (c2 ++ y) = sym (append_assoc b1 c1 x) ∙ (e ∙ append_assoc b2 c2 y) in
      absurd (primitive_not_constructed inner inner o1 o2 b1 b2 (c1 ++ x) (c2 ++ y) w1 w2 z)
  segments_unique p c q d x y (AreSegments.constructed {others = s1} {rest = c1} p1 o1 b1 h1 w1 k1 f1) (AreSegments.primitive {others = s2} {rest = c2} p2 o2 b2 h2 w2 k2 f2) m n e =
      let z : b1 ++ (c1 ++ x) ≡ b2 ++ (c2 ++ y) = sym (append_assoc b1 c1 x) ∙ (e ∙ append_assoc b2 c2 y) in
      absurd (primitive_not_constructed inner inner o2 o1 b2 b1 (c2 ++ y) (c1 ++ x) w2 w1 (sym z))
  segments_unique p c q d x y (AreSegments.constructed {others = s1} {rest = c1} p1 o1 b1 h1 (inl w1) k1 f1) (AreSegments.constructed {others = s2} {rest = c2} p2 o2 b2 h2 (inl w2) k2 f2) m n e =
      let z : b1 ++ (c1 ++ x) ≡ b2 ++ (c2 ++ y) = sym (append_assoc b1 c1 x) ∙ (e ∙ append_assoc b2 c2 y) in
      let same = definite_unique ber ber inner inner true true o1 o2 b1 b2 (c1 ++ x) (c2 ++ y) w1 w2 z in
      let within = segments_unique p1 o1 p2 o2 [] [] h1 h2 tt tt (ap (λ g. g ++ []) same.contents) in
      let rest = segments_unique s1 c1 s2 c2 x y k1 k2 m n same.rest in
      both p1 p2 s1 s2 b1 b2 c1 c2 same.octets within.string rest
  segments_unique p c q d x y (AreSegments.constructed {others = s1} {rest = c1} p1 o1 b1 h1 (inl w1) k1 f1) (AreSegments.constructed {others = s2} {rest = c2} p2 o2 b2 h2 (inr w2) k2 f2) m n e =
      let z : b1 ++ (c1 ++ x) ≡ b2 ++ (c2 ++ y) = sym (append_assoc b1 c1 x) ∙ (e ∙ append_assoc b2 c2 y) in
      absurd (definite_not_indefinite inner inner true o1 o2 b1 b2 (c1 ++ x) (c2 ++ y) w1 w2 z)
  segments_unique p c q d x y (AreSegments.constructed {others = s1} {rest = c1} p1 o1 b1 h1 (inr w1) k1 f1) (AreSegments.constructed {others = s2} {rest = c2} p2 o2 b2 h2 (inl w2) k2 f2) m n e =
      let z : b1 ++ (c1 ++ x) ≡ b2 ++ (c2 ++ y) = sym (append_assoc b1 c1 x) ∙ (e ∙ append_assoc b2 c2 y) in
      absurd (definite_not_indefinite inner inner true o2 o1 b2 b1 (c2 ++ y) (c1 ++ x) w2 w1 (sym z))
  segments_unique p c q d x y (AreSegments.constructed {others = s1} {rest = c1} p1 o1 b1 h1 (inr w1) k1 f1) (AreSegments.constructed {others = s2} {rest = c2} p2 o2 b2 h2 (inr w2) k2 f2) m n e =
      let z : b1 ++ (c1 ++ x) ≡ b2 ++ (c2 ++ y) = sym (append_assoc b1 c1 x) ∙ (e ∙ append_assoc b2 c2 y) in
      let opening = indefinite_opening inner inner o1 o2 b1 b2 (c1 ++ x) (c2 ++ y) w1 w2 z in
      let within = segments_unique p1 o1 p2 o2 (0 ∷ 0 ∷ (c1 ++ x)) (0 ∷ 0 ∷ (c2 ++ y)) h1 h2 refl refl opening.contents in
      let same : b1 ≡ b2 = opening.octets within.octets in
      let rest = segments_unique s1 c1 s2 c2 x y k1 k2 m n (after b1 b2 c1 c2 x y same z) in
      both p1 p2 s1 s2 b1 b2 c1 c2 same within.string rest

  -- the encodings of strings under BER: none begins another, and one has one string
  pub record AreSameStrings (p q : List A) (a b r s : List ℕ) : Type 0 where
    pub string : p ≡ q
    pub octets : a ≡ b
    pub rest : r ≡ s

  in_segments : (t : Tag) (p q : List A) (c d a b r s : List ℕ) → AreSegments inner Holds Whole p c → AreSegments inner Holds Whole q d → IsConstructed ber t c a → IsConstructed ber t d b → a ++ r ≡ b ++ s → AreSameStrings p q a b r s
  in_segments t p q c d a b r s h k (inl f) (inl g) whole =
      let same = definite_unique ber ber t t true true c d a b r s f g whole in
      let within = segments_unique p c q d [] [] h k tt tt (ap (λ x. x ++ []) same.contents) in
      record { string = within.string; octets = same.octets; rest = same.rest }
  in_segments t p q c d a b r s h k (inl f) (inr g) whole = absurd (definite_not_indefinite t t true c d a b r s f g whole)
  in_segments t p q c d a b r s h k (inr f) (inl g) whole = absurd (definite_not_indefinite t t true d c b a s r g f (sym whole))
  in_segments t p q c d a b r s h k (inr f) (inr g) whole =
      let opening = indefinite_opening t t c d a b r s f g whole in
      let within = segments_unique p c q d (0 ∷ 0 ∷ r) (0 ∷ 0 ∷ s) h k refl refl opening.contents in
      let same : a ≡ b = opening.octets within.octets in
      record { string = within.string; octets = same; rest = append_cancel_left b r s (subst (λ x. x ++ r ≡ b ++ s) same whole) }

  pub string_unique : (t : Tag) (p q : List A) (a b r s : List ℕ) → IsStringEncoding ber t inner Holds Whole p a → IsStringEncoding ber t inner Holds Whole q b → a ++ r ≡ b ++ s → AreSameStrings p q a b r s
  string_unique t p q a b r s (inl f) (inl g) whole =
      let same = definite_unique ber ber t t false false f.contents g.contents a b r s f.primitive g.primitive whole in
      record { string = one p q g.contents (subst (Holds p) same.contents f.holds) g.holds; octets = same.octets; rest = same.rest }
  string_unique t p q a b r s (inl f) (inr g) whole = absurd (primitive_not_constructed t t f.contents g.contents a b r s f.primitive g.constructed whole)
  string_unique t p q a b r s (inr f) (inl g) whole = absurd (primitive_not_constructed t t g.contents f.contents b a s r g.primitive f.constructed (sym whole))
  string_unique t p q a b r s (inr f) (inr g) whole = in_segments t p q f.contents g.contents a b r s f.segments g.segments f.constructed g.constructed whole

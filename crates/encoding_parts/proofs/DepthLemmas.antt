-- Lemmas on how deep segments nest.
use Rattle.std.proofs.Common.{◌≡◌, ◌≢◌, inl, inr, ℕ, zero, suc, true, false, List, [], ◌∷◌, ◌++◌, refl, sym, ap, ap₂, ◌∙◌, subst, append_assoc}
use Rattle.std.specs.List.{AllByRecursion, concat}
use Rattle.std.proofs.lemmas.List.{append_cancel_left}
use Rattle.octets.specs.declared.tag.Tag.{Tag}
use Rattle.octets.specs.Rule.{ber}
use Rattle.types.specs.Form.{IsPrimitive, IsConstructed}
use Rattle.types.specs.FirstTags.{IsUsable}
use Rattle.types.specs.Depth.{IsSomePrimitive, IsConstructedOf, IsNested}
use Rattle.types.specs.Strings.{AreSegments}
use Rattle.types.proofs.FormLemmas.{definite_unique}
use Rattle.types.proofs.NestingLemmas.{IsEnd, not_end, nested_above, nested_unique, definite_above, constructed_above, definite_not_indefinite, indefinite_opening, primitive_not_constructed}

-- a primitive encoding nests nothing
pub nested_primitive : (n : ℕ) (octets : List ℕ) → IsSomePrimitive octets → IsNested n octets
unfolding IsNested
nested_primitive zero octets h = h
nested_primitive (suc n) octets h = inl h

pub nested_constructed : (n : ℕ) (octets : List ℕ) → IsConstructedOf (IsNested n) octets → IsNested (suc n) octets
unfolding IsNested
nested_constructed n octets h = inr h

-- an encoding that is as deep as it is constructed
pub record IsDeeper (n : ℕ) (octets : List ℕ) : Type 0 where
  pub levels : ℕ
  pub is : n ≡ suc levels
  pub within : IsConstructedOf (IsNested levels) octets

pub deeper : (n : ℕ) (tag : Tag) (c a b r s : List ℕ) → IsConstructed ber tag c a → IsNested n b → a ++ r ≡ b ++ s → IsDeeper n b
unfolding IsNested
deeper zero tag c a b r s h k whole = absurd (primitive_not_constructed k.tag tag k.contents c b a s r k.whole h (sym whole))
deeper (suc n) tag c a b r s h (inl k) whole = absurd (primitive_not_constructed k.tag tag k.contents c b a s r k.whole h (sym whole))
deeper (suc n) tag c a b r s h (inr k) whole = record { levels = n; is = refl; within = k }

-- segments that nest at most so deep
pub data SegmentsWithin {A : Type 0} (inner : Tag) (Holds : List A → List ℕ → Type 0) (Whole : List A → Type 0) : ℕ → List A → List ℕ → Type 0 where
  none : {n : ℕ} → SegmentsWithin inner Holds Whole n [] []
  primitive : {n : ℕ} {others : List A} {rest : List ℕ} (piece : List A) (contents segment : List ℕ) → Holds piece contents → IsPrimitive ber inner contents segment
      → SegmentsWithin inner Holds Whole n others rest → (rest ≢ [] → Whole piece) → SegmentsWithin inner Holds Whole n (piece ++ others) (segment ++ rest)
  constructed : {n : ℕ} {others : List A} {rest : List ℕ} (m : ℕ) (piece : List A) (contents segment : List ℕ) → n ≡ suc m → SegmentsWithin inner Holds Whole m piece contents → IsConstructed ber inner contents segment
      → SegmentsWithin inner Holds Whole n others rest → (rest ≢ [] → Whole piece) → SegmentsWithin inner Holds Whole n (piece ++ others) (segment ++ rest)

module _ {A : Type 0} (inner : Tag) (Holds : List A → List ℕ → Type 0) (Whole : List A → Type 0) (kept : IsUsable inner) where
  -- the segments are the parts
  pub record AreParts (n : ℕ) (p : List A) (c d : List ℕ) : Type 0 where
    pub same : c ≡ d
    pub within : SegmentsWithin inner Holds Whole n p c

  -- one constructed encoding, by what is within it
  pub record IsPart (m : ℕ) (p : List A) (c a b : List ℕ) : Type 0 where
    pub same : a ≡ b
    pub within : SegmentsWithin inner Holds Whole m p c

  pub constructed_part : (m : ℕ) (t u : Tag) (p : List A) (c : List ℕ) (qs : List (List ℕ)) (a b r s : List ℕ)
      → ((x y : List ℕ) → IsEnd x → IsEnd y → c ++ x ≡ concat qs ++ y → AreParts m p c (concat qs))
      → IsConstructed ber t c a → IsConstructed ber u (concat qs) b → a ++ r ≡ b ++ s → IsPart m p c a b
  constructed_part m t u p c qs a b r s within (inl f) (inl g) whole =
      let same = definite_unique ber ber t u true true c (concat qs) a b r s f g whole in
      record { same = same.octets; within = (within [] [] tt tt (ap (λ x. x ++ []) same.contents)).within }
  constructed_part m t u p c qs a b r s within (inl f) (inr g) whole = absurd (definite_not_indefinite t u true c (concat qs) a b r s f g whole)
  constructed_part m t u p c qs a b r s within (inr f) (inl g) whole = absurd (definite_not_indefinite u t true (concat qs) c b a s r g f (sym whole))
  constructed_part m t u p c qs a b r s within (inr f) (inr g) whole =
      let opening = indefinite_opening t u c (concat qs) a b r s f g whole in
      let parts = within (0 ∷ 0 ∷ r) (0 ∷ 0 ∷ s) refl refl opening.contents in
      record { same = opening.octets parts.same; within = parts.within }

  rest_of : (b q c d x y : List ℕ) → b ≡ q → b ++ (c ++ x) ≡ q ++ (d ++ y) → c ++ x ≡ d ++ y
  rest_of b q c d x y same whole = append_cancel_left q (c ++ x) (d ++ y) (subst (λ z. z ++ (c ++ x) ≡ q ++ (d ++ y)) same whole)

  pub match_parts : (n : ℕ) (p : List A) (c : List ℕ) (qs : List (List ℕ)) (x y : List ℕ) → AreSegments inner Holds Whole p c → AllByRecursion (IsNested n) qs → IsEnd x → IsEnd y → c ++ x ≡ concat qs ++ y → AreParts n p c (concat qs)
  match_parts n p c [] x y AreSegments.none k m e whole = record { same = refl; within = SegmentsWithin.none }
  match_parts n p c (q ∷ qs) x y AreSegments.none k m e whole = absurd (not_end q (concat qs ++ y) x (nested_above n q k.0) m (whole ∙ append_assoc q (concat qs) y))
  match_parts n p c [] x y (AreSegments.primitive {rest = d} piece contents b h w others f) k m e whole =
      absurd (not_end b (d ++ x) y (definite_above inner false contents b kept w) e (sym whole ∙ append_assoc b d x))
  match_parts n p c [] x y (AreSegments.constructed {rest = d} piece contents b h w others f) k m e whole =
      absurd (not_end b (d ++ x) y (constructed_above inner contents b kept w) e (sym whole ∙ append_assoc b d x))
  match_parts n p c (q ∷ qs) x y (AreSegments.primitive {others = s} {rest = d} piece contents b h w others f) k m e whole =
      let z : b ++ (d ++ x) ≡ q ++ (concat qs ++ y) = sym (append_assoc b d x) ∙ (whole ∙ append_assoc q (concat qs) y) in
      let same : b ≡ q = nested_unique 0 n b q (d ++ x) (concat qs ++ y) (nested_primitive 0 b record { tag = inner; usable = kept; contents = contents; whole = w }) k.0 z in
      let rest = match_parts n s d qs x y others k.1 m e (rest_of b q d (concat qs) x y same z) in
      record { same = ap₂ (λ g l. g ++ l) same rest.same; within = SegmentsWithin.primitive piece contents b h w rest.within f }
  match_parts n p c (q ∷ qs) x y (AreSegments.constructed {others = s} {rest = d} piece contents b h w others f) k m e whole =
      let z : b ++ (d ++ x) ≡ q ++ (concat qs ++ y) = sym (append_assoc b d x) ∙ (whole ∙ append_assoc q (concat qs) y) in
      let deep = deeper n inner contents b q (d ++ x) (concat qs ++ y) w k.0 z in
      let part = constructed_part deep.levels inner deep.within.tag piece contents deep.within.parts b q (d ++ x) (concat qs ++ y)
      (λ g l i j t. match_parts deep.levels piece contents deep.within.parts g l h deep.within.each i j t) w deep.within.whole z in
      let rest = match_parts n s d qs x y others k.1 m e (rest_of b q d (concat qs) x y part.same z) in
      record { same = ap₂ (λ g l. g ++ l) part.same rest.same; within = SegmentsWithin.constructed deep.levels piece contents b deep.is part.within w rest.within f }

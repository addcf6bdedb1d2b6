-- Lemmas on nested encodings: none begins another, whatever the types.
use Rattle.std.proofs.Common.{◌≡◌, ◌≢◌, inl, inr, ◌+◌, ◌<◌, ℕ, zero, suc, Bool, true, false, List, [], ◌∷◌, ◌++◌, length, refl, sym, ap, ap₂, ◌∙◌, subst, arith, append_assoc}
use Rattle.std.specs.List.{AllByRecursion, concat}
use Rattle.std.proofs.lemmas.List.{append_cancel_left}
use Rattle.octets.specs.declared.tag.Class.{Class}
use Rattle.octets.specs.declared.tag.Class.TheVariants.{Universal, Application, Context, Private}
use Rattle.octets.specs.declared.tag.Tag.{Tag}
use Rattle.octets.specs.Identifier.{class_bits, form_bit, IsIdentifier}
use Rattle.octets.specs.Length.{IsLength}
use Rattle.octets.specs.Rule.{ber}
use Rattle.octets.proofs.IdentifierLemmas.{identifier_unique}
use Rattle.types.specs.Form.{IsDefinite, IsIndefinite, IsPrimitive, IsConstructed}
use Rattle.types.specs.FirstTags.{IsUsable}
use Rattle.types.specs.Depth.{IsSomePrimitive, IsConstructedOf, IsNested}
use Rattle.types.proofs.FormLemmas.{definite_unique, parts_of_definite}

-- the octets begin with one that is not 0
pub record IsAboveZero (octets : List ℕ) : Type 0 where
  pub first : ℕ
  pub others : List ℕ
  pub above : 0 < first
  pub is : octets ≡ first ∷ others

-- nothing, or what begins with an octet 0
abbrev pub IsEnd : List ℕ → Type 0
IsEnd [] = Unit {0}
IsEnd (first ∷ others) = first ≡ 0

pub not_end : (octets rest whole : List ℕ) → IsAboveZero octets → IsEnd whole → whole ≡ octets ++ rest → ⊥
not_end octets rest [] h e same = let begins : [] ≡ (h.first ∷ h.others) ++ rest = same ∙ ap (λ x. x ++ rest) h.is in cc
not_end octets rest (n ∷ whole) h e same =
    let begins : n ∷ whole ≡ (h.first ∷ h.others) ++ rest = same ∙ ap (λ x. x ++ rest) h.is in
    let first : n ≡ h.first = cc in
    omega (arith, h.above)

first_above : (c : Class) (j : Bool) (n : ℕ) → (c ≡ Universal → n ≢ 0) → 0 < class_bits c + form_bit j + n
first_above Universal j n h = let other : n ≢ 0 = h refl in omega arith
first_above Application j n h = omega arith
first_above Context j n h = omega arith
first_above Private j n h = omega arith

pub identifier_above : (t : Tag) (j : Bool) (a : List ℕ) → IsUsable t → IsIdentifier t j a → IsAboveZero a
identifier_above t j a usable (inl h) = record { first = class_bits t.class + form_bit j + t.number; others = []; above = first_above t.class j t.number usable; is = h.spelt }
identifier_above t j a usable (inr h) = record { first = class_bits t.class + form_bit j + 31; others = h.following; above = omega arith; is = h.spelt }

pub definite_above : (t : Tag) (j : Bool) (c a : List ℕ) → IsUsable t → IsDefinite ber t j c a → IsAboveZero a
definite_above t j c a usable h =
    let begins = identifier_above t j h.identifier usable h.tagged in
    record { first = begins.first; others = begins.others ++ (h.size ++ c); above = begins.above; is = h.joined ∙ ap (λ x. x ++ (h.size ++ c)) begins.is }

pub constructed_above : (t : Tag) (c a : List ℕ) → IsUsable t → IsConstructed ber t c a → IsAboveZero a
constructed_above t c a usable (inl h) = definite_above t true c a usable h
constructed_above t c a usable (inr h) =
    let begins = identifier_above t true h.identifier usable h.tagged in
    let rest = 128 ∷ (c ++ (0 ∷ 0 ∷ [])) in
    record { first = begins.first; others = begins.others ++ rest; above = begins.above; is = h.joined ∙ ap (λ x. x ++ rest) begins.is }

pub no_length-128 : (n : ℕ) (size q r : List ℕ) → IsLength n size → 128 ∷ r ≡ size ++ q → ⊥
no_length-128 n size q r (inl h) whole =
    let heads : 128 ∷ r ≡ n ∷ q = whole ∙ ap (λ t. t ++ q) h.spelt in
    let same : 128 ≡ n = cc heads in
    absurd (omega (arith, h.low))
no_length-128 n size q r (inr h) whole =
    let heads : 128 ∷ r ≡ (128 + length h.digits) ∷ (h.digits ++ q) = whole ∙ ap (λ t. t ++ q) h.spelt in
    let same : 128 ≡ 128 + length h.digits = cc heads in
    absurd (omega (arith, h.at_least_one))

-- the parts of an encoding of the indefinite form before what follows it
pub parts_of_indefinite : (t : Tag) (c a r : List ℕ) → (h : IsIndefinite t c a) → a ++ r ≡ h.identifier ++ (128 ∷ (c ++ (0 ∷ 0 ∷ r)))
parts_of_indefinite t c a r h = rw h.joined (simp append_assoc)

-- a definite and an indefinite encoding never begin alike
pub definite_not_indefinite : (t u : Tag) (j : Bool) (c d a b r s : List ℕ) → IsDefinite ber t j c a → IsIndefinite u d b → a ++ r ≡ b ++ s → ⊥
definite_not_indefinite t u j c d a b r s f g whole =
    let parts : f.identifier ++ (f.size ++ (c ++ r)) ≡ g.identifier ++ (128 ∷ (d ++ (0 ∷ 0 ∷ s))) = sym (parts_of_definite ber t j c a r f) ∙ (whole ∙ parts_of_indefinite u d b s g) in
    let same = identifier_unique t u j true f.identifier g.identifier (f.size ++ (c ++ r)) (128 ∷ (d ++ (0 ∷ 0 ∷ s))) f.tagged g.tagged parts in
    no_length-128 (length c) f.size (c ++ r) (d ++ (0 ∷ 0 ∷ s)) f.sized (sym same.rest)

-- what follows the octet 80 of two indefinite encodings that begin alike
pub record IsSameOpening (t u : Tag) (c d a b r s : List ℕ) : Type 0 where
  pub tag : t ≡ u
  pub contents : c ++ (0 ∷ 0 ∷ r) ≡ d ++ (0 ∷ 0 ∷ s)
  pub octets : c ≡ d → a ≡ b

pub indefinite_opening : (t u : Tag) (c d a b r s : List ℕ) → IsIndefinite t c a → IsIndefinite u d b → a ++ r ≡ b ++ s → IsSameOpening t u c d a b r s
indefinite_opening t u c d a b r s f g whole =
    let parts : f.identifier ++ (128 ∷ (c ++ (0 ∷ 0 ∷ r))) ≡ g.identifier ++ (128 ∷ (d ++ (0 ∷ 0 ∷ s))) = sym (parts_of_indefinite t c a r f) ∙ (whole ∙ parts_of_indefinite u d b s g) in
    let same = identifier_unique t u true true f.identifier g.identifier (128 ∷ (c ++ (0 ∷ 0 ∷ r))) (128 ∷ (d ++ (0 ∷ 0 ∷ s))) f.tagged g.tagged parts in
    let rest : 128 ∷ (c ++ (0 ∷ 0 ∷ r)) ≡ 128 ∷ (d ++ (0 ∷ 0 ∷ s)) = same.rest in
    record {
      tag = same.tag;
      contents = cc;
      octets = λ e. f.joined ∙ (ap₂ (λ x y. x ++ (128 ∷ (y ++ (0 ∷ 0 ∷ [])))) same.octets e ∙ sym g.joined);
    }

pub primitive_not_constructed : (t u : Tag) (c d a b r s : List ℕ) → IsPrimitive ber t c a → IsConstructed ber u d b → a ++ r ≡ b ++ s → ⊥
primitive_not_constructed t u c d a b r s f (inl g) whole =
    let same = definite_unique ber ber t u false true c d a b r s f g whole in
    let form : false ≡ true = same.form in cc
primitive_not_constructed t u c d a b r s f (inr g) whole = definite_not_indefinite t u false c d a b r s f g whole

-- a front of one kind and one of another of one list are the same
abbrev pub AreApart : (List ℕ → Type 0) → (List ℕ → Type 0) → Type 0
AreApart P Q = (a b r s : List ℕ) → P a → Q b → a ++ r ≡ b ++ s → a ≡ b

-- parts, of which none begins another, up to an end
pub parts_unique : (P Q : List ℕ → Type 0) → AreApart P Q → ((a : List ℕ) → P a → IsAboveZero a) → ((a : List ℕ) → Q a → IsAboveZero a)
    → (ps qs : List (List ℕ)) (x y : List ℕ) → AllByRecursion P ps → AllByRecursion Q qs → IsEnd x → IsEnd y → concat ps ++ x ≡ concat qs ++ y → ps ≡ qs
parts_unique P Q apart f g [] [] x y h k m n whole = refl
parts_unique P Q apart f g [] (q ∷ qs) x y h k m n whole = absurd (not_end q (concat qs ++ y) x (g q k.0) m (whole ∙ append_assoc q (concat qs) y))
parts_unique P Q apart f g (p ∷ ps) [] x y h k m n whole = absurd (not_end p (concat ps ++ x) y (f p h.0) n (sym whole ∙ append_assoc p (concat ps) x))
parts_unique P Q apart f g (p ∷ ps) (q ∷ qs) x y h k m n whole =
    let split : p ++ (concat ps ++ x) ≡ q ++ (concat qs ++ y) = sym (append_assoc p (concat ps) x) ∙ (whole ∙ append_assoc q (concat qs) y) in
    let same : p ≡ q = apart p q (concat ps ++ x) (concat qs ++ y) h.0 k.0 split in
    let rest : concat ps ++ x ≡ concat qs ++ y = append_cancel_left q (concat ps ++ x) (concat qs ++ y) (subst (λ z. z ++ (concat ps ++ x) ≡ q ++ (concat qs ++ y)) same split) in
    let others : ps ≡ qs = parts_unique P Q apart f g ps qs x y h.1 k.1 m n rest in
    ap₂ (λ a b. a ∷ b) same others

-- constructed encodings of such parts
constructed_parts : (P Q : List ℕ → Type 0) → AreApart P Q → ((a : List ℕ) → P a → IsAboveZero a) → ((a : List ℕ) → Q a → IsAboveZero a)
    → (t u : Tag) (ps qs : List (List ℕ)) (a b r s : List ℕ) → AllByRecursion P ps → AllByRecursion Q qs → IsConstructed ber t (concat ps) a → IsConstructed ber u (concat qs) b → a ++ r ≡ b ++ s → a ≡ b
constructed_parts P Q apart f g t u ps qs a b r s h k (inl x) (inl y) whole = (definite_unique ber ber t u true true (concat ps) (concat qs) a b r s x y whole).octets
constructed_parts P Q apart f g t u ps qs a b r s h k (inl x) (inr y) whole = absurd (definite_not_indefinite t u true (concat ps) (concat qs) a b r s x y whole)
constructed_parts P Q apart f g t u ps qs a b r s h k (inr x) (inl y) whole = absurd (definite_not_indefinite u t true (concat qs) (concat ps) b a s r y x (sym whole))
constructed_parts P Q apart f g t u ps qs a b r s h k (inr x) (inr y) whole =
    let opening = indefinite_opening t u (concat ps) (concat qs) a b r s x y whole in
    opening.octets (ap concat (parts_unique P Q apart f g ps qs (0 ∷ 0 ∷ r) (0 ∷ 0 ∷ s) h k refl refl opening.contents))

constructed_unique : (P Q : List ℕ → Type 0) → AreApart P Q → ((a : List ℕ) → P a → IsAboveZero a) → ((a : List ℕ) → Q a → IsAboveZero a) → AreApart (IsConstructedOf P) (IsConstructedOf Q)
constructed_unique P Q apart f g a b r s h k whole = constructed_parts P Q apart f g h.tag k.tag h.parts k.parts a b r s h.each k.each h.whole k.whole whole

pub nested_above : (n : ℕ) (a : List ℕ) → IsNested n a → IsAboveZero a
unfolding IsNested
nested_above zero a h = definite_above h.tag false h.contents a h.usable h.whole
nested_above (suc n) a (inl h) = definite_above h.tag false h.contents a h.usable h.whole
nested_above (suc n) a (inr h) = constructed_above h.tag (concat h.parts) a h.usable h.whole

primitives_unique : AreApart IsSomePrimitive IsSomePrimitive
primitives_unique a b r s h k whole = (definite_unique ber ber h.tag k.tag false false h.contents k.contents a b r s h.whole k.whole whole).octets

-- no encoding begins another
pub nested_unique : (n m : ℕ) → AreApart (IsNested n) (IsNested m)
unfolding IsNested
nested_unique zero zero a b r s h k whole = primitives_unique a b r s h k whole
nested_unique zero (suc m) a b r s h (inl k) whole = primitives_unique a b r s h k whole
nested_unique zero (suc m) a b r s h (inr k) whole = absurd (primitive_not_constructed h.tag k.tag h.contents (concat k.parts) a b r s h.whole k.whole whole)
nested_unique (suc n) zero a b r s (inl h) k whole = primitives_unique a b r s h k whole
nested_unique (suc n) zero a b r s (inr h) k whole = absurd (primitive_not_constructed k.tag h.tag k.contents (concat h.parts) b a s r k.whole h.whole (sym whole))
nested_unique (suc n) (suc m) a b r s (inl h) (inl k) whole = primitives_unique a b r s h k whole
nested_unique (suc n) (suc m) a b r s (inl h) (inr k) whole = absurd (primitive_not_constructed h.tag k.tag h.contents (concat k.parts) a b r s h.whole k.whole whole)
nested_unique (suc n) (suc m) a b r s (inr h) (inl k) whole = absurd (primitive_not_constructed k.tag h.tag k.contents (concat h.parts) b a s r k.whole h.whole (sym whole))
nested_unique (suc n) (suc m) a b r s (inr h) (inr k) whole =
    constructed_unique (IsNested n) (IsNested m) (nested_unique n m) (nested_above n) (nested_above m) a b r s h k whole

-- Strings behind DEFAULT, read from the left.
use Rattle.std.proofs.Common.{◌≡◌, ℕ, Bool, true, false, List, [], ◌∷◌, ◌++◌, refl, sym, ap, ◌∙◌, subst, eqb}
use Rattle.std.proofs.lemmas.Bool.{eqb-true, eqb-false}
use Rattle.std.proofs.lemmas.List.{append-nil, append_assoc}
use Rattle.lexis.specs.Spelling.{doubled}

-- one character more
pub doubled_and_plain : (xs : List ℕ) (c : ℕ) (rest : List ℕ) → (c ≡ 34 → ⊥) → doubled xs ++ c ∷ rest ≡ doubled (xs ++ c ∷ []) ++ rest
doubled_and_plain [] c rest h = by-mark (eqb c 34) refl
  where
    by-mark : (q : Bool) → eqb c 34 ≡ q → c ∷ rest ≡ doubled (c ∷ []) ++ rest
    by-mark true f = absurd (h (eqb-true c 34 f))
    by-mark false f = rw f refl
doubled_and_plain (x ∷ xs) c rest h = by-mark (eqb x 34) refl (doubled_and_plain xs c rest h)
  where
    by-mark : (q : Bool) → eqb x 34 ≡ q → doubled xs ++ c ∷ rest ≡ doubled (xs ++ c ∷ []) ++ rest → doubled (x ∷ xs) ++ c ∷ rest ≡ doubled (x ∷ xs ++ c ∷ []) ++ rest
    by-mark true f e = rw f (ap (λ (ys : List ℕ). 34 ∷ 34 ∷ ys) e)
    by-mark false f e = rw f (ap (λ (ys : List ℕ). x ∷ ys) e)

pub doubled_and_quote : (xs : List ℕ) (rest : List ℕ) → doubled xs ++ 34 ∷ 34 ∷ rest ≡ doubled (xs ++ 34 ∷ []) ++ rest
doubled_and_quote [] rest = refl
doubled_and_quote (x ∷ xs) rest = by-mark (eqb x 34) refl (doubled_and_quote xs rest)
  where
    by-mark : (q : Bool) → eqb x 34 ≡ q → doubled xs ++ 34 ∷ 34 ∷ rest ≡ doubled (xs ++ 34 ∷ []) ++ rest → doubled (x ∷ xs) ++ 34 ∷ 34 ∷ rest ≡ doubled (x ∷ xs ++ 34 ∷ []) ++ rest
    by-mark true f e = rw f (ap (λ (ys : List ℕ). 34 ∷ 34 ∷ ys) e)
    by-mark false f e = rw f (ap (λ (ys : List ℕ). x ∷ ys) e)

-- the quotation mark that is still to come
abbrev pub second_of : Bool → List ℕ
second_of true = 34 ∷ []
second_of false = []

quote_read : (before octets : List ℕ) → before ++ [] ≡ doubled octets → (before ++ 34 ∷ []) ++ 34 ∷ [] ≡ doubled (octets ++ 34 ∷ [])
quote_read before octets h =
    append_assoc before (34 ∷ []) (34 ∷ []) ∙ ap (λ (ys : List ℕ). ys ++ 34 ∷ 34 ∷ []) (sym (append-nil before) ∙ h) ∙ doubled_and_quote octets [] ∙ append-nil (doubled (octets ++ 34 ∷ []))

plain_read : (before octets : List ℕ) (c : ℕ) → (c ≡ 34 → ⊥) → before ++ [] ≡ doubled octets → (before ++ c ∷ []) ++ [] ≡ doubled (octets ++ c ∷ [])
plain_read before octets c ne h =
    append-nil (before ++ c ∷ []) ∙ ap (λ (ys : List ℕ). ys ++ c ∷ []) (sym (append-nil before) ∙ h) ∙ doubled_and_plain octets c [] ne ∙ append-nil (doubled (octets ++ c ∷ []))

-- a character that is no second quotation mark, and one that is
pub first_read : (before octets : List ℕ) (c : ℕ) (q : Bool) → eqb c 34 ≡ q → before ++ second_of false ≡ doubled octets → (before ++ c ∷ []) ++ second_of q ≡ doubled (octets ++ c ∷ [])
first_read before octets c true f h =
    subst (λ (d : ℕ). (before ++ d ∷ []) ++ 34 ∷ [] ≡ doubled (octets ++ d ∷ [])) (sym (eqb-true c 34 f)) (quote_read before octets h)
first_read before octets c false f h = plain_read before octets c (eqb-false c 34 f) h

pub second_read : (before octets : List ℕ) → before ++ second_of true ≡ doubled octets → (before ++ 34 ∷ []) ++ second_of false ≡ doubled octets
second_read before octets h = append-nil (before ++ 34 ∷ []) ∙ h

-- the same, where the code has the parts
pub second_step : (before after octets kept : List ℕ) (c : ℕ) (was is : Bool) → after ≡ before ++ c ∷ [] → was ≡ true → c ≡ 34 → is ≡ false → kept ≡ octets → before ++ second_of was ≡ doubled octets → after ++ second_of is ≡ doubled kept
second_step before after octets kept c was is more first quote none same h =
    let e : (before ++ 34 ∷ []) ++ second_of false ≡ doubled octets = second_read before octets (subst (λ (b : Bool). before ++ second_of b ≡ doubled octets) first h) in
    subst (λ (b : Bool). after ++ second_of b ≡ doubled kept) (sym none) (subst (λ (l : List ℕ). after ++ second_of false ≡ doubled l) (sym same) (subst (λ (l : List ℕ). l ++ second_of false ≡ doubled octets) (sym (more ∙ ap (λ (d : ℕ). before ++ d ∷ []) quote)) e))

pub first_step : (before after octets pushed : List ℕ) (c : ℕ) (was is : Bool) → after ≡ before ++ c ∷ [] → was ≡ false → is ≡ eqb c 34 → pushed ≡ octets ++ c ∷ [] → before ++ second_of was ≡ doubled octets → after ++ second_of is ≡ doubled pushed
first_step before after octets pushed c was is more second quote same h =
    let e : (before ++ c ∷ []) ++ second_of is ≡ doubled (octets ++ c ∷ []) = first_read before octets c is (sym quote) (subst (λ (b : Bool). before ++ second_of b ≡ doubled octets) second h) in
    subst (λ (l : List ℕ). after ++ second_of is ≡ doubled l) (sym same) (subst (λ (l : List ℕ). l ++ second_of is ≡ doubled (octets ++ c ∷ [])) (sym more) e)

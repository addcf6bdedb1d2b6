-- A quotation mark that stands alone.
use Rattle.std.proofs.Common.{◌≡◌, ◌+◌, ◌<◌, ◌⊎◌, inl, inr, ℕ, Bool, true, false, List, [], ◌∷◌, ◌++◌, length, take, drop, get_or, refl, sym, ◌∙◌, eqb}
use Rattle.std.proofs.lemmas.Bool.{eqb-true, eqb-false}
use Rattle.std.proofs.lemmas.List.{append-nil, take-append-drop, drop_more}
use Rattle.lexis.specs.Spelling.{doubled}
use Rattle.builtin_types.proofs.SpellingLemmas.{heads}

-- a quotation mark stands twice, and another character once
mark : (c : ℕ) (cs : List ℕ) → ((c ≡ 34) × (doubled (c ∷ cs) ≡ 34 ∷ 34 ∷ doubled cs)) ⊎ ((c ≡ 34 → ⊥) × (doubled (c ∷ cs) ≡ c ∷ doubled cs))
mark c cs = by (eqb c 34) refl
  where
    by : (q : Bool) → eqb c 34 ≡ q → ((c ≡ 34) × (doubled (c ∷ cs) ≡ 34 ∷ 34 ∷ doubled cs)) ⊎ ((c ≡ 34 → ⊥) × (doubled (c ∷ cs) ≡ c ∷ doubled cs))
    by true f = inl (eqb-true c 34 f, rw f refl)
    by false f = inr (eqb-false c 34 f, rw f refl)

-- the next character is one
abbrev pub IsMarkNext : List ℕ → Type 0
IsMarkNext rest = (others : List ℕ) × (rest ≡ 34 ∷ others)

pair : (cs w rest xs : List ℕ) → ((w rest xs : List ℕ) → w ++ 34 ∷ [] ≡ doubled cs → doubled xs ≡ w ++ rest → IsMarkNext rest) → w ++ 34 ∷ [] ≡ 34 ∷ 34 ∷ doubled cs → doubled xs ≡ w ++ rest → IsMarkNext rest
pair cs [] rest xs go h e = absurd (cc)
pair cs (a ∷ w) rest [] go h e = absurd (cc)
pair cs (a ∷ []) rest (x ∷ xs) go h e = elim (mark x xs) [ inl m ↦ (doubled xs, cc m.1) | inr m ↦ absurd (m.0 (cc m.1)) ]
pair cs (a ∷ b ∷ w) rest (x ∷ xs) go h e = elim (mark x xs) [ inl m ↦ go w rest xs (cc) (cc m.1) | inr m ↦ absurd (m.0 (cc m.1)) ]

plain : (c : ℕ) (cs w rest xs : List ℕ) → (c ≡ 34 → ⊥) → ((w rest xs : List ℕ) → w ++ 34 ∷ [] ≡ doubled cs → doubled xs ≡ w ++ rest → IsMarkNext rest) → w ++ 34 ∷ [] ≡ c ∷ doubled cs → doubled xs ≡ w ++ rest → IsMarkNext rest
plain c cs [] rest xs ne go h e = absurd (ne (cc))
plain c cs (a ∷ w) rest [] ne go h e = absurd (cc)
plain c cs (a ∷ w) rest (x ∷ xs) ne go h e = elim (mark x xs) [ inl m ↦ absurd (ne (cc m.1)) | inr m ↦ go w rest xs (cc) (cc m.1) ]

-- behind the first of two comes the second
pub mark_next : (cs w rest xs : List ℕ) → w ++ 34 ∷ [] ≡ doubled cs → doubled xs ≡ w ++ rest → IsMarkNext rest
mark_next [] [] rest xs h e = absurd (cc)
mark_next [] (a ∷ w) rest xs h e = absurd (cc)
mark_next (c ∷ cs) w rest xs h e = elim (mark c cs) [
  | inl m ↦ pair cs w rest xs (λ v r ys. mark_next cs v r ys) (h ∙ m.1) e
  | inr m ↦ plain c cs w rest xs m.0 (λ v r ys. mark_next cs v r ys) (h ∙ m.1) e
]

pub not_alone : (quoted cs octets : List ℕ) (i : ℕ) → i < length quoted → take i quoted ++ 34 ∷ [] ≡ doubled cs → quoted ≡ doubled octets → get_or quoted i 0 ≡ 34
not_alone quoted cs octets i within h is =
    let next = mark_next cs (take i quoted) (drop i quoted) octets h (sym is ∙ sym (take-append-drop i quoted)) in
    heads (get_or quoted i 0) 34 (drop (i + 1) quoted) next.0 (sym (drop_more quoted i 0 within) ∙ next.1)

pub not_last : (quoted cs octets : List ℕ) → quoted ++ 34 ∷ [] ≡ doubled cs → quoted ≡ doubled octets → ⊥
not_last quoted cs octets h is = let next = mark_next cs quoted [] octets h (sym is ∙ sym (append-nil quoted)) in cc next.1

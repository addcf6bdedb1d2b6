-- The word in front goes on as long as it can, and no other token is longer.
use Rattle.std.proofs.Common.{◌≡◌, ℕ, ◌+◌, ◌<◌, ◌≤◌, List, length, take, get_or, refl, sym, ◌∙◌, ap, subst, arith, Bool, true, false, ◌&&◌, ◌||◌, eqb, inl, inr}
use Rattle.std.proofs.lemmas.Bool.{false≢true, cases_lt}
use Rattle.std.proofs.lemmas.Bool.Decides.{nat_tests}
use Rattle.std.proofs.lemmas.List.{get_or-take, get_or_past, length-take-le}
use Rattle.std.specs.Char.{is_ascii_alphanumeric, is_ascii_alphabetic, is_ascii_uppercase, is_ascii_lowercase}
use Rattle.lexis.specs.declared.token.Kind.{Kind}
use Rattle.lexis.specs.declared.token.Kind.TheVariants.{Reserved, TypeName, Identifier, Number, Binary, Hex, Chars, Symbol}
use Rattle.lexis.specs.Spelling.{Spells, IsWord, IsReserved, goes_on}
use Rattle.lexis.specs.Tokens.{IsToken, IsWithinLimit}
use Rattle.lexis.specs.Fronts.{StandsApart}
use Rattle.lexis.proofs.KindLemmas.{class_of, class_front, class_letter}

or-and : (p q r s : Bool) → (r ≡ true → s ≡ true) → p || (q && r) ≡ true → p || (q && s) ≡ true
or-and true q r s f h = refl
or-and false true r s f h = f h
or-and false false r s f h = h

or-first : (p q : Bool) → p ≡ true → p || q ≡ true
or-first p q e = rw e refl

-- behind the end of a list there is no letter and no digit
there : (w : List ℕ) (i : ℕ) → is_ascii_alphanumeric (get_or w i 0) ≡ true → i < length w
there w i h = elim (cases_lt i (length w)) [
  | inl l ↦ l
  | inr l ↦ absurd (false≢true (sym (ap is_ascii_alphanumeric (get_or_past w i 0 l)) ∙ h))
]

-- the word goes on in a front of x only where it does in x
pub goes_on_take : (x : List ℕ) (m i : ℕ) → i < m → m ≤ length x → goes_on (take m x) i ≡ true → goes_on x i ≡ true
goes_on_take x m i h l p =
    let here = get_or-take m x i 0 h in
    let size = length-take-le m x l in
    let next : is_ascii_alphanumeric (get_or (take m x) (i + 1) 0) ≡ true → is_ascii_alphanumeric (get_or x (i + 1) 0) ≡ true =
    λ q. let near = there (take m x) (i + 1) q in subst (λ o. is_ascii_alphanumeric o ≡ true) (get_or-take m x (i + 1) 0 (omega arith)) q in
    subst (λ o. is_ascii_alphanumeric o || (eqb o 45 && is_ascii_alphanumeric (get_or x (i + 1) 0)) ≡ true) here
    (or-and (is_ascii_alphanumeric (get_or (take m x) i 0)) (eqb (get_or (take m x) i 0) 45) (is_ascii_alphanumeric (get_or (take m x) (i + 1) 0)) (is_ascii_alphanumeric (get_or x (i + 1) 0)) next p)

-- and where it does in x, save at the end of the word
pub goes_on_within : (x : List ℕ) (n i : ℕ) → i < n → n ≤ length x → goes_on x n ≡ false → goes_on x i ≡ true → goes_on (take n x) i ≡ true
goes_on_within x n i h l whole p =
    let here = sym (get_or-take n x i 0 h) in
    let next : is_ascii_alphanumeric (get_or x (i + 1) 0) ≡ true → is_ascii_alphanumeric (get_or (take n x) (i + 1) 0) ≡ true =
    λ q. elim (cases_lt (i + 1) n) [
      | inl near ↦ subst (λ o. is_ascii_alphanumeric o ≡ true) (sym (get_or-take n x (i + 1) 0 near)) q
      | inr far ↦ let same : i + 1 ≡ n = omega arith in absurd (false≢true (sym whole ∙ or-first (is_ascii_alphanumeric (get_or x n 0)) (eqb (get_or x n 0) 45 && is_ascii_alphanumeric (get_or x (n + 1) 0)) (subst (λ j. is_ascii_alphanumeric (get_or x j 0) ≡ true) same q)))
    ] in
    subst (λ o. is_ascii_alphanumeric o || (eqb o 45 && is_ascii_alphanumeric (get_or (take n x) (i + 1) 0)) ≡ true) here
    (or-and (is_ascii_alphanumeric (get_or x i 0)) (eqb (get_or x i 0) 45) (is_ascii_alphanumeric (get_or x (i + 1) 0)) (is_ascii_alphanumeric (get_or (take n x) (i + 1) 0)) next p)

-- what begins with a letter is a word
abbrev Goes : List ℕ → Type 0
Goes w = (i : ℕ) → 1 ≤ i → i < length w → goes_on w i ≡ true

word-goes : (j : Kind) (w : List ℕ) → class_of j ≤ 1 → Spells j w → Goes w
word-goes Reserved w h s = s.0.others
word-goes TypeName w h s = s.0.others
word-goes Identifier w h s = s.others
word-goes (Number n) w h s = absurd (omega arith)
word-goes Binary w h s = absurd (omega arith)
word-goes Hex w h s = absurd (omega arith)
word-goes Chars w h s = absurd (omega arith)
word-goes Symbol w h s = absurd (omega arith)

-- the word in front, of n octets
pub record IsWhole (x : List ℕ) (n : ℕ) : Type 0 where
  pub letter : is_ascii_alphabetic (get_or x 0 0) ≡ true
  pub some : 1 ≤ n
  pub within : n ≤ length x
  pub each : (i : ℕ) → 1 ≤ i → i < n → goes_on x i ≡ true
  pub whole : goes_on x n ≡ false

word-longest : (x : List ℕ) (n : ℕ) → IsWhole x n → (j : Kind) (m : ℕ) → m ≤ length x → Spells j (take m x) → m ≤ n
word-longest x n w j m l s = elim (cases_lt n m) [
  | inr le ↦ le
  | inl gt ↦
      let size = length-take-le m x l in
      let front = class_front x j m (omega arith) s in
      let low = class_letter (get_or x 0 0) w.letter in
      let goes = word-goes j (take m x) (omega arith) s n w.some (omega arith) in
      absurd (false≢true (sym w.whole ∙ goes_on_take x m n gt l goes))
]

pub word_spelt : (first : ℕ → Bool) (x : List ℕ) (n : ℕ) → first (get_or x 0 0) ≡ true → IsWhole x n → IsWord first (take n x)
word_spelt first x n p w =
    let size = length-take-le n x w.within in
    record {
      first = subst (λ o. first o ≡ true) (sym (get_or-take n x 0 0 w.some)) p;
      others = λ i h l. let near : i < n = omega arith in goes_on_within x n i near w.within w.whole (w.each i h near);
    }

letter-no-zero : (b : ℕ) → is_ascii_alphabetic b ≡ true → b ≡ 48 → ⊥
letter-no-zero b p e = false≢true (subst (λ o. is_ascii_alphabetic o ≡ true) e p)

pub word_token : (x : List ℕ) (k : Kind) (n : ℕ) → StandsApart x → IsWhole x n → IsWithinLimit k → Spells k (take n x) → IsToken x k n
word_token x k n apart w small s = record {
  within = w.within;
  spelt = s;
  longest = word-longest x n w;
  small = small;
  no_digit_behind_zero = λ e. absurd (letter-no-zero (get_or x 0 0) w.letter e);
  no_comment = apart;
}

capital : (b : ℕ) → is_ascii_alphabetic b ≡ true → is_ascii_lowercase b ≡ false → is_ascii_uppercase b ≡ true
capital b p q = grind (arith, nat_tests)

pub identifier_token : (x : List ℕ) (n : ℕ) → StandsApart x → IsWhole x n → is_ascii_lowercase (get_or x 0 0) ≡ true → IsToken x Identifier n
identifier_token x n apart w p = word_token x Identifier n apart w tt (word_spelt is_ascii_lowercase x n p w)

pub reserved_token : (x : List ℕ) (n : ℕ) → StandsApart x → IsWhole x n → is_ascii_lowercase (get_or x 0 0) ≡ false → IsReserved (take n x) → IsToken x Reserved n
reserved_token x n apart w p r = word_token x Reserved n apart w tt (word_spelt is_ascii_uppercase x n (capital (get_or x 0 0) w.letter p) w, r)

pub type_name_token : (x : List ℕ) (n : ℕ) → StandsApart x → IsWhole x n → is_ascii_lowercase (get_or x 0 0) ≡ false → ¬ IsReserved (take n x) → IsToken x TypeName n
type_name_token x n apart w p r = word_token x TypeName n apart w tt (word_spelt is_ascii_uppercase x n (capital (get_or x 0 0) w.letter p) w, r)

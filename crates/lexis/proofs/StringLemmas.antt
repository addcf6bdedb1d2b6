-- Character strings: the marks of one come in pairs, but for the first and the last.
use Rattle.std.proofs.Common.{◌≡◌, ℕ, zero, suc, ◌+◌, ◌-◌, ◌<◌, ◌≤◌, List, [], ◌∷◌, ◌++◌, length, take, drop, get_or, refl, sym, ◌∙◌, ap, subst, arith, Bool, true, false, not, cond, eqb, inl, inr, Option, Some, None}
use Rattle.std.specs.Prelude.{All}
use Rattle.std.proofs.lemmas.Bool.{false≢true, cases_lt, eqb-true}
use Rattle.std.proofs.lemmas.List.{take_rest, drop_more}
use Rattle.std.proofs.lemmas.List.Elements.{All-nil, All-cons, All-head, All-tail}
use Rattle.lexis.specs.declared.token.Kind.{Kind}
use Rattle.lexis.specs.declared.token.Kind.TheVariants.{Reserved, TypeName, Identifier, Number, Binary, Hex, Chars, Symbol}
use Rattle.lexis.specs.Octets.{is_line_end}
use Rattle.lexis.specs.Spelling.{Spells, IsCharacterString, doubled}
use Rattle.lexis.specs.Tokens.{IsToken}
use Rattle.lexis.specs.Fronts.{StandsApart, HasNoToken, IsLongestString, AnswersString}
use Rattle.lexis.proofs.KindLemmas.{class, class_of, class_front, class_mark, spells_some}

-- what follows the first mark of a string; half: the octet before is the last mark, or the first of a pair
abbrev pub closes : Bool → List ℕ → Bool
closes half [] = half
closes half (c ∷ w) = cond (eqb c 34) (closes (not half) w) (cond half false (cond (is_line_end c) false (closes false w)))

abbrev OnOneLine : List ℕ → Type 0
OnOneLine s = All (λ octet. is_line_end octet ≡ false) s

-- what closes a string is characters and the last mark
record IsRest (w : List ℕ) : Type 0 where
  characters : List ℕ
  on_one_line : OnOneLine characters
  spelt : w ≡ doubled characters ++ 34 ∷ []

pair : (c d : ℕ) (w : List ℕ) → c ≡ 34 → d ≡ 34 → IsRest w → IsRest (c ∷ d ∷ w)
pair c d w e f r = record {
  characters = 34 ∷ r.characters;
  on_one_line = All-cons (λ octet. is_line_end octet ≡ false) 34 r.characters refl r.on_one_line;
  spelt = ap (λ (i : ℕ). i ∷ d ∷ w) e ∙ ap (λ (i : ℕ). 34 ∷ i ∷ w) f ∙ ap (λ (v : List ℕ). 34 ∷ 34 ∷ v) r.spelt;
}

other : (c : ℕ) (w : List ℕ) → eqb c 34 ≡ false → is_line_end c ≡ false → IsRest w → IsRest (c ∷ w)
other c w e f r = record {
  characters = c ∷ r.characters;
  on_one_line = All-cons (λ octet. is_line_end octet ≡ false) c r.characters f r.on_one_line;
  spelt = rw e (ap (λ (v : List ℕ). c ∷ v) r.spelt);
}

last : (c : ℕ) → c ≡ 34 → IsRest (c ∷ [])
last c e = record { characters = []; on_one_line = All-nil (λ octet. is_line_end octet ≡ false); spelt = ap (λ (i : ℕ). i ∷ []) e }

closed-is-rest : (w : List ℕ) → closes false w ≡ true → IsRest w
closed-is-rest [] h = absurd (false≢true h)
closed-is-rest (c ∷ []) h = by-mark (eqb c 34) refl
  where
    by-mark : (t : Bool) → eqb c 34 ≡ t → IsRest (c ∷ [])
    by-mark true e = last c (eqb-true c 34 e)
    by-mark false e = absurd (by-line (is_line_end c) refl)
      where
        by-line : (t : Bool) → is_line_end c ≡ t → ⊥
        by-line true f = false≢true (rw (e, f) at h)
        by-line false f = false≢true (rw (e, f) at h)
closed-is-rest (c ∷ d ∷ w) h = by-mark (eqb c 34) refl (closed-is-rest w) (closed-is-rest (d ∷ w))
  where
    by-mark : (t : Bool) → eqb c 34 ≡ t → (closes false w ≡ true → IsRest w) → (closes false (d ∷ w) ≡ true → IsRest (d ∷ w)) → IsRest (c ∷ d ∷ w)
    by-mark true e two one = by-next (eqb d 34) refl
      where
        by-next : (t : Bool) → eqb d 34 ≡ t → IsRest (c ∷ d ∷ w)
        by-next true f = pair c d w (eqb-true c 34 e) (eqb-true d 34 f) (two (rw (e, f) at h))
        by-next false f = absurd (false≢true (rw (e, f) at h))
    by-mark false e two one = by-line (is_line_end c) refl
      where
        by-line : (t : Bool) → is_line_end c ≡ t → IsRest (c ∷ d ∷ w)
        by-line true f = absurd (false≢true (rw (e, f) at h))
        by-line false f = other c (d ∷ w) e f (one (rw (e, f) at h))

rest-closes : (s : List ℕ) → OnOneLine s → closes false (doubled s ++ 34 ∷ []) ≡ true
rest-closes [] l = refl
rest-closes (c ∷ s) l = by-mark (eqb c 34) refl (rest-closes s (All-tail (λ octet. is_line_end octet ≡ false) c s l))
  where
    by-mark : (t : Bool) → eqb c 34 ≡ t → closes false (doubled s ++ 34 ∷ []) ≡ true → closes false (doubled (c ∷ s) ++ 34 ∷ []) ≡ true
    by-mark true e ih = rw e ih
    by-mark false e ih = rw (e, e, All-head (λ octet. is_line_end octet ≡ false) c s l) ih

pub closed_string : (w : List ℕ) → closes false w ≡ true → IsCharacterString (34 ∷ w)
closed_string w h = let r = closed-is-rest w h in record { characters = r.characters; on_one_line = r.on_one_line; spelt = ap (λ (v : List ℕ). 34 ∷ v) r.spelt }

pub string_closes : (w : List ℕ) → IsCharacterString (34 ∷ w) → closes false w ≡ true
string_closes w s =
    let all = s.spelt in
    let same : w ≡ doubled s.characters ++ 34 ∷ [] = cc in
    ap (closes false) same ∙ rest-closes s.characters s.on_one_line

-- of the fronts of x that are shorter than i octets, this is the longest that closes the string
abbrev pub IsBest : List ℕ → ℕ → Option ℕ → Type 0
IsBest x i (Some e) = (e < i) × (closes false (take e x) ≡ true) × ((m : ℕ) → m < i → closes false (take m x) ≡ true → m ≤ e)
IsBest x i None = (m : ℕ) → m < i → closes false (take m x) ≡ true → ⊥

pub best_none : (x : List ℕ) → IsBest x 0 None
best_none x m h = absurd (omega arith)

pub best_more : (x : List ℕ) (i : ℕ) (half : Bool) (end : Option ℕ) → closes false (take i x) ≡ half → IsBest x i end → IsBest x (i + 1) (cond half (Some i) end)
best_more x i true end e b = (omega arith, e, λ m h c. omega arith)
best_more x i false None e b = λ m h c. elim (cases_lt m i) [
  | inl near ↦ b m near c
  | inr far ↦ let same : m ≡ i = omega arith in false≢true (sym e ∙ subst (λ j. closes false (take j x) ≡ true) same c)
]
best_more x i false (Some k) e b = (
  omega (arith, b.0),
  b.1,
  λ m h c. elim (cases_lt m i) [
    | inl near ↦ b.2 m near c
    | inr far ↦ let same : m ≡ i = omega arith in absurd (false≢true (sym e ∙ subst (λ j. closes false (take j x) ≡ true) same c))
  ],
)

-- the front of i octets, and what more follows it
abbrev pub GoesOn : List ℕ → ℕ → Bool → Type 0
GoesOn x i half = (n : ℕ) → closes false (take (i + n) x) ≡ closes half (take n (drop i x))

pub goes_start : (x : List ℕ) → GoesOn x 0 false
goes_start x n = ap (λ (k : ℕ). closes false (take k x)) (omega arith)

pub goes_here : (x : List ℕ) (i : ℕ) (half : Bool) → GoesOn x i half → closes false (take i x) ≡ half
goes_here x i half g = ap (λ (k : ℕ). closes false (take k x)) (omega arith) ∙ g 0

-- one octet more is taken
one-more : (x : List ℕ) (i n : ℕ) (half : Bool) → i < length x → GoesOn x i half → closes false (take (i + 1 + n) x) ≡ closes half (get_or x i 0 ∷ take n (drop (i + 1) x))
one-more x i n half h g =
    let more : i + suc n ≡ i + 1 + n = omega arith in
    subst (λ (k : ℕ). closes false (take k x) ≡ closes half (get_or x i 0 ∷ take n (drop (i + 1) x))) more (g (suc n) ∙ ap (λ (v : List ℕ). closes half (take (suc n) v)) (drop_more x i 0 h))

pub goes_mark : (x : List ℕ) (i : ℕ) (half : Bool) → i < length x → eqb (get_or x i 0) 34 ≡ true → GoesOn x i half → GoesOn x (i + 1) (not half)
goes_mark x i half h e g n = one-more x i n half h g ∙ rw e refl

pub goes_other : (x : List ℕ) (i : ℕ) (half : Bool) → i < length x → eqb (get_or x i 0) 34 ≡ false → half ≡ false → is_line_end (get_or x i 0) ≡ false → GoesOn x i half → GoesOn x (i + 1) false
goes_other x i half h e f l g n = one-more x i n half h g ∙ rw (e, f, l) refl

stops : (x : List ℕ) (i n : ℕ) (half : Bool) → i < length x → eqb (get_or x i 0) 34 ≡ false → (half ≡ false → is_line_end (get_or x i 0) ≡ true) → GoesOn x i half → closes false (take (i + 1 + n) x) ≡ false
stops x i n true h e f g = one-more x i n true h g ∙ rw e refl
stops x i n false h e f g = one-more x i n false h g ∙ rw (e, f refl) refl

-- what is best of all fronts answers
answers : (x : List ℕ) (i : ℕ) (end : Option ℕ) → i ≤ length x + 1 → IsBest x i end → ((m : ℕ) → i ≤ m → m ≤ length x → closes false (take m x) ≡ true → ⊥) → AnswersString x end
answers x i None h b none = λ m l s. elim (cases_lt m i) [
  | inl near ↦ b m near (string_closes (take m x) s)
  | inr far ↦ none m far l (string_closes (take m x) s)
]
answers x i (Some e) h b none = record {
  within = omega (arith, b.0);
  spelt = closed_string (take e x) b.1;
  longest = λ m l s. elim (cases_lt m i) [
    | inl near ↦ b.2 m near (string_closes (take m x) s)
    | inr far ↦ absurd (none m far l (string_closes (take m x) s))
  ];
}

pub answers_stop : (x : List ℕ) (i : ℕ) (half : Bool) (end : Option ℕ) → i < length x → eqb (get_or x i 0) 34 ≡ false → (half ≡ false → is_line_end (get_or x i 0) ≡ true) → GoesOn x i half → IsBest x i end → AnswersString x (cond half (Some i) end)
answers_stop x i half end h e f g b =
    let none : (m : ℕ) → i + 1 ≤ m → m ≤ length x → closes false (take m x) ≡ true → ⊥ = λ m far l c.
    let more : i + 1 + (m - (i + 1)) ≡ m = omega arith in
    false≢true (sym (stops x i (m - (i + 1)) half h e f g) ∙ subst (λ (k : ℕ). closes false (take k x) ≡ true) (sym more) c) in
    answers x (i + 1) (cond half (Some i) end) (omega arith) (best_more x i half end (goes_here x i half g) b) none

pub answers_end : (x : List ℕ) (i : ℕ) (half : Bool) (end : Option ℕ) → i ≡ length x → GoesOn x i half → IsBest x i end → AnswersString x (cond half (Some i) end)
answers_end x i half end h g b = answers x (i + 1) (cond half (Some i) end) (omega arith) (best_more x i half end (goes_here x i half g) b) (λ m far l c. absurd (omega arith))

-- The token.
string-only : (k : Kind) (w : List ℕ) → class_of k ≡ 4 → Spells k w → IsCharacterString w
string-only Chars w h s = s
string-only Reserved w h s = absurd (omega arith)
string-only TypeName w h s = absurd (omega arith)
string-only Identifier w h s = absurd (omega arith)
string-only (Number n) w h s = absurd (omega arith)
string-only Binary w h s = absurd (omega arith)
string-only Hex w h s = absurd (omega arith)
string-only Symbol w h s = absurd (omega arith)

string-here : (b : ℕ) (x : List ℕ) (j : Kind) (m : ℕ) → b ≡ 34 → Spells j (take (suc m) (b ∷ x)) → IsCharacterString (34 ∷ take m x)
string-here b x j m e s =
    let front = class_front (b ∷ x) j (suc m) (omega arith) s in
    let marks : class b ≡ 4 = ap class e ∙ class_mark in
    subst (λ (c : ℕ). IsCharacterString (c ∷ take m x)) e (string-only j (take (suc m) (b ∷ x)) (sym front ∙ marks) s)

string-longest : (b : ℕ) (x : List ℕ) (n : ℕ) → b ≡ 34 → IsLongestString x n → (j : Kind) (m : ℕ) → m ≤ length (b ∷ x) → Spells j (take m (b ∷ x)) → m ≤ 1 + n
string-longest b x n e r j zero l s = omega arith
string-longest b x n e r j (suc m) l s = let h = r.longest m (omega arith) (string-here b x j m e s) in omega arith

pub string_token : (x : List ℕ) (n : ℕ) → StandsApart x → get_or x 0 0 ≡ 34 → IsLongestString (take (length x - 1) (drop 1 x)) n → IsToken x Chars (1 + n)
string_token [] n apart e r = absurd (omega arith)
string_token (b ∷ x) n apart e r =
    let rest : IsLongestString x n = subst (λ y. IsLongestString y n) (take_rest (b ∷ x) 1) r in
    let size : suc n ≡ 1 + n = omega arith in
    record {
      within = omega (arith, rest.within);
      spelt = subst (λ (k : ℕ). IsCharacterString (take k (b ∷ x))) size (subst (λ (c : ℕ). IsCharacterString (c ∷ take n x)) (sym e) rest.spelt);
      longest = string-longest b x n e rest;
      small = tt;
      no_digit_behind_zero = λ z. absurd (omega arith);
      no_comment = apart;
    }

pub no_string : (x : List ℕ) → get_or x 0 0 ≡ 34 → ((m : ℕ) → m ≤ length (take (length x - 1) (drop 1 x)) → ¬ IsCharacterString (34 ∷ take m (take (length x - 1) (drop 1 x)))) → HasNoToken x
no_string [] e none k n t = absurd (omega arith)
no_string (b ∷ x) e none k zero t = let some = spells_some k [] t.spelt in absurd (omega arith)
no_string (b ∷ x) e none k (suc n) t =
    let within : n ≤ length x = omega (arith, t.within) in
    let never : ¬ IsCharacterString (34 ∷ take n x) = subst (λ (y : List ℕ). n ≤ length y → ¬ IsCharacterString (34 ∷ take n y)) (take_rest (b ∷ x) 1) (none n) within in
    never (string-here b x k n e t.spelt)

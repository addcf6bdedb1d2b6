-- The symbol in front is the longest that can stand there.
use Rattle.std.proofs.Common.{◌≡◌, ℕ, zero, suc, ◌≤◌, List, [], ◌∷◌, ◌++◌, length, take, drop, get_or, refl, sym, ◌∙◌, ap, subst, arith, Bool, true, false, ◌||◌, cond, eqb}
use Rattle.std.specs.Prelude.{codes}
use Rattle.std.proofs.lemmas.Bool.{false≢true, eqb-true}
use Rattle.std.proofs.lemmas.List.{length-take-le, take-append-drop}
use Rattle.lexis.specs.declared.token.Kind.{Kind}
use Rattle.lexis.specs.declared.token.Kind.TheVariants.{Reserved, TypeName, Identifier, Number, Binary, Hex, Chars, Symbol as ASymbol}
use Rattle.lexis.specs.declared.symbol.Symbol.{Symbol}
use Rattle.lexis.specs.declared.symbol.Symbol.TheVariants.{Assignment, OpenBrace, CloseBrace, OpenBracket, CloseBracket, OpenParenthesis, CloseParenthesis, Comma, Hyphen, Ellipsis, Range, FullStop, Colon, Semicolon, VerticalBar}
use Rattle.std.specs.Char.{is_ascii_digit}
use Rattle.lexis.specs.Octets.{begins}
use Rattle.lexis.specs.Symbols.{symbol_text, is_mark}
use Rattle.lexis.specs.Spelling.{Spells}
use Rattle.lexis.specs.Tokens.{IsToken}
use Rattle.lexis.specs.Fronts.{StandsApart, HasNoToken, IsOtherOctet}
use Rattle.lexis.proofs.DigitsLemmas.{begins_with}
use Rattle.lexis.proofs.KindLemmas.{class_of, class_front, class_other, spells_some}

-- how many octets the longest symbol in front has
abbrev pub longest_of : List ℕ → ℕ
longest_of x = cond (begins (codes "::=") x) 3 (cond (begins (codes "...") x) 3 (cond (begins (codes "..") x) 2 (cond (is_mark (get_or x 0 0)) 1 0)))

at-least-1 : (p q r : Bool) → 1 ≤ cond p 3 (cond q 3 (cond r 2 1))
at-least-1 true q r = omega arith
at-least-1 false true r = omega arith
at-least-1 false false true = omega arith
at-least-1 false false false = omega arith

at-least-2 : (p q s : Bool) → 2 ≤ cond p 3 (cond q 3 2)
at-least-2 true q s = omega arith
at-least-2 false true s = omega arith
at-least-2 false false s = omega arith

at-least-3 : (p : Bool) → 3 ≤ cond p 3 3
at-least-3 true = omega arith
at-least-3 false = omega arith

-- a front of x begins x
front-begins : (x t : List ℕ) (m : ℕ) → take m x ≡ t → begins t x ≡ true
front-begins x t m e = begins_with t x (drop m x) (sym (take-append-drop m x) ∙ ap (λ (v : List ℕ). v ++ drop m x) e)

front-size : (x t : List ℕ) (m : ℕ) → m ≤ length x → take m x ≡ t → m ≡ length t
front-size x t m l e = sym (length-take-le m x l) ∙ ap length e

first-of : (x : List ℕ) (c : ℕ) (m : ℕ) → take m x ≡ c ∷ [] → get_or x 0 0 ≡ c
first-of [] c zero e = absurd (cc)
first-of [] c (suc m) e = absurd (cc)
first-of (b ∷ x) c zero e = absurd (cc)
first-of (b ∷ x) c (suc m) e = cc

mark-fits : (x : List ℕ) (c : ℕ) (m : ℕ) → is_mark c ≡ true → m ≤ length x → take m x ≡ c ∷ [] → m ≤ longest_of x
mark-fits x c m p l e =
    let size = front-size x (c ∷ []) m l e in
    let mark : is_mark (get_or x 0 0) ≡ true = subst (λ (o : ℕ). is_mark o ≡ true) (sym (first-of x c m e)) p in
    let least : 1 ≤ longest_of x = rw mark (at-least-1 (begins (codes "::=") x) (begins (codes "...") x) (begins (codes "..") x)) in
    omega arith

pub symbol_fits : (x : List ℕ) (m : ℕ) (s : Symbol) → m ≤ length x → take m x ≡ symbol_text s → m ≤ longest_of x
symbol_fits x m Assignment l e =
    let size = front-size x (codes "::=") m l e in
    rw (front-begins x (codes "::=") m e) (omega arith)
symbol_fits x m Ellipsis l e =
    let size = front-size x (codes "...") m l e in
    let least : 3 ≤ longest_of x = rw (front-begins x (codes "...") m e) (at-least-3 (begins (codes "::=") x)) in
    omega arith
symbol_fits x m Range l e =
    let size = front-size x (codes "..") m l e in
    let least : 2 ≤ longest_of x = rw (front-begins x (codes "..") m e) (at-least-2 (begins (codes "::=") x) (begins (codes "...") x) true) in
    omega arith
symbol_fits x m OpenBrace l e = mark-fits x 123 m refl l e
symbol_fits x m CloseBrace l e = mark-fits x 125 m refl l e
symbol_fits x m OpenBracket l e = mark-fits x 91 m refl l e
symbol_fits x m CloseBracket l e = mark-fits x 93 m refl l e
symbol_fits x m OpenParenthesis l e = mark-fits x 40 m refl l e
symbol_fits x m CloseParenthesis l e = mark-fits x 41 m refl l e
symbol_fits x m Comma l e = mark-fits x 44 m refl l e
symbol_fits x m Hyphen l e = mark-fits x 45 m refl l e
symbol_fits x m FullStop l e = mark-fits x 46 m refl l e
symbol_fits x m Colon l e = mark-fits x 58 m refl l e
symbol_fits x m Semicolon l e = mark-fits x 59 m refl l e
symbol_fits x m VerticalBar l e = mark-fits x 124 m refl l e

-- some symbol is spelled so
abbrev pub IsSpelling : List ℕ → Type 0
IsSpelling w = (s : Symbol) × (w ≡ symbol_text s)

is-or : (a o : ℕ) (rest : Bool) (s : Symbol) → symbol_text s ≡ a ∷ [] → (rest ≡ true → IsSpelling (o ∷ [])) → (eqb a o || rest) ≡ true → IsSpelling (o ∷ [])
is-or a o rest s e next h = by-test (eqb a o) refl
  where
    by-test : (t : Bool) → eqb a o ≡ t → IsSpelling (o ∷ [])
    by-test true f = (s, ap (λ (i : ℕ). i ∷ []) (sym (eqb-true a o f)) ∙ sym e)
    by-test false f = next (rw f at h)

mark-spelt : (o : ℕ) → is_mark o ≡ true → IsSpelling (o ∷ [])
mark-spelt o =
    is-or 123 o _ OpenBrace refl (is-or 125 o _ CloseBrace refl (is-or 91 o _ OpenBracket refl (is-or 93 o _ CloseBracket refl (is-or 40 o _ OpenParenthesis refl (is-or 41 o _ CloseParenthesis refl (is-or 44 o _ Comma refl (is-or 45 o _ Hyphen refl (is-or 46 o _ FullStop refl (is-or 58 o _ Colon refl (is-or 59 o _ Semicolon refl (is-or 124 o _ VerticalBar refl (λ h. absurd (false≢true h)))))))))))))

pub mark_front : (x : List ℕ) → is_mark (get_or x 0 0) ≡ true → IsSpelling (take 1 x)
mark_front [] p = absurd (false≢true p)
mark_front (b ∷ x) p = mark-spelt b p

-- The token.
other-only : (k : Kind) (w : List ℕ) → class_of k ≡ 5 → Spells k w → IsSpelling w
other-only ASymbol w h s = s
other-only Reserved w h s = absurd (omega arith)
other-only TypeName w h s = absurd (omega arith)
other-only Identifier w h s = absurd (omega arith)
other-only (Number n) w h s = absurd (omega arith)
other-only Binary w h s = absurd (omega arith)
other-only Hex w h s = absurd (omega arith)
other-only Chars w h s = absurd (omega arith)

symbol-here : (x : List ℕ) (j : Kind) (m : ℕ) → IsOtherOctet (get_or x 0 0) → 1 ≤ m → Spells j (take m x) → IsSpelling (take m x)
symbol-here x j m o h s =
    let front = class_front x j m h s in
    let fifth = class_other (get_or x 0 0) o.no_letter o.no_digit o.no_apostrophe o.no_quotation_mark in
    other-only j (take m x) (sym front ∙ fifth) s

-- no symbol in front is longer
abbrev pub NoLonger : List ℕ → ℕ → Type 0
NoLonger x n = (m : ℕ) (s : Symbol) → m ≤ length x → take m x ≡ symbol_text s → m ≤ n

symbol-longest : (x : List ℕ) (n : ℕ) → IsOtherOctet (get_or x 0 0) → NoLonger x n → (j : Kind) (m : ℕ) → m ≤ length x → Spells j (take m x) → m ≤ n
symbol-longest x n o longest j zero l s = omega arith
symbol-longest x n o longest j (suc m) l s = let h = symbol-here x j (suc m) o (omega arith) s in longest (suc m) h.0 l h.1

digit-no-other : (o : ℕ) → IsOtherOctet o → o ≡ 48 → ⊥
digit-no-other o h e = let p = h.no_digit in false≢true (sym p ∙ ap is_ascii_digit e)

pub symbol_token : (x : List ℕ) (n : ℕ) → StandsApart x → IsOtherOctet (get_or x 0 0) → n ≤ length x → IsSpelling (take n x) → NoLonger x n → IsToken x ASymbol n
symbol_token x n apart o l s longest = record {
  within = l;
  spelt = s;
  longest = symbol-longest x n o longest;
  small = tt;
  no_digit_behind_zero = λ z. absurd (digit-no-other (get_or x 0 0) o z);
  no_comment = apart;
}

pub no_symbol : (x : List ℕ) → IsOtherOctet (get_or x 0 0) → NoLonger x 0 → HasNoToken x
no_symbol x o longest k n t =
    let size = length-take-le n x t.within in
    let some = spells_some k (take n x) t.spelt in
    let h = symbol-here x k n o (omega arith) t.spelt in
    let none = longest n h.0 t.within h.1 in
    absurd (omega arith)

-- A token begins and ends with an octet below 128, so its span is whole characters; and its spelling tells
-- its kind.
use Rattle.std.proofs.Common.{◌≡◌, ℕ, ◌+◌, ◌-◌, ◌<◌, ◌≤◌, List, [], ◌∷◌, ◌++◌, length, take, drop, get_or, refl, sym, ◌∙◌, ap, subst, arith, add-zero, Bool, true, false, ◌&&◌, ◌||◌, eqb, lit<, inl, inr}
use Rattle.std.specs.Prelude.{All, codes}
use Rattle.std.proofs.lemmas.Bool.{false≢true, cases_lt, eqb-true}
use Rattle.std.proofs.lemmas.Bool.Decides.{nat_tests}
use Rattle.std.proofs.lemmas.List.{length-take-le, length-drop, get_or-drop, get_or-take, get_or_at, length-append}
use Rattle.std.proofs.lemmas.List.Elements.{All-nil, All-cons}
use Rattle.std.proofs.lemmas.Str.{IsCharBoundary-before_ascii, IsCharBoundary-after_ascii}
use Rattle.std.specs.Str.{IsUtf8, IsCharBoundary}
use Rattle.std.specs.Char.{is_ascii_digit, is_ascii_alphanumeric, is_ascii_uppercase, is_ascii_lowercase}
use Rattle.lexis.specs.declared.token.Kind.{Kind}
use Rattle.lexis.specs.declared.token.Kind.TheVariants.{Reserved, TypeName, Identifier, Number, Binary, Hex, Chars, Symbol}
use Rattle.lexis.specs.declared.token.Token.{Token}
use Rattle.lexis.specs.declared.symbol.Symbol.{Symbol as TheSymbol}
use Rattle.lexis.specs.declared.symbol.Symbol.TheVariants.{Assignment}
use Rattle.lexis.specs.Symbols.{symbol_text}
use Rattle.lexis.specs.Spelling.{Spells, IsWord, IsDigitString, goes_on, doubled}
use Rattle.lexis.specs.Tokens.{IsToken, TokensFrom, IsSpan}
use Rattle.lexis.proofs.KindLemmas.{class_first, spells_some}

-- the last octet of a list
abbrev pub last : List ℕ → ℕ
last w = get_or w (length w - 1) 0

last-of : (w front : List ℕ) (c : ℕ) → w ≡ front ++ c ∷ [] → last w ≡ c
last-of w front c e =
    let size : length w - 1 ≡ length front = omega (arith, ap length e, length-append front (c ∷ [])) in
    ap (λ (v : List ℕ). get_or v (length w - 1) 0) e ∙ get_or_at front c [] 0 (length w - 1) (sym size)

last-of-digits : (p : ℕ → Bool) (c : ℕ) (w : List ℕ) → IsDigitString p (c ∷ []) w → last w ≡ c
last-of-digits p c w s = last-of w (codes "'" ++ s.digits ++ codes "'") c s.spelt

goes-ascii : (w : List ℕ) (i : ℕ) → goes_on w i ≡ true → get_or w i 0 < 128
goes-ascii w i h = either (is_ascii_alphanumeric (get_or w i 0)) (eqb (get_or w i 0) 45) (is_ascii_alphanumeric (get_or w (i + 1) 0)) refl refl h
  where
    either : (p q r : Bool) → is_ascii_alphanumeric (get_or w i 0) ≡ p → eqb (get_or w i 0) 45 ≡ q → p || (q && r) ≡ true → get_or w i 0 < 128
    either true q r e f g = grind (arith, nat_tests)
    either false true r e f g = let same = eqb-true (get_or w i 0) 45 f in omega arith
    either false false r e f g = absurd (false≢true g)

word-last : (first : ℕ → Bool) (w : List ℕ) → ((b : ℕ) → first b ≡ true → b < 128) → 1 ≤ length w → IsWord first w → last w < 128
word-last first w low some s = elim (cases_lt 1 (length w)) [
  | inl more ↦ goes-ascii w (length w - 1) (s.others (length w - 1) (omega arith) (omega arith))
  | inr one ↦ let same : 0 ≡ length w - 1 = omega arith in subst (λ (i : ℕ). get_or w i 0 < 128) same (low (get_or w 0 0) s.first)
]

upper-ascii : (b : ℕ) → is_ascii_uppercase b ≡ true → b < 128
upper-ascii b h = grind (arith, nat_tests)

lower-ascii : (b : ℕ) → is_ascii_lowercase b ≡ true → b < 128
lower-ascii b h = grind (arith, nat_tests)

digit-ascii : (b : ℕ) → is_ascii_digit b ≡ true → b < 128
digit-ascii b h = grind (arith, nat_tests)

-- both ends of the spelling are below 128
record AreLow (w : List ℕ) : Type 0 where
  first : get_or w 0 0 < 128
  last : last w < 128

symbol-low : (s : TheSymbol) → AreLow (symbol_text s)
symbol-low Assignment = record { first = lit< tt; last = lit< tt }
symbol-low s = record { first = lit< tt; last = lit< tt }

first-of : (w : List ℕ) (c : ℕ) (v : List ℕ) → w ≡ c ∷ v → get_or w 0 0 ≡ c
first-of w c v e = ap (λ (u : List ℕ). get_or u 0 0) e

low : (k : Kind) (w : List ℕ) → Spells k w → AreLow w
low Reserved w s = record { first = upper-ascii (get_or w 0 0) s.0.first; last = word-last is_ascii_uppercase w upper-ascii (spells_some Reserved w s) s.0 }
low TypeName w s = record { first = upper-ascii (get_or w 0 0) s.0.first; last = word-last is_ascii_uppercase w upper-ascii (spells_some TypeName w s) s.0 }
low Identifier w s = record { first = lower-ascii (get_or w 0 0) s.first; last = word-last is_ascii_lowercase w lower-ascii (spells_some Identifier w s) s }
low (Number n) w s =
    let some = s.0.some in
    record { first = digit-ascii (get_or w 0 0) (s.0.each 0 some); last = digit-ascii (last w) (s.0.each (length w - 1) (omega arith)) }
low Binary w s = record {
  first = let e : get_or w 0 0 ≡ 39 = ap (λ (u : List ℕ). get_or u 0 0) s.spelt in omega arith;
  last = let e = last-of-digits _ 66 w s in omega arith;
}
low Hex w s = record {
  first = let e : get_or w 0 0 ≡ 39 = ap (λ (u : List ℕ). get_or u 0 0) s.spelt in omega arith;
  last = let e = last-of-digits _ 72 w s in omega arith;
}
low Chars w s = record {
  first = let e : get_or w 0 0 ≡ 34 = ap (λ (u : List ℕ). get_or u 0 0) s.spelt in omega arith;
  last = let e = last-of w (34 ∷ doubled s.characters) 34 s.spelt in omega arith;
}
low Symbol w (s, e) = subst AreLow (sym e) (symbol-low s)

pub start_boundary : (x : List ℕ) (s : ℕ) (k : Kind) (n : ℕ) → IsToken (drop s x) k n → IsCharBoundary x s
start_boundary x s k n t =
    let size = length-take-le n (drop s x) t.within in
    let some : 1 ≤ n = omega (arith, spells_some k (take n (drop s x)) t.spelt) in
    let within : s < length x = omega (arith, t.within, length-drop s x) in
    let here : get_or (take n (drop s x)) 0 0 ≡ get_or x s 0 = get_or-take n (drop s x) 0 0 some ∙ get_or-drop s x 0 0 ∙ ap (λ (i : ℕ). get_or x i 0) (add-zero s) in
    IsCharBoundary-before_ascii x s within (subst (λ (o : ℕ). o < 128) here ((low k (take n (drop s x)) t.spelt).first))

pub end_boundary : (x : List ℕ) (s : ℕ) (k : Kind) (n : ℕ) → IsUtf8 x → IsToken (drop s x) k n → IsCharBoundary x (s + n)
end_boundary x s k n u t =
    let size = length-take-le n (drop s x) t.within in
    let some : 1 ≤ n = omega (arith, spells_some k (take n (drop s x)) t.spelt) in
    let near : n - 1 < n = omega arith in
    let within : s + (n - 1) < length x = omega (arith, t.within, length-drop s x) in
    let here : last (take n (drop s x)) ≡ get_or x (s + (n - 1)) 0 = ap (λ (i : ℕ). get_or (take n (drop s x)) (i - 1) 0) size ∙ get_or-take n (drop s x) (n - 1) 0 near ∙ get_or-drop s x (n - 1) 0 in
    let same : s + (n - 1) + 1 ≡ s + n = omega arith in
    subst (IsCharBoundary x) same (IsCharBoundary-after_ascii x (s + (n - 1)) u within (subst (λ (o : ℕ). o < 128) here ((low k (take n (drop s x)) t.spelt).last)))

pub are_spans : (x : List ℕ) (p : ℕ) (ts : List Token) → IsUtf8 x → TokensFrom x p ts → All (IsSpan x) ts
are_spans x p [] u l = All-nil (IsSpan x)
are_spans x p (t ∷ ts) u l =
    let same : t.start + (t.end - t.start) ≡ t.end = omega (arith, l.0.forward) in
    let span : IsSpan x t = record {
      forward = l.0.forward;
      start = start_boundary x t.start t.kind (t.end - t.start) l.0.is_token;
      end = subst (IsCharBoundary x) same (end_boundary x t.start t.kind (t.end - t.start) u l.0.is_token);
      spelt = l.0.is_token.spelt;
    } in
    All-cons (IsSpan x) t ts span (are_spans x t.end ts u l.1)

-- One spelling has one kind.
letters-apart : (w : List ℕ) (p q : ℕ → Bool) → IsDigitString p (66 ∷ []) w → IsDigitString q (72 ∷ []) w → ⊥
letters-apart w p q s t = let e = last-of-digits p 66 w s in let f = last-of-digits q 72 w t in absurd (omega arith)

pub same_kind : (j k : Kind) (w : List ℕ) → Spells j w → Spells k w → j ≡ k
same_kind Reserved Reserved w p q = refl
same_kind TypeName TypeName w p q = refl
same_kind Identifier Identifier w p q = refl
same_kind Binary Binary w p q = refl
same_kind Hex Hex w p q = refl
same_kind Chars Chars w p q = refl
same_kind Symbol Symbol w p q = refl
same_kind (Number m) (Number n) w p q = ap Number (p.1 ∙ sym q.1)
same_kind Reserved TypeName w p q = absurd (q.1 p.1)
same_kind TypeName Reserved w p q = absurd (p.1 q.1)
same_kind Binary Hex w p q = absurd (letters-apart w _ _ p q)
same_kind Hex Binary w p q = absurd (letters-apart w _ _ q p)
same_kind j k w p q = let e = class_first j w p in let f = class_first k w q in absurd (omega arith)

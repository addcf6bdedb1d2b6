-- BIT STRING: what is spelled is read again, and what is read is spelled so.
use Rattle.std.proofs.Common.{◌≡◌, ℕ, ◌≤◌, List, [], ◌∷◌, ◌++◌, length, refl, ◌∙◌, ap, subst, sym, arith, Some, Bool, true, false}
use Rattle.std.specs.Prelude.{All}
use Rattle.std.proofs.lemmas.Option.{none-some}
use Rattle.lexis.specs.declared.word.Word.TheVariants.{Bit, String}
use Rattle.lexis.specs.declared.symbol.Symbol.TheVariants.{OpenBrace, OpenParenthesis, CloseParenthesis}
use Rattle.lexis.specs.Signs.{Sign, word, symbol, number, identifier}
use Rattle.syntax.specs.declared.tree.Simple.TheVariants.{BitString}
use Rattle.syntax.specs.Tree.{Form, named_bits, simple}
use Rattle.syntax.specs.Grammar.{joined, named_bit, spelling}
use Rattle.syntax.specs.Limits.{Fits}
use Rattle.syntax.specs.Reading.{is_symbol, word_at, symbol_at, limited_number_at, identifier_at, more_at}
use Rattle.syntax.specs.ValueReading.{end_at}
use Rattle.syntax.specs.BitReading.{bit_number_at, named_bit_at, named_bits_at, behind_string_at, bit_string_at}
use Rattle.syntax.proofs.WordPlaces.{symbol-found}
use Rattle.syntax.proofs.Inversions.{bind, arrive, split, Spelled, word-some, symbol-some, limited_number-some, limited_number-again, identifier-some}
use Rattle.syntax.proofs.ValueReading.{mark, end-again, end-some}
use Rattle.syntax.proofs.ListReading.{more-some, more-again}
use Rattle.syntax.proofs.TypeLists.{comma, brace}

abbrev pub NamedBit : Type 0
NamedBit = List ℕ × ℕ

abbrev FitsBit : List ℕ × ℕ → Type 0
FitsBit b = b.1 ≤ 65535

-- a terminal stands there, and no list of named bits
abbrev pub Follows : List Sign → Type 0
Follows [] = ⊥
Follows (s ∷ ts) = is_symbol OpenBrace s ≡ false

-- what is spelled is read again
bit_number-again : (n : ℕ) (r : List Sign) → n ≤ 65535 → bit_number_at (symbol OpenParenthesis ∷ number n ∷ symbol CloseParenthesis ∷ r) ≡ Some (n, r)
unfolding bit_number_at symbol_at
bit_number-again n r h = rw (limited_number-again 65535 n (symbol CloseParenthesis ∷ r) h) refl

named_bit-again : (c : List ℕ × ℕ) (b : Bool) (r : List Sign) → FitsBit c → named_bit_at (named_bit c ++ (mark b ++ r)) ≡ Some ((c, b), r)
unfolding named_bit_at identifier_at
named_bit-again c b r h = rw (bit_number-again c.1 (mark b ++ r) h) (rw (end-again b r) refl)

named_bits-again : (bits : List NamedBit) (r : List Sign) → 1 ≤ length bits → length bits ≤ 256 → All FitsBit bits
    → named_bits_at (joined named_bit comma brace bits ++ r) ≡ Some (named_bits bits, r)
unfolding named_bits_at
named_bits-again [] r low h good = absurd (omega arith)
named_bits-again (c ∷ others) r low h good =
    let read : more_at named_bit_at 256 (joined named_bit comma brace (c ∷ others) ++ r) ≡ Some (c ∷ others, r) =
    more-again named_bit_at named_bit comma brace FitsBit (λ a s v. named_bit-again a true s v) (λ a b s v. named_bit-again a false (named_bit b ++ s) v) c others 256 r h good in
    rw read refl

pub bit_list-again : (bits : List NamedBit) (r : List Sign) → 1 ≤ length bits → length bits ≤ 256 → All FitsBit bits
    → bit_string_at (word String ∷ symbol OpenBrace ∷ (joined named_bit comma brace bits ++ r)) ≡ Some (named_bits bits, r)
unfolding bit_string_at behind_string_at word_at
bit_list-again bits r low h good = named_bits-again bits r low h good

pub bit_string-again : (r : List Sign) → Follows r → bit_string_at (word String ∷ r) ≡ Some (simple BitString, r)
unfolding bit_string_at behind_string_at word_at
bit_string-again [] h = absurd h
bit_string-again (s ∷ r) h = rw h refl

-- what is read is spelled so
bit_number-some : (ts : List Sign) (y : ℕ × List Sign) → bit_number_at ts ≡ Some y
    → (ts ≡ symbol OpenParenthesis ∷ number y.0 ∷ symbol CloseParenthesis ∷ y.1) × (y.0 ≤ 65535)
unfolding bit_number_at
bit_number-some ts y e =
    let r = bind _ (symbol_at OpenParenthesis ts) y e in
    let n = bind _ (limited_number_at 65535 r.0) y r.2 in
    let s = bind _ (symbol_at CloseParenthesis n.0.1) y n.2 in
    let g = limited_number-some 65535 r.0 n.0 n.1 in
    arrive (λ (z : ℕ × List Sign). (ts ≡ symbol OpenParenthesis ∷ number z.0 ∷ symbol CloseParenthesis ∷ z.1) × (z.0 ≤ 65535)) (n.0.0, s.0) y s.2
    (symbol-some OpenParenthesis ts r.0 r.1 ∙ ap (λ i. symbol OpenParenthesis ∷ i) (g.0 ∙ ap (λ i. number n.0.0 ∷ i) (symbol-some CloseParenthesis n.0.1 s.0 s.1)), g.1)

named_bit-some : (ts : List Sign) (y : ((List ℕ × ℕ) × Bool) × List Sign) → named_bit_at ts ≡ Some y
    → (ts ≡ named_bit y.0.0 ++ (mark y.0.1 ++ y.1)) × FitsBit y.0.0
unfolding named_bit_at
named_bit-some ts y e =
    let n = bind _ (identifier_at ts) y e in
    let v = bind _ (bit_number_at n.0.1) y n.2 in
    let m = bind _ (end_at v.0.1) y v.2 in
    let g = bit_number-some n.0.1 v.0 v.1 in
    arrive (λ (z : ((List ℕ × ℕ) × Bool) × List Sign). (ts ≡ named_bit z.0.0 ++ (mark z.0.1 ++ z.1)) × FitsBit z.0.0) (((n.0.0, v.0.0), m.0.0), m.0.1) y m.2
    (identifier-some ts n.0 n.1 ∙ ap (λ i. identifier n.0.0 ∷ i) (g.0 ∙ ap (λ i. symbol OpenParenthesis ∷ number v.0.0 ∷ symbol CloseParenthesis ∷ i) (end-some v.0.1 m.0 m.1)), g.1)

named_bits-some : (n : ℕ) (ts : List Sign) (y : Form × List Sign) → named_bits_at ts ≡ Some y → Spelled spelling (Fits n) (word Bit ∷ word String ∷ symbol OpenBrace ∷ ts) y
unfolding named_bits_at
named_bits-some n ts y e =
    let u = bind _ (more_at named_bit_at 256 ts) y e in
    let h = more-some named_bit_at named_bit comma brace FitsBit turn 256 ts u.0 u.1 in
    arrive (λ (z : Form × List Sign). Spelled spelling (Fits n) (word Bit ∷ word String ∷ symbol OpenBrace ∷ ts) z) (named_bits u.0.0, u.0.1) y u.2
    (record {
      whole = ap (λ i. word Bit ∷ word String ∷ symbol OpenBrace ∷ i) h.whole;
      valid = (h.some, h.most, h.valid);
    })
  where
    turn : (xs : List Sign) (z : ((List ℕ × ℕ) × Bool) × List Sign) → named_bit_at xs ≡ Some z → (xs ≡ named_bit z.0.0 ++ (mark z.0.1 ++ z.1)) × FitsBit z.0.0
    turn xs ((c, true), r) h = named_bit-some xs ((c, true), r) h
    turn xs ((c, false), r) h = named_bit-some xs ((c, false), r) h

behind_string-some : (n : ℕ) (ts : List Sign) (y : Form × List Sign) → behind_string_at ts ≡ Some y → Spelled spelling (Fits n) (word Bit ∷ word String ∷ ts) y
unfolding behind_string_at
behind_string-some n [] y e = absurd (none-some y e)
behind_string-some n (s ∷ ts) y e =
    split (is_symbol OpenBrace s) _ _ y
    (λ b h. subst (λ i. Spelled spelling (Fits n) (word Bit ∷ word String ∷ i ∷ ts) y) (sym (symbol-found OpenBrace s b)) (named_bits-some n ts y h))
    (λ _ h. arrive (λ (z : Form × List Sign). Spelled spelling (Fits n) (word Bit ∷ word String ∷ s ∷ ts) z) (simple BitString, s ∷ ts) y h (record { whole = refl; valid = tt })) e

pub bit_string-some : (n : ℕ) (ts : List Sign) (y : Form × List Sign) → bit_string_at ts ≡ Some y → Spelled spelling (Fits n) (word Bit ∷ ts) y
unfolding bit_string_at
bit_string-some n ts y e =
    let r = bind _ (word_at String ts) y e in
    subst (λ i. Spelled spelling (Fits n) (word Bit ∷ i) y) (sym (word-some String ts r.0 r.1)) (behind_string-some n r.0 y r.2)

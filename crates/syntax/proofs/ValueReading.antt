-- Numbers, defaults and items: what is spelled is read again, and what is read is spelled so.
use Rattle.std.proofs.Common.{◌≡◌, ℕ, ◌≤◌, ◌^◌, List, [], ◌∷◌, ◌++◌, refl, sym, ◌∙◌, ap, subst, arith, Option, Some, None, Bool, true, false, nat_le, append_assoc}
use Rattle.std.proofs.lemmas.Bool.Decides.{nat_tests}
use Rattle.std.proofs.lemmas.Option.{none-some, cond_some}
use Rattle.lexis.specs.declared.word.Word.TheVariants.{Application, True, False, Optional, Default}
use Rattle.lexis.specs.declared.symbol.Symbol.TheVariants.{CloseBrace, Comma, Hyphen, OpenParenthesis, CloseParenthesis}
use Rattle.syntax.specs.declared.tree.SignedNumber.{SignedNumber}
use Rattle.syntax.specs.Tree.{Value, truth, falsity, integer, item_name, binary_value, hex_value, chars_value, Ending, required, optional, default, Entry}
use Rattle.lexis.specs.Signs.{Sign, word, symbol, identifier, binary, hex, chars}
use Rattle.syntax.specs.Grammar.{signed, value, ending, item_number, item}
use Rattle.syntax.specs.Limits.{IsSigned, IsItemNumber, FitsEntry, FitsEnding}
use Rattle.syntax.specs.Reading.{is_word, is_symbol, number_at, symbol_at, identifier_at}
use Rattle.syntax.specs.ValueReading.{with_sign, negative_at, positive_at, signed_at, end_at, plain_value, begins_number, number_value_at, value_at, default_at, ending_at, is_item_number, numbered_at, item_number_at, item_at}
use Rattle.syntax.proofs.WordPlaces.{word-found, symbol-found}
use Rattle.syntax.proofs.Inversions.{bind, arrive, split, Spelled, symbol-some, number-some, identifier-some}

-- a signed number's terminals
abbrev pub signed_of : SignedNumber → List Sign
signed_of n = signed n.negative n.magnitude

abbrev pub IsSignedNumber : SignedNumber → Type 0
IsSignedNumber n = IsSigned n.negative n.magnitude

positive : (n : ℕ) → 1 ≤ n → nat_le 1 n ≡ true
positive n h = grind (arith, nat_tests)

parts-again : (b : Bool) (n : ℕ) (r : List Sign) → IsSigned b n → signed_at (signed b n ++ r) ≡ Some (with_sign b n, r)
unfolding signed_at negative_at positive_at number_at
parts-again false n r h = refl
parts-again true n r h = rw (positive n h) refl

pub signed-again : (n : SignedNumber) (r : List Sign) → IsSignedNumber n → signed_at (signed_of n ++ r) ≡ Some (n, r)
signed-again n r h = parts-again n.negative n.magnitude r h

negative-some : (ts : List Sign) (y : SignedNumber × List Sign) → negative_at ts ≡ Some y → Spelled signed_of IsSignedNumber (symbol Hyphen ∷ ts) y
unfolding negative_at
negative-some ts y e =
    let u = bind _ (number_at ts) y e in
    let v = cond_some (nat_le 1 u.0.0) (with_sign true u.0.0, u.0.1) y u.2 in
    let test : nat_le 1 u.0.0 ≡ true = v.0 in
    let least : 1 ≤ u.0.0 = grind (arith, nat_tests) in
    subst (λ (z : SignedNumber × List Sign). Spelled signed_of IsSignedNumber (symbol Hyphen ∷ ts) z) v.1
    (record { whole = ap (λ i. symbol Hyphen ∷ i) (number-some ts u.0 u.1); valid = least })

positive-some : (ts : List Sign) (y : SignedNumber × List Sign) → positive_at ts ≡ Some y → Spelled signed_of IsSignedNumber ts y
unfolding positive_at
positive-some ts y e =
    let u = bind _ (number_at ts) y e in
    arrive (λ (z : SignedNumber × List Sign). Spelled signed_of IsSignedNumber ts z) (with_sign false u.0.0, u.0.1) y u.2
    (record { whole = number-some ts u.0 u.1; valid = tt })

pub signed-some : (ts : List Sign) (y : SignedNumber × List Sign) → signed_at ts ≡ Some y → Spelled signed_of IsSignedNumber ts y
unfolding signed_at
signed-some [] y e = absurd (none-some y e)
signed-some (s ∷ ts) y e =
    split (is_symbol Hyphen s) _ _ y
    (λ b h. subst (λ i. Spelled signed_of IsSignedNumber (i ∷ ts) y) (sym (symbol-found Hyphen s b)) (negative-some ts y h))
    (λ _ h. positive-some (s ∷ ts) y h) e

-- defaults
pub value-again : (v : Value) (r : List Sign) → FitsEnding (default v) → value_at (value v ++ r) ≡ Some (v, r)
unfolding value_at number_value_at
value-again truth r h = refl
value-again falsity r h = refl
value-again (integer n) r h = number-again n.negative n.magnitude h
  where
    number-again : (b : Bool) (m : ℕ) → IsSigned b m → value_at (signed b m ++ r) ≡ Some (integer (with_sign b m), r)
    number-again false m g = rw (parts-again false m r g) refl
    number-again true m g = rw (parts-again true m r g) refl
value-again (item_name n) r h = refl
value-again (binary_value s) r h = refl
value-again (hex_value s) r h = refl
value-again (chars_value s) r h = refl

plain-some : (s : Sign) (v : Value) → plain_value s ≡ Some v → (s ∷ [] ≡ value v) × FitsEnding (default v)
plain-some (word True) v e = arrive (λ w. (word True ∷ [] ≡ value w) × FitsEnding (default w)) truth v e (refl, tt)
plain-some (word False) v e = arrive (λ w. (word False ∷ [] ≡ value w) × FitsEnding (default w)) falsity v e (refl, tt)
plain-some (word Application) v e = absurd (none-some v e)
plain-some (identifier n) v e = arrive (λ w. (identifier n ∷ [] ≡ value w) × FitsEnding (default w)) (item_name n) v e (refl, tt)
plain-some (binary n) v e = arrive (λ w. (binary n ∷ [] ≡ value w) × FitsEnding (default w)) (binary_value n) v e (refl, tt)
plain-some (hex n) v e = arrive (λ w. (hex n ∷ [] ≡ value w) × FitsEnding (default w)) (hex_value n) v e (refl, tt)
plain-some (chars n) v e = arrive (λ w. (chars n ∷ [] ≡ value w) × FitsEnding (default w)) (chars_value n) v e (refl, tt)
plain-some s v e = absurd (none-some v e)

abbrev FitsValue : Value → Type 0
FitsValue v = FitsEnding (default v)

number_value-some : (ts : List Sign) (y : Value × List Sign) → number_value_at ts ≡ Some y → Spelled value FitsValue ts y
unfolding number_value_at
number_value-some ts y e =
    let u = bind _ (signed_at ts) y e in
    let g = signed-some ts u.0 u.1 in
    arrive (λ (z : Value × List Sign). Spelled value FitsValue ts z) (integer u.0.0, u.0.1) y u.2 (record { whole = g.whole; valid = g.valid })

value-some : (ts : List Sign) (y : Value × List Sign) → value_at ts ≡ Some y → Spelled value FitsValue ts y
unfolding value_at
value-some [] y e = absurd (none-some y e)
value-some (s ∷ ts) y e =
    split (begins_number s) _ _ y
    (λ _ h. number_value-some (s ∷ ts) y h)
    (λ _ h.
    let u = bind (λ (v : Value). Some (v, ts)) (plain_value s) y h in
    let g = plain-some s u.0 u.1 in
    arrive (λ (z : Value × List Sign). Spelled value FitsValue (s ∷ ts) z) (u.0, ts) y u.2 (record { whole = ap (λ i. i ++ ts) g.0; valid = g.1 })) e

-- the terminal that ends a part of a list
abbrev pub mark : Bool → List Sign
mark true = symbol CloseBrace ∷ []
mark false = symbol Comma ∷ []

pub ending-again : (v : Ending) (b : Bool) (r : List Sign) → FitsEnding v → ending_at (ending v ++ (mark b ++ r)) ≡ Some (v, mark b ++ r)
unfolding ending_at default_at
ending-again required true r h = refl
ending-again required false r h = refl
ending-again optional b r h = refl
ending-again (default v) b r h = rw (value-again v (mark b ++ r) h) refl

default-some : (ts : List Sign) (y : Ending × List Sign) → default_at ts ≡ Some y → Spelled ending FitsEnding (word Default ∷ ts) y
unfolding default_at
default-some ts y e =
    let u = bind _ (value_at ts) y e in
    let g = value-some ts u.0 u.1 in
    arrive (λ (z : Ending × List Sign). Spelled ending FitsEnding (word Default ∷ ts) z) (default u.0.0, u.0.1) y u.2
    (record { whole = ap (λ i. word Default ∷ i) g.whole; valid = g.valid })

pub ending-some : (ts : List Sign) (y : Ending × List Sign) → ending_at ts ≡ Some y → Spelled ending FitsEnding ts y
unfolding ending_at
ending-some [] y e = absurd (none-some y e)
ending-some (s ∷ ts) y e =
    split (is_word Optional s) _ _ y
    (λ b h. arrive (λ (z : Ending × List Sign). Spelled ending FitsEnding (s ∷ ts) z) (optional, ts) y h
    (record { whole = ap (λ i. i ∷ ts) (word-found Optional s b); valid = tt }))
    (λ _ h. split (is_word Default s) _ _ y
    (λ b i. subst (λ j. Spelled ending FitsEnding (j ∷ ts) y) (sym (word-found Default s b)) (default-some ts y i))
    (λ _ i. arrive (λ (z : Ending × List Sign). Spelled ending FitsEnding (s ∷ ts) z) (required, s ∷ ts) y i (record { whole = refl; valid = tt })) h) e

pub end-again : (b : Bool) (r : List Sign) → end_at (mark b ++ r) ≡ Some (b, r)
unfolding end_at
end-again true r = refl
end-again false r = refl

pub end-some : (ts : List Sign) (y : Bool × List Sign) → end_at ts ≡ Some y → ts ≡ mark y.0 ++ y.1
unfolding end_at
end-some [] y e = absurd (none-some y e)
end-some (s ∷ ts) y e =
    split (is_symbol CloseBrace s) _ _ y
    (λ b h. arrive (λ (z : Bool × List Sign). s ∷ ts ≡ mark z.0 ++ z.1) (true, ts) y h (ap (λ i. i ∷ ts) (symbol-found CloseBrace s b)))
    (λ _ h. split (is_symbol Comma s) _ _ y
    (λ b i. arrive (λ (z : Bool × List Sign). s ∷ ts ≡ mark z.0 ++ z.1) (false, ts) y i (ap (λ j. j ∷ ts) (symbol-found Comma s b)))
    (λ _ i. absurd (none-some y i)) h) e

-- items
in_range : (b : Bool) (n : ℕ) → IsItemNumber b n → is_item_number b n ≡ true
in_range true n h = grind (arith, nat_tests)
in_range false n h = grind (arith, nat_tests)

is_signed : (b : Bool) (n : ℕ) → IsItemNumber b n → IsSigned b n
is_signed true n h = h.0
is_signed false n h = tt

range-found : (b : Bool) (n : ℕ) → IsSigned b n → is_item_number b n ≡ true → IsItemNumber b n
range-found true n h e = let most : n ≤ 2 ^ 127 = grind (arith, nat_tests) in (h, most)
range-found false n h e = grind (arith, nat_tests)

numbered-again : (n : SignedNumber) (r : List Sign) → FitsEntry (Some n) → numbered_at (signed_of n ++ (symbol CloseParenthesis ∷ r)) ≡ Some (Some n, r)
unfolding numbered_at symbol_at
numbered-again n r h = rw (signed-again n (symbol CloseParenthesis ∷ r) (is_signed n.negative n.magnitude h)) (rw (in_range n.negative n.magnitude h) refl)

item_number-again : (o : Option SignedNumber) (b : Bool) (r : List Sign) → FitsEntry o → item_number_at (item_number o ++ (mark b ++ r)) ≡ Some (o, mark b ++ r)
unfolding item_number_at
item_number-again None true r h = refl
item_number-again None false r h = refl
item_number-again (Some n) b r h = rw append_assoc (numbered-again n (mark b ++ r) h)

pub item-again : (e : Entry) (b : Bool) (r : List Sign) → FitsEntry e.1 → item_at (item e ++ (mark b ++ r)) ≡ Some ((e, b), r)
unfolding item_at identifier_at
item-again e b r h = rw (item_number-again e.1 b r h) (rw (end-again b r) refl)

numbered-some : (ts : List Sign) (y : Option SignedNumber × List Sign) → numbered_at ts ≡ Some y → Spelled item_number FitsEntry (symbol OpenParenthesis ∷ ts) y
unfolding numbered_at
numbered-some ts y e =
    let u = bind _ (signed_at ts) y e in
    let r = bind _ (symbol_at CloseParenthesis u.0.1) y u.2 in
    let g = signed-some ts u.0 u.1 in
    let v = cond_some (is_item_number u.0.0.negative u.0.0.magnitude) (Some u.0.0, r.0) y r.2 in
    subst (λ (z : Option SignedNumber × List Sign). Spelled item_number FitsEntry (symbol OpenParenthesis ∷ ts) z) v.1
    (record {
      whole = ap (λ i. symbol OpenParenthesis ∷ i) (g.whole ∙ ap (λ i. signed_of u.0.0 ++ i) (symbol-some CloseParenthesis u.0.1 r.0 r.1) ∙ sym (append_assoc (signed_of u.0.0) (symbol CloseParenthesis ∷ []) r.0));
      valid = range-found u.0.0.negative u.0.0.magnitude g.valid v.0;
    })

item_number-some : (ts : List Sign) (y : Option SignedNumber × List Sign) → item_number_at ts ≡ Some y → Spelled item_number FitsEntry ts y
unfolding item_number_at
item_number-some [] y e = absurd (none-some y e)
item_number-some (s ∷ ts) y e =
    split (is_symbol OpenParenthesis s) _ _ y
    (λ b h. subst (λ i. Spelled item_number FitsEntry (i ∷ ts) y) (sym (symbol-found OpenParenthesis s b)) (numbered-some ts y h))
    (λ _ h. arrive (λ (z : Option SignedNumber × List Sign). Spelled item_number FitsEntry (s ∷ ts) z) (None, s ∷ ts) y h (record { whole = refl; valid = tt })) e

pub item-some : (ts : List Sign) (y : (Entry × Bool) × List Sign) → item_at ts ≡ Some y → (ts ≡ item y.0.0 ++ (mark y.0.1 ++ y.1)) × FitsEntry y.0.0.1
unfolding item_at
item-some ts y e =
    let n = bind _ (identifier_at ts) y e in
    let v = bind _ (item_number_at n.0.1) y n.2 in
    let m = bind _ (end_at v.0.1) y v.2 in
    let g = item_number-some n.0.1 v.0 v.1 in
    arrive (λ (z : (Entry × Bool) × List Sign). (ts ≡ item z.0.0 ++ (mark z.0.1 ++ z.1)) × FitsEntry z.0.0.1) (((n.0.0, v.0.0), m.0.0), m.0.1) y m.2
    (identifier-some ts n.0 n.1 ∙ ap (λ i. identifier n.0.0 ∷ i) (g.whole ∙ ap (λ i. item_number v.0.0 ++ i) (end-some v.0.1 m.0 m.1)), g.valid)

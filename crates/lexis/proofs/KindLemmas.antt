-- The first octet of a token tells its kind, but for a reserved word and a name of a type, and for the two
-- strings of digits.
use Rattle.std.proofs.Common.{◌≡◌, ◌≢◌, ℕ, ◌≤◌, List, [], ◌∷◌, length, take, get_or, lit≤, refl, sym, ◌∙◌, ap, arith, Bool, true, false, cond, eqb}
use Rattle.std.proofs.lemmas.Bool.{false≢true}
use Rattle.std.proofs.lemmas.Bool.Decides.{nat_tests}
use Rattle.std.proofs.lemmas.List.{get_or-take}
use Rattle.std.specs.Char.{is_ascii_digit, is_ascii_alphabetic, is_ascii_uppercase, is_ascii_lowercase}
use Rattle.lexis.specs.declared.token.Kind.{Kind}
use Rattle.lexis.specs.declared.token.Kind.TheVariants.{Reserved, TypeName, Identifier, Number, Binary, Hex, Chars, Symbol}
use Rattle.lexis.specs.declared.symbol.Symbol.{Symbol as TheSymbol}
use Rattle.lexis.specs.declared.symbol.Symbol.TheVariants.{Assignment}
use Rattle.lexis.specs.Symbols.{symbol_text}
use Rattle.lexis.specs.Spelling.{Spells, IsDigitString}

-- 0 a capital letter, 1 a small one, 2 a digit, 3 an apostrophe, 4 a quotation mark, 5 any other octet
pub class : ℕ → ℕ
class b = cond (is_ascii_uppercase b) 0 (cond (is_ascii_lowercase b) 1 (cond (is_ascii_digit b) 2 (cond (eqb b 39) 3 (cond (eqb b 34) 4 5))))

-- the class that the kind's tokens begin with
abbrev pub class_of : Kind → ℕ
class_of Reserved = 0
class_of TypeName = 0
class_of Identifier = 1
class_of (Number n) = 2
class_of Binary = 3
class_of Hex = 3
class_of Chars = 4
class_of Symbol = 5

class-symbol : (s : TheSymbol) → class (get_or (symbol_text s) 0 0) ≡ 5
unfolding class
class-symbol Assignment = refl
class-symbol s = refl

class-capital : (b : ℕ) → is_ascii_uppercase b ≡ true → class b ≡ 0
unfolding class
class-capital b p = rw p refl

class-small : (b : ℕ) → is_ascii_lowercase b ≡ true → class b ≡ 1
unfolding class
class-small b p = grind (arith, nat_tests)

pub class_digit : (b : ℕ) → is_ascii_digit b ≡ true → class b ≡ 2
unfolding class
class_digit b p = grind (arith, nat_tests)

pub class_apostrophe : class 39 ≡ 3
unfolding class
class_apostrophe = refl

pub class_mark : class 34 ≡ 4
unfolding class
class_mark = refl

pub class_letter : (b : ℕ) → is_ascii_alphabetic b ≡ true → class b ≤ 1
unfolding class
class_letter b p = grind (arith, nat_tests)

pub class_other : (b : ℕ) → is_ascii_alphabetic b ≡ false → is_ascii_digit b ≡ false → b ≢ 39 → b ≢ 34 → class b ≡ 5
unfolding class
class_other b p q r s = grind (arith, nat_tests)

class-digits : (p : ℕ → Bool) (behind w : List ℕ) → IsDigitString p behind w → class (get_or w 0 0) ≡ 3
class-digits p behind w s = ap (λ v. class (get_or v 0 0)) s.spelt ∙ class_apostrophe

pub class_first : (k : Kind) (w : List ℕ) → Spells k w → class (get_or w 0 0) ≡ class_of k
class_first Reserved w s = class-capital (get_or w 0 0) s.0.first
class_first TypeName w s = class-capital (get_or w 0 0) s.0.first
class_first Identifier w s = class-small (get_or w 0 0) s.first
class_first (Number n) w s = class_digit (get_or w 0 0) (s.0.each 0 s.0.some)
class_first Binary w s = class-digits _ _ w s
class_first Hex w s = class-digits _ _ w s
class_first Chars w s = ap (λ v. class (get_or v 0 0)) s.spelt ∙ class_mark
class_first Symbol w (t, e) = ap (λ v. class (get_or v 0 0)) e ∙ class-symbol t

some-symbol : (t : TheSymbol) → 1 ≤ length (symbol_text t)
some-symbol Assignment = lit≤ tt
some-symbol t = lit≤ tt

-- a token has octets
pub spells_some : (k : Kind) (w : List ℕ) → Spells k w → 1 ≤ length w
spells_some k (b ∷ w) s = omega arith
spells_some Reserved [] s = absurd (false≢true s.0.first)
spells_some TypeName [] s = absurd (false≢true s.0.first)
spells_some Identifier [] s = absurd (false≢true s.first)
spells_some (Number n) [] s = s.0.some
spells_some Binary [] s = let e = s.spelt in absurd (cc)
spells_some Hex [] s = let e = s.spelt in absurd (cc)
spells_some Chars [] s = let e = s.spelt in absurd (cc)
spells_some Symbol [] (t, e) = let l = some-symbol t in omega (arith, ap length e)

-- the class of what stands in front tells the kind of each token there
pub class_front : (x : List ℕ) (k : Kind) (m : ℕ) → 1 ≤ m → Spells k (take m x) → class (get_or x 0 0) ≡ class_of k
class_front x k m h s = sym (ap class (get_or-take m x 0 0 h)) ∙ class_first k (take m x) s

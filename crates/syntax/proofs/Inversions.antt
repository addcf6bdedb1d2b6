-- What is known where something was read: single terminals.
use Rattle.std.proofs.Common.{◌≡◌, ℕ, ◌≤◌, List, [], ◌∷◌, ◌++◌, refl, ◌∙◌, ap, subst, arith, Option, Some, None, Bool, true, false, cond, nat_le}
use Rattle.std.specs.Prelude.{option_and_then}
use Rattle.std.proofs.lemmas.Bool.Decides.{nat_tests}
use Rattle.std.proofs.lemmas.Option.{none-some, same_Some, cond_some}
use Rattle.lexis.specs.declared.word.Word.{Word}
use Rattle.lexis.specs.declared.symbol.Symbol.{Symbol}
use Rattle.lexis.specs.Signs.{Sign, word, symbol, number, type_name, identifier}
use Rattle.syntax.specs.Reading.{Reads, first_at, is_word, is_symbol, word_at, symbol_at, number_at, limited_number_at, identifier_at, type_name_at}
use Rattle.syntax.proofs.WordPlaces.{word-found, symbol-found}

pub bind : {A B : Type 0} (f : A → Option B) (o : Option A) (y : B) → option_and_then f o ≡ Some y → (x : A) × (o ≡ Some x) × (f x ≡ Some y)
bind f (Some x) y e = (x, refl, e)
bind f None y e = absurd (none-some y e)

-- what holds of the value that was put together holds of the value that was read
pub arrive : {A : Type 0} (P : A → Type 0) (x y : A) → Some x ≡ Some y → P x → P y
arrive P x y e h = subst P (same_Some x y e) h

-- a test was made
pub split : {B G : Type 0} (b : Bool) (p q : Option B) (y : B) → (b ≡ true → p ≡ Some y → G) → (b ≡ false → q ≡ Some y → G) → cond b p q ≡ Some y → G
split true p q y f g e = f refl e
split false p q y f g e = g refl e

-- what was read is spelled so, and the rest follows
pub record Spelled {A : Type 0} (one : A → List Sign) (Valid : A → Type 0) (ts : List Sign) (y : A × List Sign) : Type 0 where
  pub whole : ts ≡ one y.0 ++ y.1
  pub valid : Valid y.0

-- p reads only what is spelled so
pub Sound : {A : Type 0} → Reads A → (A → List Sign) → (A → Type 0) → Type 0
Sound p one Valid = (ts : List Sign) (y : _) → p ts ≡ Some y → Spelled one Valid ts y

pub first-some : (ts : List Sign) (y : Sign × List Sign) → first_at ts ≡ Some y → ts ≡ y.0 ∷ y.1
first-some [] y e = absurd (none-some y e)
first-some (t ∷ ts) y e = arrive (λ (z : Sign × List Sign). t ∷ ts ≡ z.0 ∷ z.1) (t, ts) y e refl

pub word-some : (k : Word) (ts r : List Sign) → word_at k ts ≡ Some r → ts ≡ word k ∷ r
unfolding word_at
word-some k [] r e = absurd (none-some r e)
word-some k (s ∷ ts) r e =
    let v = cond_some (is_word k s) ts r e in
    ap (λ i. i ∷ ts) (word-found k s v.0) ∙ ap (λ i. word k ∷ i) v.1

pub symbol-some : (k : Symbol) (ts r : List Sign) → symbol_at k ts ≡ Some r → ts ≡ symbol k ∷ r
unfolding symbol_at
symbol-some k [] r e = absurd (none-some r e)
symbol-some k (s ∷ ts) r e =
    let v = cond_some (is_symbol k s) ts r e in
    ap (λ i. i ∷ ts) (symbol-found k s v.0) ∙ ap (λ i. symbol k ∷ i) v.1

pub number-some : (ts : List Sign) (y : ℕ × List Sign) → number_at ts ≡ Some y → ts ≡ number y.0 ∷ y.1
unfolding number_at
number-some [] y e = absurd (none-some y e)
number-some (number m ∷ ts) y e = arrive (λ (z : ℕ × List Sign). number m ∷ ts ≡ number z.0 ∷ z.1) (m, ts) y e refl
number-some (s ∷ ts) y e = absurd (none-some y e)

pub limited_number-some : (most : ℕ) (ts : List Sign) (y : ℕ × List Sign) → limited_number_at most ts ≡ Some y → (ts ≡ number y.0 ∷ y.1) × (y.0 ≤ most)
unfolding limited_number_at
limited_number-some most ts y e =
    let u = bind _ (number_at ts) y e in
    let v = cond_some (nat_le u.0.0 most) u.0 y u.2 in
    let test : nat_le y.0 most ≡ true = subst (λ (i : ℕ × List Sign). nat_le i.0 most ≡ true) v.1 v.0 in
    (subst (λ (z : ℕ × List Sign). ts ≡ number z.0 ∷ z.1) v.1 (number-some ts u.0 u.1), grind (arith, nat_tests))

pub limited_number-again : (most n : ℕ) (r : List Sign) → n ≤ most → limited_number_at most (number n ∷ r) ≡ Some (n, r)
unfolding limited_number_at number_at
limited_number-again most n r h = let test : nat_le n most ≡ true = grind (arith, nat_tests) in rw test refl

pub identifier-some : (ts : List Sign) (y : List ℕ × List Sign) → identifier_at ts ≡ Some y → ts ≡ identifier y.0 ∷ y.1
unfolding identifier_at
identifier-some [] y e = absurd (none-some y e)
identifier-some (identifier m ∷ ts) y e = arrive (λ (z : List ℕ × List Sign). identifier m ∷ ts ≡ identifier z.0 ∷ z.1) (m, ts) y e refl
identifier-some (s ∷ ts) y e = absurd (none-some y e)

pub type_name-some : (ts : List Sign) (y : List ℕ × List Sign) → type_name_at ts ≡ Some y → ts ≡ type_name y.0 ∷ y.1
unfolding type_name_at
type_name-some [] y e = absurd (none-some y e)
type_name-some (type_name m ∷ ts) y e = arrive (λ (z : List ℕ × List Sign). type_name m ∷ ts ≡ type_name z.0 ∷ z.1) (m, ts) y e refl
type_name-some (s ∷ ts) y e = absurd (none-some y e)

-- What the parser reads at a place: what stands in front of the terminals, and the terminals behind it. None: no such
-- thing stands there. The contracts of private functions alone cite this, and the files named for its parts.
use Rattle.std.specs.Prelude.{◌≡◌, Bool, false, ℕ, zero, suc, List, [], ◌∷◌, ◌++◌, Option, Some, None, option_and_then, Result, Ok, Err, nat_eq, nat_le, if◌then◌else◌, map, drop}
use Rattle.lexis.specs.declared.word.Word.{Word}
use Rattle.lexis.specs.declared.symbol.Symbol.{Symbol}
use Rattle.syntax.specs.declared.stop.Stop.{Stop}
use Rattle.syntax.specs.declared.stop.Stop.TheVariants.{NoMemory, Refused}
use Rattle.syntax.specs.declared.terminal.Terminal.{Terminal}
use Rattle.lexis.specs.Lexemes.{sign}
use denote.Enum.Declared.{tag_of}
use Rattle.lexis.specs.contracts.word.Word.{the_type as words}
use Rattle.lexis.specs.contracts.symbol.Symbol.{the_type as symbols}
use Rattle.lexis.specs.Signs.{Sign, word, symbol, number, type_name, identifier}

-- what stands there, without its place
abbrev pub terminal_sign : Terminal → Sign
terminal_sign t = sign t.lexeme

-- the terminals from a place on
unfoldable pub signs_from : ℕ → List Terminal → List Sign
signs_from at terminals = map terminal_sign (drop at terminals)

-- the parser stops for another reason than memory
abbrev pub IsRefusal : Stop → Type 0
IsRefusal NoMemory = ⊥
IsRefusal (Refused cause at) = Unit {0}

-- What a function returned, seen by view, is what is read, unless memory ran out.
abbrev pub Gives : {X Y : Type 0} → (X → Y) → Result X Stop → Option Y → Type 0
Gives view (Ok x) read = read ≡ Some (view x)
Gives view (Err stop) read = IsRefusal stop → read ≡ None

infixl 10 ◌>>=◌
abbrev pub ◌>>=◌ : {A B : Type 0} → Option A → (A → Option B) → Option B
o >>= f = option_and_then f o

abbrev pub Reads : Type 0 → Type 0
Reads A = List Sign → Option (A × List Sign)

abbrev pub first_at : Reads Sign
first_at [] = None
first_at (s ∷ ts) = Some (s, ts)

abbrev pub is_word : Word → Sign → Bool
is_word k (word j) = nat_eq (tag_of words j) (tag_of words k)
is_word k _ = false

abbrev pub is_symbol : Symbol → Sign → Bool
is_symbol k (symbol j) = nat_eq (tag_of symbols j) (tag_of symbols k)
is_symbol k _ = false

unfoldable pub word_at : Word → List Sign → Option (List Sign)
word_at k ts = do
  s ← first_at ts
  if is_word k s.0 then Some s.1 else None

unfoldable pub symbol_at : Symbol → List Sign → Option (List Sign)
symbol_at k ts = do
  s ← first_at ts
  if is_symbol k s.0 then Some s.1 else None

abbrev pub number_of : Sign → Option ℕ
number_of (number n) = Some n
number_of _ = None

abbrev pub identifier_of : Sign → Option (List ℕ)
identifier_of (identifier n) = Some n
identifier_of _ = None

abbrev pub type_name_of : Sign → Option (List ℕ)
type_name_of (type_name n) = Some n
type_name_of _ = None

unfoldable pub number_at : Reads ℕ
number_at ts = do
  s ← first_at ts
  n ← number_of s.0
  Some (n, s.1)

-- a number that is at most this
unfoldable pub limited_number_at : ℕ → Reads ℕ
limited_number_at most ts = do
  n ← number_at ts
  if nat_le n.0 most then Some n else None

unfoldable pub identifier_at : Reads (List ℕ)
identifier_at ts = do
  s ← first_at ts
  n ← identifier_of s.0
  Some (n, s.1)

unfoldable pub type_name_at : Reads (List ℕ)
type_name_at ts = do
  s ← first_at ts
  n ← type_name_of s.0
  Some (n, s.1)

-- what is read, with this in front
abbrev pub in_front : {A B : Type 0} → List A → Option (List A × B) → Option (List A × B)
in_front front o = o >>= (λ r. Some (front ++ r.0, r.1))

-- n parts of a list or fewer, each read by p, which tells whether it is the last
unfoldable pub more_at : {A : Type 0} → Reads (A × Bool) → ℕ → Reads (List A)
more_at p zero ts = None
more_at p (suc n) ts = do
  part ← p ts
  if part.0.1 then Some (part.0.0 ∷ [], part.1) else in_front (part.0.0 ∷ []) (more_at p n part.1)

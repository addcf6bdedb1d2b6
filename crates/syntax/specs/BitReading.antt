-- What the parser reads behind `BIT`.
use Rattle.std.specs.Prelude.{Bool, ℕ, List, Some, if◌then◌else◌}
use Rattle.lexis.specs.declared.word.Word.TheVariants.{String}
use Rattle.lexis.specs.declared.symbol.Symbol.TheVariants.{OpenBrace, OpenParenthesis, CloseParenthesis}
use Rattle.syntax.specs.declared.tree.Simple.TheVariants.{BitString}
use Rattle.syntax.specs.Tree.{Form, named_bits, simple}
use Rattle.syntax.specs.Reading.{◌>>=◌, Reads, first_at, is_symbol, word_at, symbol_at, limited_number_at, identifier_at, more_at}
use Rattle.syntax.specs.ValueReading.{end_at}

-- the number of a bit, in parentheses
unfoldable pub bit_number_at : Reads ℕ
bit_number_at ts = do
  r ← symbol_at OpenParenthesis ts
  n ← limited_number_at 65535 r
  behind ← symbol_at CloseParenthesis n.1
  Some (n.0, behind)

-- a named bit, and whether it is the last
unfoldable pub named_bit_at : Reads ((List ℕ × ℕ) × Bool)
named_bit_at ts = do
  n ← identifier_at ts
  v ← bit_number_at n.1
  e ← end_at v.1
  Some (((n.0, v.0), e.0), e.1)

-- what stands behind the opening brace
unfoldable pub named_bits_at : Reads Form
named_bits_at ts = do
  bits ← more_at named_bit_at 256 ts
  Some (named_bits bits.0, bits.1)

-- named bits in braces, or nothing
unfoldable pub behind_string_at : Reads Form
behind_string_at ts = do
  s ← first_at ts
  if is_symbol OpenBrace s.0 then named_bits_at s.1 else Some (simple BitString, ts)

unfoldable pub bit_string_at : Reads Form
bit_string_at ts = do
  r ← word_at String ts
  behind_string_at r

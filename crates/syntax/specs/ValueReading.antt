-- What the parser reads of numbers, defaults and items.
use Rattle.std.specs.Prelude.{Bool, true, false, ℕ, ◌^◌, Option, Some, None, nat_le, nat_lt, if◌then◌else◌}
use Rattle.lexis.specs.declared.word.Word.TheVariants.{Default, False, Optional, True}
use Rattle.lexis.specs.declared.symbol.Symbol.TheVariants.{CloseBrace, OpenParenthesis, CloseParenthesis, Comma, Hyphen}
use Rattle.syntax.specs.declared.tree.SignedNumber.{SignedNumber}
use Rattle.syntax.specs.Tree.{Value, truth, falsity, integer, item_name, binary_value, hex_value, chars_value, Ending, required, optional, default, Entry}
use Rattle.lexis.specs.Signs.{Sign, word, number, identifier, binary, hex, chars}
use Rattle.syntax.specs.Reading.{◌>>=◌, Reads, first_at, is_word, is_symbol, symbol_at, number_at, identifier_at}

abbrev pub with_sign : Bool → ℕ → SignedNumber
with_sign negative magnitude = record { negative = negative; magnitude = magnitude }

-- a number behind `-`
unfoldable pub negative_at : Reads SignedNumber
negative_at ts = do
  n ← number_at ts
  if nat_le 1 n.0 then Some (with_sign true n.0, n.1) else None

unfoldable pub positive_at : Reads SignedNumber
positive_at ts = do
  n ← number_at ts
  Some (with_sign false n.0, n.1)

unfoldable pub signed_at : Reads SignedNumber
signed_at ts = do
  s ← first_at ts
  if is_symbol Hyphen s.0 then negative_at s.1 else positive_at ts

-- the closing brace (true) or `,` (false) of a list
unfoldable pub end_at : Reads Bool
end_at ts = do
  s ← first_at ts
  if is_symbol CloseBrace s.0 then Some (true, s.1) else (if is_symbol Comma s.0 then Some (false, s.1) else None)

-- a value of one terminal that is no number
abbrev pub plain_value : Sign → Option Value
plain_value (word True) = Some truth
plain_value (word False) = Some falsity
plain_value (identifier n) = Some (item_name n)
plain_value (binary n) = Some (binary_value n)
plain_value (hex n) = Some (hex_value n)
plain_value (chars n) = Some (chars_value n)
plain_value _ = None

unfoldable pub number_value_at : Reads Value
number_value_at ts = do
  n ← signed_at ts
  Some (integer n.0, n.1)

abbrev pub begins_number : Sign → Bool
begins_number (number n) = true
begins_number s = is_symbol Hyphen s

unfoldable pub value_at : Reads Value
value_at ts = do
  s ← first_at ts
  if begins_number s.0 then number_value_at ts else (do v ← plain_value s.0; Some (v, s.1))

unfoldable pub default_at : Reads Ending
default_at ts = do
  v ← value_at ts
  Some (default v.0, v.1)

unfoldable pub ending_at : Reads Ending
ending_at ts = do
  s ← first_at ts
  if is_word Optional s.0 then Some (optional, s.1) else (if is_word Default s.0 then default_at s.1 else Some (required, ts))

abbrev pub is_item_number : Bool → ℕ → Bool
is_item_number true n = nat_le n (2 ^ 127)
is_item_number false n = nat_lt n (2 ^ 127)

-- what stands behind the parenthesis of an item
unfoldable pub numbered_at : Reads (Option SignedNumber)
numbered_at ts = do
  n ← signed_at ts
  r ← symbol_at CloseParenthesis n.1
  if is_item_number n.0.negative n.0.magnitude then Some (Some n.0, r) else None

unfoldable pub item_number_at : Reads (Option SignedNumber)
item_number_at ts = do
  s ← first_at ts
  if is_symbol OpenParenthesis s.0 then numbered_at s.1 else Some (None, ts)

-- an item, and whether it is the last
unfoldable pub item_at : Reads (Entry × Bool)
item_at ts = do
  n ← identifier_at ts
  v ← item_number_at n.1
  e ← end_at v.1
  Some (((n.0, v.0), e.0), e.1)

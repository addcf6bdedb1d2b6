-- The symbols (X.680, clause 12): those that stand in the grammar of the profile, and then those that
-- stand in no module of it.
use Rattle.std.specs.Prelude.{ℕ, List, [], ◌∷◌, codes, Bool, true, false, ◌==◌}
use Rattle.std.specs.List.{list_any}
use Rattle.lexis.specs.declared.symbol.Symbol.{Symbol}
use Rattle.lexis.specs.declared.symbol.Symbol.TheVariants.{Assignment, OpenBrace, CloseBrace, OpenBracket, CloseBracket, OpenParenthesis, CloseParenthesis, Comma, Hyphen, Ellipsis, Range, FullStop, Colon, Semicolon, VerticalBar}

-- how the symbol is spelled
abbrev pub symbol_text : Symbol → List ℕ
symbol_text Assignment = codes "::="
symbol_text OpenBrace = codes "{"
symbol_text CloseBrace = codes "}"
symbol_text OpenBracket = codes "["
symbol_text CloseBracket = codes "]"
symbol_text OpenParenthesis = codes "("
symbol_text CloseParenthesis = codes ")"
symbol_text Comma = codes ","
symbol_text Hyphen = codes "-"
symbol_text Ellipsis = codes "..."
symbol_text Range = codes ".."
symbol_text FullStop = codes "."
symbol_text Colon = codes ":"
symbol_text Semicolon = codes ";"
symbol_text VerticalBar = codes "|"

-- all symbols
abbrev pub all_symbols : List Symbol
all_symbols =
    Assignment ∷ OpenBrace ∷ CloseBrace ∷ OpenBracket ∷ CloseBracket ∷ OpenParenthesis ∷ CloseParenthesis ∷
    Comma ∷ Hyphen ∷ Ellipsis ∷ Range ∷ FullStop ∷ Colon ∷ Semicolon ∷ VerticalBar ∷ []

-- the octet is a symbol by itself
abbrev pub is_mark : ℕ → Bool
is_mark octet = list_any (λ mark. mark == octet) (codes "{}[](),-.:;|")

-- the symbol stands in the grammar of the profile
abbrev pub is_symbol_of_profile : Symbol → Bool
is_symbol_of_profile Assignment = true
is_symbol_of_profile OpenBrace = true
is_symbol_of_profile CloseBrace = true
is_symbol_of_profile OpenBracket = true
is_symbol_of_profile CloseBracket = true
is_symbol_of_profile OpenParenthesis = true
is_symbol_of_profile CloseParenthesis = true
is_symbol_of_profile Comma = true
is_symbol_of_profile Hyphen = true
is_symbol_of_profile _ = false

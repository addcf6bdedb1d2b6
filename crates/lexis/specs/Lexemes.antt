-- Which sign of a grammar a lexeme is.
use Rattle.lexis.specs.declared.lexeme.Lexeme.{Lexeme}
use Rattle.lexis.specs.declared.lexeme.Lexeme.TheVariants.{Word, Symbol, TypeName, Identifier, Number, Binary, Hex, Chars}
use Rattle.lexis.specs.Signs.{Sign, word, symbol, type_name, identifier, number, binary, hex, chars}

abbrev pub sign : Lexeme → Sign
sign (Word w) = word w
sign (Symbol s) = symbol s
sign (TypeName spelling) = type_name spelling.now
sign (Identifier spelling) = identifier spelling.now
sign (Number value) = number value
sign (Binary spelling) = binary spelling.now
sign (Hex spelling) = hex spelling.now
sign (Chars spelling) = chars spelling.now

use Rattle.std.specs.Prelude.{Bool, true, false}
use Rattle.lexis.specs.declared.word.Word.TheVariants as word
use Rattle.published_tokens.specs.declared.token.Kind.{Kind}
use Rattle.published_tokens.specs.declared.token.Kind.TheVariants.{Field, Reserved, Symbol}
use Rattle.published_tokens.specs.declared.symbol.Symbol.TheVariants as symbol

-- whether the name of a field stands for an open type where this token is behind it in its class (X.681 clause 9)
abbrev pub is_open_before : Kind → Bool
is_open_before Field = true
is_open_before (Reserved word.Optional) = true
is_open_before (Reserved word.Default) = true
is_open_before (Symbol symbol.Comma) = true
is_open_before (Symbol symbol.CloseBrace) = true
is_open_before _ = false

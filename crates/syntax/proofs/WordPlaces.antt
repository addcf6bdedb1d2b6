-- Two reserved words, or two symbols, are equal where their places are.
use Rattle.std.proofs.Common.{◌≡◌, List, [], ◌∷◌, get_or, refl, sym, ◌∙◌, ap, true}
use Rattle.std.proofs.lemmas.Bool.{eqb-true, false≢true}
use denote.Enum.Declared.{tag_of}
use Rattle.lexis.specs.contracts.word.Word.{the_type as the_words}
use Rattle.lexis.specs.declared.word.Word.{Word}
use Rattle.lexis.specs.declared.word.Word.TheVariants.{Application, Automatic, Begin, Bit, BmpString, Boolean, Choice, Default, Definitions, End, Enumerated, Explicit, False, GeneralizedTime, Ia5String, Identifier, Implicit, Integer, Null, NumericString, Object, Octet, Of, Optional, Private, PrintableString, RelativeOid, Sequence, Set, String, Tags, True, UtcTime, Utf8String, VisibleString, Absent, All, Any, Character, Class, Component, Components, Constrained, Containing, Date, DateTime, Duration, Embedded, Encoded, Except, Exports, Extensibility, External, From, GeneralString, GraphicString, Implied, Imports, Includes, Instance, Intersection, Iso646String, Max, Min, MinusInfinity, OidIri, ObjectDescriptor, Pattern, Pdv, PlusInfinity, Present, Real, RelativeOidIri, Size, Syntax, T61String, Time, TimeOfDay, TeletexString, Union, Unique, Universal, UniversalString, VideotexString, With}
use Rattle.lexis.specs.declared.symbol.Symbol.{Symbol}
use Rattle.lexis.specs.declared.symbol.Symbol.TheVariants.{Assignment, OpenBrace, CloseBrace, OpenBracket, CloseBracket, OpenParenthesis, CloseParenthesis, Comma, Hyphen, Ellipsis, Range, FullStop, Colon, Semicolon, VerticalBar}
use Rattle.lexis.specs.contracts.symbol.Symbol.{the_type as the_symbols}
use Rattle.lexis.specs.Signs.{Sign, word, symbol}
use Rattle.syntax.specs.Reading.{is_word, is_symbol}

words : List Word
words = Application ∷ Automatic ∷ Begin ∷ Bit ∷ BmpString ∷ Boolean ∷ Choice ∷ Default ∷ Definitions ∷ End ∷ Enumerated ∷ Explicit ∷ False ∷ GeneralizedTime ∷ Ia5String ∷ Identifier ∷ Implicit ∷ Integer ∷ Null ∷ NumericString ∷ Object ∷ Octet ∷ Of ∷ Optional ∷ Private ∷ PrintableString ∷ RelativeOid ∷ Sequence ∷ Set ∷ String ∷ Tags ∷ True ∷ UtcTime ∷ Utf8String ∷ VisibleString ∷ Absent ∷ All ∷ Any ∷ Character ∷ Class ∷ Component ∷ Components ∷ Constrained ∷ Containing ∷ Date ∷ DateTime ∷ Duration ∷ Embedded ∷ Encoded ∷ Except ∷ Exports ∷ Extensibility ∷ External ∷ From ∷ GeneralString ∷ GraphicString ∷ Implied ∷ Imports ∷ Includes ∷ Instance ∷ Intersection ∷ Iso646String ∷ Max ∷ Min ∷ MinusInfinity ∷ OidIri ∷ ObjectDescriptor ∷ Pattern ∷ Pdv ∷ PlusInfinity ∷ Present ∷ Real ∷ RelativeOidIri ∷ Size ∷ Syntax ∷ T61String ∷ Time ∷ TimeOfDay ∷ TeletexString ∷ Union ∷ Unique ∷ Universal ∷ UniversalString ∷ VideotexString ∷ With ∷ []

symbols : List Symbol
symbols = Assignment ∷ OpenBrace ∷ CloseBrace ∷ OpenBracket ∷ CloseBracket ∷ OpenParenthesis ∷ CloseParenthesis ∷ Comma ∷ Hyphen ∷ Ellipsis ∷ Range ∷ FullStop ∷ Colon ∷ Semicolon ∷ VerticalBar ∷ []

word-stands : (w : Word) → get_or words (tag_of the_words w) Application ≡ w
unfolding words
word-stands Application = refl
word-stands w = refl

symbol-stands : (s : Symbol) → get_or symbols (tag_of the_symbols s) Assignment ≡ s
unfolding symbols
symbol-stands Assignment = refl
symbol-stands s = refl

pub word-found : (k : Word) (s : Sign) → is_word k s ≡ true → s ≡ word k
word-found k (word j) e = ap word (sym (word-stands j) ∙ ap (λ i. get_or words i Application) (eqb-true (tag_of the_words j) (tag_of the_words k) e) ∙ word-stands k)
word-found k s e = absurd (false≢true e)

pub symbol-found : (k : Symbol) (s : Sign) → is_symbol k s ≡ true → s ≡ symbol k
symbol-found k (symbol j) e = ap symbol (sym (symbol-stands j) ∙ ap (λ i. get_or symbols i Assignment) (eqb-true (tag_of the_symbols j) (tag_of the_symbols k) e) ∙ symbol-stands k)
symbol-found k s e = absurd (false≢true e)

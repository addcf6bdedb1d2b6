-- How a module is spelled in terminals (X.680 clauses 13, 17 to 31, in this project's profile).
use Rattle.std.specs.Prelude.{◌≡◌, ℕ, List, [], ◌∷◌, ◌++◌, Option, Some, None, Bool, true, false, ◌⊎◌}
use Rattle.lexis.specs.declared.word.Word.TheVariants.{Automatic, Begin, Bit, Choice, Default, Definitions, End, Enumerated, Explicit, False, Implicit, Of, Optional, String, Tags, True}
use Rattle.lexis.specs.declared.symbol.Symbol.TheVariants.{Assignment, OpenBrace, CloseBrace, OpenBracket, CloseBracket, OpenParenthesis, CloseParenthesis, Comma, Hyphen}
use Rattle.lexis.specs.Signs.{Sign, word, symbol, number, type_name, identifier, binary, hex, chars}
use Rattle.syntax.specs.declared.tree.Tagging.{Tagging}
use Rattle.syntax.specs.declared.tree.Tagging.TheVariants.{Explicit as ExplicitTags, Implicit as ImplicitTags, Automatic as AutomaticTags}
use Rattle.syntax.specs.declared.tree.SignedNumber.{SignedNumber}
use Rattle.syntax.specs.Tree.{Value, truth, falsity, integer, item_name, binary_value, hex_value, chars_value, Ending, required, optional, default, Entry, Form, tagged, list, of, choice, enumerated, named_bits, simple, reference, Components, no_component, next_component, Alternatives, no_alternative, next_alternative, Tree}
use Rattle.syntax.specs.Words.{simple_type, group_word, class_word, mode_word}

-- [ `-` ] number
abbrev pub signed : Bool → ℕ → List Sign
signed false n = number n ∷ []
signed true n = symbol Hyphen ∷ number n ∷ []

-- a value behind DEFAULT
abbrev pub value : Value → List Sign
value truth = word True ∷ []
value falsity = word False ∷ []
value (integer n) = signed n.negative n.magnitude
value (item_name n) = identifier n ∷ []
value (binary_value s) = binary s ∷ []
value (hex_value s) = hex s ∷ []
value (chars_value s) = chars s ∷ []

-- [ `OPTIONAL` | `DEFAULT` value ]
abbrev pub ending : Ending → List Sign
ending required = []
ending optional = word Optional ∷ []
ending (default v) = word Default ∷ value v

-- [ `(` [ `-` ] number `)` ]
abbrev pub item_number : Option SignedNumber → List Sign
item_number None = []
item_number (Some n) = symbol OpenParenthesis ∷ (signed n.negative n.magnitude ++ (symbol CloseParenthesis ∷ []))

-- an item: identifier [ `(` [ `-` ] number `)` ]
abbrev pub item : Entry → List Sign
item e = identifier e.0 ∷ item_number e.1

-- a named bit: identifier `(` number `)` (X.680 clause 22)
abbrev pub named_bit : List ℕ × ℕ → List Sign
named_bit b = identifier b.0 ∷ symbol OpenParenthesis ∷ number b.1 ∷ symbol CloseParenthesis ∷ []

-- what follows one of a list: the rest of it, each behind `between`, and then `last`
abbrev pub behind : {A : Type 0} → (A → List Sign) → List Sign → List Sign → List A → List Sign
behind one between last [] = last
behind one between last (a ∷ others) = between ++ (one a ++ behind one between last others)

-- a list, `between` between its parts and `last` behind it
abbrev pub joined : {A : Type 0} → (A → List Sign) → List Sign → List Sign → List A → List Sign
joined one between last [] = last
joined one between last (a ∷ others) = one a ++ behind one between last others

abbrev mutual
  -- a type
  pub spelling : Form → List Sign
  spelling (tagged p f) = symbol OpenBracket ∷ (class_word p.class ++ (number p.number ∷ symbol CloseBracket ∷ (mode_word p.mode ++ spelling f)))
  spelling (list g cs) = group_word g ∷ symbol OpenBrace ∷ components cs
  spelling (of g f) = group_word g ∷ word Of ∷ spelling f
  spelling (choice parts) = word Choice ∷ symbol OpenBrace ∷ alternatives parts
  spelling (enumerated es) = word Enumerated ∷ symbol OpenBrace ∷ joined item (symbol Comma ∷ []) (symbol CloseBrace ∷ []) es
  spelling (named_bits bits) = word Bit ∷ word String ∷ symbol OpenBrace ∷ joined named_bit (symbol Comma ∷ []) (symbol CloseBrace ∷ []) bits
  spelling (simple s) = simple_type s
  spelling (reference n) = type_name n ∷ []

  -- components, each an identifier, a type and its ending, `,` between them, and the closing brace
  pub components : Components → List Sign
  components no_component = symbol CloseBrace ∷ []
  components (next_component n f e others) = (identifier n ∷ (spelling f ++ ending e)) ++ components_behind others

  pub components_behind : Components → List Sign
  components_behind no_component = symbol CloseBrace ∷ []
  components_behind (next_component n f e others) = symbol Comma ∷ ((identifier n ∷ (spelling f ++ ending e)) ++ components_behind others)

  -- alternatives, each an identifier and a type, `,` between them, and the closing brace
  pub alternatives : Alternatives → List Sign
  alternatives no_alternative = symbol CloseBrace ∷ []
  alternatives (next_alternative n f others) = (identifier n ∷ spelling f) ++ alternatives_behind others

  pub alternatives_behind : Alternatives → List Sign
  alternatives_behind no_alternative = symbol CloseBrace ∷ []
  alternatives_behind (next_alternative n f others) = symbol Comma ∷ ((identifier n ∷ spelling f) ++ alternatives_behind others)

-- an assignment: a name, `::=`, a type
abbrev pub assignment : List ℕ × Form → List Sign
assignment a = type_name a.0 ∷ symbol Assignment ∷ spelling a.1

-- [ ( `EXPLICIT` | `IMPLICIT` | `AUTOMATIC` ) `TAGS` ]: nothing means EXPLICIT TAGS
abbrev pub IsTagDefault : Tagging → List Sign → Type 0
IsTagDefault ExplicitTags ts = (ts ≡ []) ⊎ (ts ≡ word Explicit ∷ word Tags ∷ [])
IsTagDefault ImplicitTags ts = ts ≡ word Implicit ∷ word Tags ∷ []
IsTagDefault AutomaticTags ts = ts ≡ word Automatic ∷ word Tags ∷ []

-- a module: a name, `DEFINITIONS`, a tag default, `::=`, `BEGIN`, assignments, `END`
abbrev pub IsSpelling : Tree → List Sign → Type 0
IsSpelling m ts = (d : List Sign) × IsTagDefault m.tagging d
    × (ts ≡ type_name m.name ∷ word Definitions ∷ (d ++ (symbol Assignment ∷ word Begin ∷ joined assignment [] (word End ∷ []) m.assignments)))

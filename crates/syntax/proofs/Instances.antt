-- The definitions held against texts that spell a module and texts that spell none.
use Rattle.std.proofs.Common.{◌≡◌, ℕ, zero, suc, ◌≤◌, List, [], ◌∷◌, ◌++◌, length, refl, inl, inr, arith, None}
use Rattle.std.proofs.lemmas.List.Elements.{All-nil, All-cons, All-head}
use Rattle.lexis.specs.declared.word.Word.TheVariants.{Bit, Definitions, Begin, End, Explicit, Implicit, Tags, Sequence, String, Enumerated, Of, Null, Optional, Default, True, Universal}
use Rattle.lexis.specs.declared.symbol.Symbol.TheVariants.{Assignment, OpenBrace, CloseBrace, OpenBracket, CloseBracket, OpenParenthesis, CloseParenthesis, Comma, Hyphen}
use Rattle.lexis.specs.Signs.{Sign, word, symbol, number, type_name, identifier}
use Rattle.syntax.specs.declared.tree.Simple.TheVariants.{Null as NullType}
use Rattle.syntax.specs.declared.tree.Group.TheVariants.{Sequence as InOrder}
use Rattle.syntax.specs.declared.tree.TagClass.TheVariants.{ContextSpecific}
use Rattle.syntax.specs.declared.tree.TagMode.TheVariants.{Unmarked, Implicit as ModeImplicit}
use Rattle.syntax.specs.declared.tree.Tagging.TheVariants.{Explicit as ExplicitTags, Implicit as ImplicitTags}
use Rattle.syntax.specs.Tree.{required, optional, Form, tagged, list, choice, enumerated, named_bits, simple, no_component, next_component, no_alternative, Tree}
use Rattle.syntax.specs.Grammar.{spelling, IsSpelling}
use Rattle.syntax.specs.Limits.{Fits, FitsTree}
use Rattle.syntax.specs.Reading.{word_at, symbol_at, number_at, limited_number_at, identifier_at, type_name_at, more_at}
use Rattle.syntax.specs.TagReading.{class_at, prefix_at}
use Rattle.syntax.specs.ValueReading.{negative_at, signed_at, end_at, ending_at, numbered_at, item_number_at, item_at}
use Rattle.syntax.specs.BitReading.{bit_number_at, named_bit_at, named_bits_at, behind_string_at, bit_string_at}
use Rattle.syntax.specs.SimpleReading.{behind_at, simple_at, plain_at}
use Rattle.syntax.specs.TypeReading.{enumerated_at, named_at, component_at, components_at, of_at, list_at, group_at, tagged_at, shape_at, type_at}
use Rattle.syntax.specs.ModuleReading.{following_at, assignment_at, assignments_at, tags_at, tagging_at, module_at}
use Rattle.syntax.proofs.ModuleReading.{no_module, only_module}

-- `M DEFINITIONS ::= BEGIN END`, with these terminals as its tag default and these behind END
abbrev empty : List Sign → List Sign → List Sign
empty tags rest = type_name (77 ∷ []) ∷ word Definitions ∷ (tags ++ (symbol Assignment ∷ word Begin ∷ word End ∷ rest))

abbrev explicit : Tree
explicit = record { name = 77 ∷ []; tagging = ExplicitTags; assignments = [] }

abbrev implicit : Tree
implicit = record { name = 77 ∷ []; tagging = ImplicitTags; assignments = [] }

-- no tag default and EXPLICIT TAGS spell the same module, IMPLICIT TAGS another
no_tags : IsSpelling explicit (empty [] [])
no_tags = ([], inl refl, refl)

explicit_tags : IsSpelling explicit (empty (word Explicit ∷ word Tags ∷ []) [])
explicit_tags = (word Explicit ∷ word Tags ∷ [], inr refl, refl)

implicit_tags : IsSpelling implicit (empty (word Implicit ∷ word Tags ∷ []) [])
implicit_tags = (word Implicit ∷ word Tags ∷ [], refl, refl)

not_implicit : IsSpelling implicit (empty [] []) → ⊥
not_implicit (d, e, whole) = let f = whole in let g = e in cc

-- types
abbrev null : Form
null = simple NullType

empty_list : spelling (list InOrder no_component) ≡ word Sequence ∷ symbol OpenBrace ∷ symbol CloseBrace ∷ []
empty_list = refl

one_component : spelling (list InOrder (next_component (97 ∷ []) null optional no_component))
    ≡ word Sequence ∷ symbol OpenBrace ∷ identifier (97 ∷ []) ∷ word Null ∷ word Optional ∷ symbol CloseBrace ∷ []
one_component = refl

two_components : spelling (list InOrder (next_component (97 ∷ []) null required (next_component (98 ∷ []) null required no_component)))
    ≡ word Sequence ∷ symbol OpenBrace ∷ identifier (97 ∷ []) ∷ word Null ∷ symbol Comma ∷ identifier (98 ∷ []) ∷ word Null ∷ symbol CloseBrace ∷ []
two_components = refl

implicit_tag : spelling (tagged (record { class = ContextSpecific; number = 0; mode = ModeImplicit }) null)
    ≡ symbol OpenBracket ∷ number 0 ∷ symbol CloseBracket ∷ word Implicit ∷ word Null ∷ []
implicit_tag = refl

-- a CHOICE and an ENUMERATED have one part at least
no_empty_choice : (d : ℕ) → Fits d (choice no_alternative) → ⊥
no_empty_choice d h = let low : 1 ≤ 0 = h.0 in absurd (omega arith)

no_empty_enumerated : (d : ℕ) → Fits d (enumerated []) → ⊥
no_empty_enumerated d h = let low : 1 ≤ 0 = h.0 in absurd (omega arith)

two_named_bits : spelling (named_bits ((97 ∷ [], 0) ∷ (98 ∷ [], 7) ∷ []))
    ≡ word Bit ∷ word String ∷ symbol OpenBrace ∷ identifier (97 ∷ []) ∷ symbol OpenParenthesis ∷ number 0 ∷ symbol CloseParenthesis
    ∷ symbol Comma ∷ identifier (98 ∷ []) ∷ symbol OpenParenthesis ∷ number 7 ∷ symbol CloseParenthesis ∷ symbol CloseBrace ∷ []
two_named_bits = refl

-- a list of named bits has one at least, and the greatest number is 65,535
no_empty_named_bits : (d : ℕ) → Fits d (named_bits []) → ⊥
no_empty_named_bits d h = let low : 1 ≤ 0 = h.0 in absurd (omega arith)

greatest_bit : (d : ℕ) → Fits d (named_bits ((97 ∷ [], 65535) ∷ []))
greatest_bit d = (omega arith, omega arith, All-cons (λ (b : List ℕ × ℕ). b.1 ≤ 65535) (97 ∷ [], 65535) [] (omega arith) (All-nil (λ (b : List ℕ × ℕ). b.1 ≤ 65535)))

no_bit_65536 : (d : ℕ) → Fits d (named_bits ((97 ∷ [], 65536) ∷ [])) → ⊥
no_bit_65536 d h = let most : 65536 ≤ 65535 = All-head (λ (b : List ℕ × ℕ). b.1 ≤ 65535) (97 ∷ [], 65536) [] h.2 in absurd (omega arith)

-- so many times `[0]`
abbrev nested : ℕ → Form → Form
nested zero f = f
nested (suc n) f = tagged (record { class = ContextSpecific; number = 0; mode = Unmarked }) (nested n f)

fits_nested : (n : ℕ) (f : Form) → Fits 0 f → Fits n (nested n f)
fits_nested zero f h = h
fits_nested (suc n) f h = (omega arith, fits_nested n f h)

not_nested : (n : ℕ) (f : Form) → Fits n (nested (suc n) f) → ⊥
not_nested zero f h = h
not_nested (suc n) f h = not_nested n f h.1

nested_64 : Fits 64 (nested 64 null)
nested_64 = fits_nested 64 null tt

nested_list_64 : Fits 64 (nested 64 (list InOrder no_component))
nested_list_64 = fits_nested 64 (list InOrder no_component) (omega arith, tt)

not_nested_65 : Fits 64 (nested 65 null) → ⊥
not_nested_65 h = not_nested 64 null h

-- these terminals spell no module within the limits
abbrev Nothing : List Sign → Type 0
Nothing ts = (m : Tree) → IsSpelling m ts → FitsTree m → ⊥

-- `M DEFINITIONS ::= BEGIN T ::= ` and ` END` around a type
abbrev assigned : List Sign → List Sign
assigned body = type_name (77 ∷ []) ∷ word Definitions ∷ symbol Assignment ∷ word Begin ∷ type_name (84 ∷ []) ∷ symbol Assignment ∷ (body ++ (word End ∷ []))

-- what the parser does not read, nothing spells
unread : (ts : List Sign) → length ts ≤ 100 → module_at 100 ts ≡ None → Nothing ts
unread ts h e = no_module 100 ts h e

-- `T ::= SEQUENCE { a NULL, }`
comma_behind_the_last : Nothing (assigned (word Sequence ∷ symbol OpenBrace ∷ identifier (97 ∷ []) ∷ word Null ∷ symbol Comma ∷ symbol CloseBrace ∷ []))
unfolding module_at assignments_at assignment_at following_at tagging_at tags_at word_at symbol_at type_name_at identifier_at type_at shape_at group_at list_at components_at component_at named_at ending_at end_at plain_at simple_at behind_at more_at
comma_behind_the_last = unread _ (omega arith) refl

-- `T ::= SEQUENCE { a NULL OPTIONAL DEFAULT TRUE }`
optional_and_default : Nothing (assigned (word Sequence ∷ symbol OpenBrace ∷ identifier (97 ∷ []) ∷ word Null ∷ word Optional ∷ word Default ∷ word True ∷ symbol CloseBrace ∷ []))
unfolding module_at assignments_at assignment_at following_at tagging_at tags_at word_at symbol_at type_name_at identifier_at type_at shape_at group_at list_at components_at component_at named_at ending_at end_at plain_at simple_at behind_at more_at
optional_and_default = unread _ (omega arith) refl

-- `T ::= SEQUENCE OF a NULL`
name_behind_of : Nothing (assigned (word Sequence ∷ word Of ∷ identifier (97 ∷ []) ∷ word Null ∷ []))
unfolding module_at assignments_at assignment_at following_at tagging_at tags_at word_at symbol_at type_name_at type_at shape_at group_at of_at plain_at more_at
name_behind_of = unread _ (omega arith) refl

-- `T ::= ENUMERATED { a(-0) }`
minus_zero : Nothing (assigned (word Enumerated ∷ symbol OpenBrace ∷ identifier (97 ∷ []) ∷ symbol OpenParenthesis ∷ symbol Hyphen ∷ number 0 ∷ symbol CloseParenthesis ∷ symbol CloseBrace ∷ []))
unfolding module_at assignments_at assignment_at following_at tagging_at tags_at word_at symbol_at type_name_at identifier_at type_at shape_at enumerated_at item_at item_number_at numbered_at signed_at negative_at number_at more_at
minus_zero = unread _ (omega arith) refl

-- `T ::= BIT STRING { a }`
bit_without_number : Nothing (assigned (word Bit ∷ word String ∷ symbol OpenBrace ∷ identifier (97 ∷ []) ∷ symbol CloseBrace ∷ []))
unfolding module_at assignments_at assignment_at following_at tagging_at tags_at word_at symbol_at type_name_at identifier_at type_at shape_at bit_string_at behind_string_at named_bits_at named_bit_at bit_number_at more_at
bit_without_number = unread _ (omega arith) refl

-- `T ::= BIT STRING { a(-1) }`
negative_bit : Nothing (assigned (word Bit ∷ word String ∷ symbol OpenBrace ∷ identifier (97 ∷ []) ∷ symbol OpenParenthesis ∷ symbol Hyphen ∷ number 1 ∷ symbol CloseParenthesis ∷ symbol CloseBrace ∷ []))
unfolding module_at assignments_at assignment_at following_at tagging_at tags_at word_at symbol_at type_name_at identifier_at type_at shape_at bit_string_at behind_string_at named_bits_at named_bit_at bit_number_at limited_number_at number_at more_at
negative_bit = unread _ (omega arith) refl

-- `T ::= [UNIVERSAL 1] NULL`
universal_tag : Nothing (assigned (symbol OpenBracket ∷ word Universal ∷ number 1 ∷ symbol CloseBracket ∷ word Null ∷ []))
unfolding module_at assignments_at assignment_at following_at tagging_at tags_at word_at symbol_at type_name_at type_at shape_at tagged_at prefix_at class_at limited_number_at number_at more_at
universal_tag = unread _ (omega arith) refl

-- an empty module and `x`
name_behind_end : Nothing (empty [] (identifier (120 ∷ []) ∷ []))
unfolding module_at assignments_at tagging_at tags_at word_at symbol_at type_name_at
name_behind_end m h fits =
    let over = (only_module 100 (empty [] (identifier (120 ∷ []) ∷ [])) explicit (identifier (120 ∷ []) ∷ []) (omega arith) refl m h fits).1 in
    cc

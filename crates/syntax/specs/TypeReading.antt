-- What the parser reads of types.
use Rattle.std.specs.Prelude.{Bool, ℕ, zero, suc, List, [], Some, None, if◌then◌else◌}
use Rattle.lexis.specs.declared.word.Word.TheVariants.{Bit, Choice, Enumerated, Of, Sequence, Set}
use Rattle.lexis.specs.declared.symbol.Symbol.TheVariants.{OpenBrace, CloseBrace, OpenBracket}
use Rattle.syntax.specs.declared.tree.Group.{Group}
use Rattle.syntax.specs.declared.tree.Group.TheVariants.{Sequence as InOrder, Set as InAnyOrder}
use Rattle.syntax.specs.Tree.{Ending, Form, tagged, list, of, choice, enumerated}
use Rattle.syntax.specs.View.{components_of, alternatives_of}
use Rattle.lexis.specs.Signs.{Sign}
use Rattle.syntax.specs.Reading.{◌>>=◌, Reads, first_at, is_word, is_symbol, symbol_at, identifier_at, more_at}
use Rattle.syntax.specs.TagReading.{prefix_at}
use Rattle.syntax.specs.ValueReading.{end_at, ending_at, item_at}
use Rattle.syntax.specs.BitReading.{bit_string_at}
use Rattle.syntax.specs.SimpleReading.{plain_at}

unfoldable pub enumerated_at : Reads Form
enumerated_at ts = do
  r ← symbol_at OpenBrace ts
  items ← more_at item_at 256 r
  Some (enumerated items.0, items.1)

-- an identifier and a type, which p reads
unfoldable pub named_at : Reads Form → Reads (List ℕ × Form)
named_at p ts = do
  n ← identifier_at ts
  f ← p n.1
  Some ((n.0, f.0), f.1)

-- a component, and whether it is the last
unfoldable pub component_at : Reads Form → Reads ((List ℕ × Form × Ending) × Bool)
component_at p ts = do
  n ← named_at p ts
  v ← ending_at n.1
  e ← end_at v.1
  Some (((n.0.0, n.0.1, v.0), e.0), e.1)

-- an alternative, and whether it is the last
unfoldable pub alternative_at : Reads Form → Reads ((List ℕ × Form) × Bool)
alternative_at p ts = do
  n ← named_at p ts
  e ← end_at n.1
  Some ((n.0, e.0), e.1)

-- what stands behind the opening brace of components
unfoldable pub components_at : Reads Form → Reads (List (List ℕ × Form × Ending))
components_at p ts = do
  s ← first_at ts
  if is_symbol CloseBrace s.0 then Some ([], s.1) else more_at (component_at p) 256 ts

-- what stands behind `OF`
unfoldable pub of_at : Reads Form → Group → Reads Form
of_at p g ts = do
  f ← p ts
  Some (of g f.0, f.1)

-- what stands behind the opening brace
unfoldable pub list_at : Reads Form → Group → Reads Form
list_at p g ts = do
  parts ← components_at p ts
  Some (list g (components_of parts.0), parts.1)

-- what stands behind `SEQUENCE` or `SET`
unfoldable pub group_at : Reads Form → Group → Reads Form
group_at p g ts = do
  s ← first_at ts
  if is_word Of s.0 then of_at p g s.1 else (if is_symbol OpenBrace s.0 then list_at p g s.1 else None)

unfoldable pub choice_at : Reads Form → Reads Form
choice_at p ts = do
  r ← symbol_at OpenBrace ts
  parts ← more_at (alternative_at p) 256 r
  Some (choice (alternatives_of parts.0), parts.1)

-- what stands behind `[`
unfoldable pub tagged_at : Reads Form → Reads Form
tagged_at p ts = do
  prefix ← prefix_at ts
  f ← p prefix.1
  Some (tagged prefix.0 f.0, f.1)

-- a type whose first terminal is s
unfoldable pub shape_at : Reads Form → Sign → Reads Form
shape_at p s ts =
    if is_symbol OpenBracket s then tagged_at p ts
    else (if is_word Sequence s then group_at p InOrder ts
    else (if is_word Set s then group_at p InAnyOrder ts
    else (if is_word Choice s then choice_at p ts
    else (if is_word Enumerated s then enumerated_at ts
    else (if is_word Bit s then bit_string_at ts
    else plain_at s ts)))))

-- a type of at most n levels, its own included
unfoldable pub type_at : ℕ → Reads Form
type_at zero ts = None
type_at (suc n) ts = do
  s ← first_at ts
  shape_at (type_at n) s.0 s.1

-- What the parser reads of modules.
use Rattle.std.specs.Prelude.{Bool, true, false, ℕ, List, [], Option, Some, None, if◌then◌else◌}
use Rattle.lexis.specs.declared.word.Word.TheVariants.{Automatic, Begin, Definitions, End, Explicit, Implicit, Tags}
use Rattle.lexis.specs.declared.symbol.Symbol.TheVariants.{Assignment}
use Rattle.syntax.specs.declared.tree.Tagging.{Tagging}
use Rattle.syntax.specs.declared.tree.Tagging.TheVariants.{Explicit as ExplicitTags, Implicit as ImplicitTags, Automatic as AutomaticTags}
use Rattle.syntax.specs.Tree.{Form, Tree}
use Rattle.lexis.specs.Signs.{Sign, word, type_name}
use Rattle.syntax.specs.Reading.{◌>>=◌, Reads, first_at, is_word, word_at, symbol_at, type_name_at, more_at}
use Rattle.syntax.specs.TypeReading.{type_at}

-- what follows an assignment: `END` (true), or the name of another, which stays (false)
abbrev pub goes_on : Sign → List Sign → List Sign → Option (Bool × List Sign)
goes_on (type_name n) ts rest = Some (false, ts)
goes_on s ts rest = if is_word End s then Some (true, rest) else None

unfoldable pub following_at : Reads Bool
following_at ts = do
  s ← first_at ts
  goes_on s.0 ts s.1

-- an assignment, and whether it is the last
unfoldable pub assignment_at : Reads ((List ℕ × Form) × Bool)
assignment_at ts = do
  n ← type_name_at ts
  r ← symbol_at Assignment n.1
  f ← type_at 65 r
  e ← following_at f.1
  Some (((n.0, f.0), e.0), e.1)

-- at most limit assignments and `END`
unfoldable pub assignments_at : ℕ → Reads (List (List ℕ × Form))
assignments_at limit ts = do
  s ← first_at ts
  if is_word End s.0 then Some ([], s.1) else more_at assignment_at limit ts

abbrev pub tagging_of : Sign → Option Tagging
tagging_of (word Explicit) = Some ExplicitTags
tagging_of (word Implicit) = Some ImplicitTags
tagging_of (word Automatic) = Some AutomaticTags
tagging_of _ = None

-- the tag default that the first terminal begins, if it begins one
unfoldable pub tags_at : Option Tagging → List Sign → Reads Tagging
tags_at None rest ts = Some (ExplicitTags, ts)
tags_at (Some g) rest ts = do
  r ← word_at Tags rest
  Some (g, r)

unfoldable pub tagging_at : Reads Tagging
tagging_at ts = do
  s ← first_at ts
  tags_at (tagging_of s.0) s.1 ts

unfoldable pub module_at : ℕ → Reads Tree
module_at limit ts = do
  n ← type_name_at ts
  d ← word_at Definitions n.1
  g ← tagging_at d
  a ← symbol_at Assignment g.1
  b ← word_at Begin a
  parts ← assignments_at limit b
  Some (record { name = n.0; tagging = g.0; assignments = parts.0 }, parts.1)

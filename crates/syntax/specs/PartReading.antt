-- What the parser reads of the parts of a list of types.
use Rattle.std.specs.Prelude.{Bool, ℕ, List, [], ◌∷◌, ◌++◌, Some, map}
use Rattle.syntax.specs.declared.tree.Group.{Group}
use Rattle.syntax.specs.declared.parts.Parts.{Parts}
use Rattle.syntax.specs.declared.parts.Parts.TheVariants.{Components, Alternatives}
use Rattle.syntax.specs.Tree.{Ending, Form, list, choice}
use Rattle.syntax.specs.View.{component, alternative, components_of, alternatives_of}
use Rattle.syntax.specs.Reading.{◌>>=◌, Reads, more_at, in_front}
use Rattle.syntax.specs.TypeReading.{component_at, alternative_at}
use Rattle.syntax.specs.ValueReading.{end_at, ending_at}

-- the parts of a list of types
pub data Listed : Type 0 where
  in_group : Group → List (List ℕ × Form × Ending) → Listed
  in_choice : List (List ℕ × Form) → Listed

abbrev pub listed : Parts → Listed
listed (Components group v) = in_group group (map component v.items)
listed (Alternatives v) = in_choice (map alternative v.items)

-- the type that has these parts alone
abbrev pub whole : Listed → Form
whole (in_group group cs) = list group (components_of cs)
whole (in_choice cs) = choice (alternatives_of cs)

-- the parts with one more, of this identifier and type, and whether it is the last
unfoldable pub part_behind : Listed → List ℕ × Form → Reads (Listed × Bool)
part_behind (in_group group cs) named ts = do
  v ← ending_at ts
  e ← end_at v.1
  Some ((in_group group (cs ++ ((named.0, named.1, v.0) ∷ [])), e.0), e.1)
part_behind (in_choice cs) named ts = do
  e ← end_at ts
  Some ((in_choice (cs ++ (named ∷ [])), e.0), e.1)

-- the type that has these parts and behind them n or fewer, whose types p reads
unfoldable pub parts_at : Reads Form → ℕ → Listed → Reads Form
parts_at p n (in_group group cs) ts = do
  parts ← in_front cs (more_at (component_at p) n ts)
  Some (list group (components_of parts.0), parts.1)
parts_at p n (in_choice cs) ts = do
  parts ← in_front cs (more_at (alternative_at p) n ts)
  Some (choice (alternatives_of parts.0), parts.1)

-- What is known of the names of a module once all that can be known is.
use Rattle.std.specs.Prelude.{◌≡◌, ℕ, List, [], Option, None, position, slice_get, unwrap_or, option_and_then, Contains}
use Rattle.std.specs.List.{filter_map}
use Rattle.std.specs.Option.{option_map_or}
use Rattle.std.specs.Str.{bytes_eq}
use Rattle.types.specs.Shape.{Shape}
use Rattle.syntax.specs.Tree.{Form, reference, Tree}
use Rattle.syntax.specs.View.{tree}
use Rattle.syntax.specs.declared.tree.Module.{Module}
use Rattle.notation.specs.Meaning.{IsMeaning}
use Rattle.notation.specs.References.{names_in}
use Rattle.notation.specs.Known.{IsScope}
use Rattle.notation.specs.declared.scope.Seen.{Seen}
use Rattle.notation.specs.declared.scope.Scope.{Scope}

-- the place of the assignment of the name
abbrev pub place_in : Tree → List ℕ → Option ℕ
place_in m name = position (λ a. bytes_eq name a.0) m.assignments

-- the places of the assignments that the expression refers to, in order of text, one that stands twice taken twice
abbrev pub places_in : Tree → Form → List ℕ
places_in m form = filter_map (place_in m) (names_in form)

-- those that the assignment at the place refers to
abbrev pub places_at : Tree → ℕ → List ℕ
places_at m place = option_map_or (λ a. places_in m a.1) (slice_get m.assignments place) []

-- what is known of the assignment at the place
abbrev pub known_at : List (Option Seen) → ℕ → Option Seen
known_at seen place = unwrap_or (slice_get seen place) None

-- and what of the name
abbrev pub known_of : Tree → List (Option Seen) → List ℕ → Option Seen
known_of m seen name = option_and_then (known_at seen) (place_in m name)

-- the expression means no type
abbrev pub MeansNothing : Tree → Form → Type 0
MeansNothing m form = (type : Shape) → IsMeaning m form type → ⊥

-- each name in the expression of which nothing is known means no type
abbrev pub NamesTold : Tree → List (Option Seen) → Form → Type 0
NamesTold m seen form = (name : List ℕ) → Contains (names_in form) name → known_of m seen name ≡ None → MeansNothing m (reference name)

-- each name of which nothing is known means no type
pub record IsSettled (m : Module) (scope : Scope) : Type 0 where
  pub known : IsScope m scope
  pub others : (name : List ℕ) → known_of (tree m) scope.seen.items name ≡ None → MeansNothing (tree m) (reference name)

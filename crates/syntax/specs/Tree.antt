-- Module trees without where they lie in memory.
use Rattle.std.specs.Prelude.{ℕ, List, Option}
use Rattle.syntax.specs.declared.tree.Group.{Group}
use Rattle.syntax.specs.declared.tree.Simple.{Simple}
use Rattle.syntax.specs.declared.tree.Tagging.{Tagging}
use Rattle.syntax.specs.declared.tree.TagPrefix.{TagPrefix}
use Rattle.syntax.specs.declared.tree.SignedNumber.{SignedNumber}

-- a value behind DEFAULT
pub data Value : Type 0 where
  truth : Value
  falsity : Value
  integer : SignedNumber → Value
  item_name : List ℕ → Value
  binary_value : List ℕ → Value
  hex_value : List ℕ → Value
  chars_value : List ℕ → Value

-- what stands behind a component's type
pub data Ending : Type 0 where
  required : Ending
  optional : Ending
  default : Value → Ending

-- an item's name, and the number behind it
abbrev pub Entry : Type 0
Entry = List ℕ × Option SignedNumber

mutual
  -- a type
  pub data Form : Type 0 where
    tagged : TagPrefix → Form → Form
    list : Group → Components → Form
    of : Group → Form → Form
    choice : Alternatives → Form
    enumerated : List Entry → Form
    named_bits : List (List ℕ × ℕ) → Form
    simple : Simple → Form
    reference : List ℕ → Form

  -- components, each with its name and what stands behind it
  pub data Components : Type 0 where
    no_component : Components
    next_component : List ℕ → Form → Ending → Components → Components

  -- alternatives, each with its name
  pub data Alternatives : Type 0 where
    no_alternative : Alternatives
    next_alternative : List ℕ → Form → Alternatives → Alternatives

-- a module: its name, its tag default, and its assignments
pub record Tree : Type 0 where
  pub name : List ℕ
  pub tagging : Tagging
  pub assignments : List (List ℕ × Form)

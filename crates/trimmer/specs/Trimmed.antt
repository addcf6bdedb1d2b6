-- What a module that is written has, and where it is written.
use Rattle.std.specs.Prelude.{ℕ, List, Option}
use Rattle.std.specs.Io.KnownBytes.{Appends}
use Rattle.types.specs.Shape.{Shape}
use Rattle.types.specs.WellFormed.{IsWellFormed}
use Rattle.syntax.specs.Tree.{Tree}
use Rattle.syntax.specs.ModuleText.{IsModuleText}
use Rattle.notation.specs.Meaning.{NameMeans}

-- the text spells a module of the profile, in which the name means a well-formed type
pub record IsTrimmed (text name : List ℕ) : Type 0 where
  pub «module» : Tree
  pub type : Shape
  pub spelt : IsModuleText text «module»
  pub means : NameMeans «module» name type
  pub well_formed : IsWellFormed type

-- the text of such a module was written behind what was
abbrev pub HasWritten : Option (List ℕ) → Option (List ℕ) → Type 0
HasWritten old new = (text : List ℕ) × (name : List ℕ) × IsTrimmed text name × Appends old new text

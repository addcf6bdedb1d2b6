-- Modules' files, and the types that their names mean.
use Rattle.std.specs.Prelude.{◌≡◌, ◌⊎◌, ℕ, List}
use Rattle.std.specs.Str.{IsUtf8}
use Rattle.lexis.specs.declared.fault.Fault.{Fault}
use Rattle.types.specs.Shape.{Shape}
use Rattle.syntax.specs.Tree.{Tree}
use Rattle.syntax.specs.ModuleText.{IsModuleText, IsModuleFault}
use Rattle.notation.specs.Fault.{IsResolvingFault}
use Rattle.notation.specs.Meaning.{NameMeans}

-- the octets of a file are UTF-8, and spell the module within the limits
pub record IsModuleFile (octets : List ℕ) (m : Tree) : Type 0 where
  pub utf8 : IsUtf8 octets
  pub text : IsModuleText octets m

-- in the module that the octets spell, the name means the type
pub record FileMeans (octets name : List ℕ) (type : Shape) : Type 0 where
  pub tree : Tree
  pub file : IsModuleFile octets tree
  pub means : NameMeans tree name type

-- what a module's file is refused with: 21 to 33
abbrev pub IsFileFault : Fault → Type 0
IsFileFault fault = IsModuleFault fault ⊎ IsResolvingFault fault

-- the fault of this number, where all of a file is refused
abbrev pub IsAtFront : ℕ → Fault → Type 0
IsAtFront number fault = (fault.number ≡ number) × (fault.line ≡ 1) × (fault.column ≡ 1)

-- Command lines and exit statuses of the program.
use Rattle.std.specs.Prelude.{◌≡◌, ◌≢◌, ◌↔◌, ◌⊎◌, ℕ, IsSome, List, codes, string_bytes}
use Rattle.types.specs.Shape.{Shape}
use Rattle.types.specs.Universal.{boolean_type, integer_type, octet_string_type, null_type}
use Rattle.types.specs.WellFormed.{IsWellFormed}
use Rattle.program.specs.declared.command_line.Line.{Line}
use Rattle.program.specs.declared.command_line.Verb.TheVariants.{Convert}
use Rattle.convert.specs.ModuleFile.{FileMeans}

-- the built-in types, each with its universal tag
abbrev pub IsBuiltIn : List ℕ → Shape → Type 0
IsBuiltIn name shape =
    ((name ≡ codes "BOOLEAN") × (shape ≡ boolean_type)) ⊎ ((name ≡ codes "INTEGER") × (shape ≡ integer_type))
    ⊎ ((name ≡ codes "OCTET STRING") × (shape ≡ octet_string_type)) ⊎ ((name ≡ codes "NULL") × (shape ≡ null_type))

-- a line to convert says by which rule to write
abbrev pub IsTask : Line → Type 0
IsTask line = line.verb ≡ Convert → IsSome line.to

-- a rule to write by stands there exactly where the values are to be converted
abbrev pub IsVerbWithRule : Line → Type 0
IsVerbWithRule line = (line.verb ≡ Convert) ↔ IsSome line.to

-- the line names a module's file
abbrev pub NamesFile : Line → Type 0
NamesFile line = string_bytes line.module ≢ codes "@builtin"

-- where the line names no file, it names a built-in type
abbrev pub CanType : Line → Type 0
CanType line = string_bytes line.module ≡ codes "@builtin" → (shape : Shape) × IsBuiltIn (string_bytes line.name) shape

-- the status of a line that names no type: 64 where no built-in type has the name, 2 or 4 where a module is refused
abbrev pub IsFaultOfType : Line → ℕ → Type 0
IsFaultOfType line status = ((status ≡ 64) × ¬ CanType line) ⊎ (((status ≡ 2) ⊎ (status ≡ 4)) × NamesFile line)

-- the line's name means the type: a built-in one, or one of the module in the file
pub record LineMeans (line : Line) (file : List ℕ) (type : Shape) : Type 0 where
  pub built_in : string_bytes line.module ≡ codes "@builtin" → IsBuiltIn (string_bytes line.name) type
  pub of_file : NamesFile line → FileMeans file (string_bytes line.name) type

-- and the type is well formed
pub record IsLineType (line : Line) (file : List ℕ) (type : Shape) : Type 0 where
  pub means : LineMeans line file type
  pub well_formed : IsWellFormed type

-- the line's name means a well-formed type
abbrev pub HasLineType : Line → List ℕ → Type 0
HasLineType line file = (type : Shape) × IsLineType line file type

-- the line asks for what can be done
pub record CanRun (line : Line) : Type 0 where
  pub task : IsTask line
  pub type : CanType line

-- 0 all done, 1 octets refused, 2 a module refused, 3 a file or device, 4 memory, 64 the command line
abbrev pub IsStatus : ℕ → Type 0
IsStatus status = (status ≡ 0) ⊎ (status ≡ 1) ⊎ (status ≡ 2) ⊎ (status ≡ 3) ⊎ (status ≡ 4) ⊎ (status ≡ 64)

-- the input is looked at: all was done, or its octets or a device were refused
abbrev pub IsStatusOfInput : ℕ → Type 0
IsStatusOfInput status = (status ≡ 0) ⊎ (status ≡ 1) ⊎ (status ≡ 3)

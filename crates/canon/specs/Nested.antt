-- Encodings inside one another, opened from the outside in and closed from the inside out.
use Rattle.std.specs.Prelude.{◌≡◌, ◌+◌, ℕ, zero, suc, List, true, length, Box}
use Rattle.std.specs.Global.{Global}
use Rattle.octets.specs.declared.tag.Tag.{Tag}
use Rattle.octets.specs.Front.{Appends}
use Rattle.octets.specs.Rule.{Rule}
use Rattle.types.specs.declared.ty.Ty.{Ty}
use Rattle.types.specs.declared.ty.Ty.TheVariants.{Explicit}
use Rattle.types.specs.Encoding.{IsEncoding}
use Rattle.types.specs.Shape.{Shape, Val}
use Rattle.canon.specs.Opening.{IsOpening}

-- two octets were appended for each of so many explicit tags, by which the outer type begins with the inner one
abbrev pub IsOpened : ℕ → Shape → List ℕ → Shape → List ℕ → Type 0
IsOpened zero outer old inner new = (inner ≡ outer) × (new ≡ old)
IsOpened (suc count) outer old inner new = (tag : Tag) × (mid : List ℕ) × IsOpening tag true mid new (length mid + 1) × IsOpened count outer old (Shape.explicit tag inner) mid

-- the inner type stands behind so many explicit tags, by which the outer one begins
abbrev pub IsBehind : ℕ → Ty → Ty → Type 0
IsBehind zero outer inner = inner ≡ outer
IsBehind (suc count) outer inner = (tag : Tag) × (box : Box Ty Global) × IsBehind count outer (Explicit tag box) × (inner ≡ box.value)

-- an encoding of the inner type stands behind what was opened from the one place to the other
pub record IsInside (rule : Rule) (outer : Shape) (v : Val) (start end : ℕ) (old buffer : List ℕ) : Type 0 where
  pub count : ℕ
  pub inner : Shape
  pub opened : List ℕ
  pub are : IsOpened count outer old inner opened
  pub from : length old ≡ start
  pub at : length opened ≡ end
  pub holds : Appends (IsEncoding rule inner v) opened buffer

-- What stands next in a source, of which so many octets were read.
use Rattle.std.specs.Prelude.{◌≡◌, ◌≤◌, ◌+◌, ℕ, List, ◌++◌, length, Option, IfSome}
use Rattle.std.specs.Io.KnownBytes.{Consumes}
use Rattle.octets.specs.Front.{HasFront}
use Rattle.octets.specs.Rule.{Rule}
use Rattle.types.specs.declared.refusal.Refusal.{Refusal}
use Rattle.types.specs.Encoding.{IsAccepted, IsSomeAccepted}
use Rattle.types.specs.Shape.{Shape, Val}
use Rattle.engine.specs.Feeding.{IsUnfinished}
use Rattle.engine.specs.Stream.{Refuses}

-- an encoding of the value stood in front of what was left, and is left no more
pub record IsNext (rule : Rule) (shape : Shape) (v : Val) (read_old read_new : ℕ) (left_old left_new : Option (List ℕ)) : Type 0 where
  pub octets : List ℕ
  pub accepted : IsAccepted rule shape v octets
  pub taken : Consumes left_old left_new octets
  pub some : 1 ≤ length octets
  pub counted : read_new ≡ read_old + length octets

-- no value is next: none is complete in what was taken, and the refusal is right to stop before what was left
pub record IsStop (rule : Rule) (shape : Shape) (refusal : Refusal) (read : ℕ) (left_old left_new : Option (List ℕ)) : Type 0 where
  pub begun : List ℕ
  pub taken : Consumes left_old left_new begun
  pub none : ¬ HasFront (IsSomeAccepted rule shape) begun
  pub refused : IfSome left_old (λ rest. (front : List ℕ) → length front ≡ read → Refuses rule shape refusal (front ++ rest) rest)

-- a reader took octets from the front of what was left, and no value is complete in them
pub record HasBegun (StandsAt : List ℕ → Type 0) (rule : Rule) (shape : Shape) (read_old read_new : ℕ) (left_old left_new : Option (List ℕ)) : Type 0 where
  pub octets : List ℕ
  pub taken : Consumes left_old left_new octets
  pub unfinished : IsUnfinished StandsAt rule shape octets
  pub counted : read_new ≡ read_old + length octets

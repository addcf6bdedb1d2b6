-- What writers ask for and what they leave.
use Rattle.std.specs.Prelude.{List, ℕ, OnOk, OnErr}
use Rattle.std.specs.List.{AllByRecursion}
use Rattle.std.specs.declared.result.Result.{Result}
use Rattle.octets.specs.declared.no_memory.NoMemory.{NoMemory}
use Rattle.octets.specs.Front.{Appends}
use Rattle.types.specs.Conforms.{Conforms, SlotsConform}
use Rattle.types.specs.Shape.{Val, Slots, Shape, Components}
use Rattle.canon.specs.Node.{HasGoodNodes, HaveGoodNodes}
use Rattle.canon.specs.Part.{Keeps}

-- a value that conforms to its type, of which the nodes are good
pub record IsWritable (shape : Shape) (v : Val) : Type 0 where
  pub nodes : HasGoodNodes shape
  pub conforms : Conforms shape v

-- items of the type, each of them such a value
pub record AreWritable (shape : Shape) (values : List Val) : Type 0 where
  pub nodes : HasGoodNodes shape
  pub conform : AllByRecursion (Conforms shape) values

-- slots of such components
pub record AreWritableSlots (components : Components) (slots : Slots) : Type 0 where
  pub nodes : HaveGoodNodes components
  pub conform : SlotsConform components slots

-- after Ok octets of some kind were appended; after Err what stood there still stands at the front
pub record Writes (IsThis : List ℕ → Type 0) (result : Result (Unit {0}) NoMemory) (old new : List ℕ) : Type 0 where
  pub appended : OnOk result (Appends IsThis old new)
  pub kept : OnErr result (Keeps old new)

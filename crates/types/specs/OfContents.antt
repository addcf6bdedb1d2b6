-- The refusal of contents octets without an alphabet that gave no value.
use Rattle.primitives.specs.declared.fault.Fault.{Fault}
use Rattle.primitives.specs.declared.fault.Fault.TheVariants.{Contents as NoValue, NoMemory as NoRoom}
use Rattle.types.specs.declared.refusal.Refusal.{Refusal}
use Rattle.types.specs.declared.refusal.Refusal.TheVariants.{Contents, NoMemory}

abbrev pub refusal_of_fault : Fault → Refusal
refusal_of_fault NoValue = Contents
refusal_of_fault NoRoom = NoMemory

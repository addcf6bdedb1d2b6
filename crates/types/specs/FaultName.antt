-- What the faults of types are called.
use Rattle.std.specs.Prelude.{ℕ, List, codes}
use Rattle.types.specs.declared.refusal.TypeFault.{TypeFault}
use Rattle.types.specs.declared.refusal.TypeFault.TheVariants.{RepeatedNumber, TagsNotDistinct, BadDefault, TooLarge}

abbrev pub type_fault_name : TypeFault → List ℕ
type_fault_name RepeatedNumber = codes "RepeatedNumber"
type_fault_name TagsNotDistinct = codes "TagsNotDistinct"
type_fault_name BadDefault = codes "BadDefault"
type_fault_name TooLarge = codes "TooLarge"

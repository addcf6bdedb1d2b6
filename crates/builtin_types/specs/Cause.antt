-- The numbers of the faults of names.
use Rattle.std.specs.Prelude.{ℕ}
use Rattle.builtin_types.specs.declared.stop.Cause.{Cause}
use Rattle.builtin_types.specs.declared.stop.Cause.TheVariants.{UnknownType, RepeatedName, ImplicitChoice, TooLarge, RepeatedNumber, BadDefault, TagsNotDistinct}

abbrev pub cause_number : Cause → ℕ
cause_number UnknownType = 24
cause_number RepeatedName = 26
cause_number RepeatedNumber = 27
cause_number TagsNotDistinct = 28
cause_number ImplicitChoice = 29
cause_number BadDefault = 30
cause_number TooLarge = 31

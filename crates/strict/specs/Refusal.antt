-- What a strict reader refuses with.
use Rattle.std.specs.Prelude.{⊤}
use Rattle.types.specs.declared.refusal.Refusal.{Refusal}
use Rattle.types.specs.declared.refusal.Refusal.TheVariants.{NoMemory}
use Rattle.types.specs.Refusal.{IsOfOctets}

-- 1 to 12 and 17
abbrev pub IsOfStrictReading : Refusal → Type 0
IsOfStrictReading NoMemory = ⊤
IsOfStrictReading refusal = IsOfOctets refusal

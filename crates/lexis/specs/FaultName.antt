-- What the faults of modules' texts are called.
use Rattle.std.specs.Prelude.{◌-◌, ◌∷◌, ℕ, List, [], codes, if◌then◌else◌, nat_lt, slice_get, unwrap_or}

-- the names of the faults 21 to 32, in order
abbrev pub fault_names : List (List ℕ)
fault_names =
    codes "Token"
    ∷ codes "Syntax"
    ∷ codes "Reserved"
    ∷ codes "UnknownType"
    ∷ codes "Cycle"
    ∷ codes "RepeatedName"
    ∷ codes "RepeatedNumber"
    ∷ codes "TagsNotDistinct"
    ∷ codes "ImplicitChoice"
    ∷ codes "BadDefault"
    ∷ codes "TooLarge"
    ∷ codes "NotInProfile"
    ∷ []

-- the name of the fault of a number, and of 33, which is that memory ran out
abbrev pub name_of_fault : ℕ → List ℕ
name_of_fault number = if nat_lt number 21 then codes "NoMemory" else unwrap_or (slice_get fault_names (number - 21)) (codes "NoMemory")

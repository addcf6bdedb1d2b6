-- The faults of the names of a module.
use Rattle.std.specs.Prelude.{◌≡◌, ◌≤◌, ◌⊎◌}
use Rattle.lexis.specs.declared.fault.Fault.{Fault}

-- 24 to 31, or 33 where a growth was refused
abbrev pub IsResolvingFault : Fault → Type 0
IsResolvingFault fault = ((24 ≤ fault.number) × (fault.number ≤ 31)) ⊎ (fault.number ≡ 33)

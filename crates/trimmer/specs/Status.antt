-- Exit statuses of the program.
use Rattle.std.specs.Prelude.{◌≡◌, ◌⊎◌, ℕ}
use Rattle.trimmer.specs.declared.running.End.{End}
use Rattle.trimmer.specs.declared.running.End.TheVariants.{Written, Refused, Failed}

-- 0 written, 1 refused, 3 a file or device, 4 memory
abbrev pub IsStatus : ℕ → Type 0
IsStatus status = (status ≡ 0) ⊎ (status ≡ 1) ⊎ (status ≡ 3) ⊎ (status ≡ 4)

-- that of a run for which memory sufficed
abbrev pub status_of : End → ℕ
status_of Written = 0
status_of Refused = 1
status_of Failed = 3

-- What a call of a device does to its count of failures, which is 0 or 1.
use Rattle.std.specs.Prelude.{◌≡◌, ◌<◌, ℕ, Bool, true, false, List, length, Result, Ok, Err, IfOk}

-- 1 for a device that failed
abbrev pub count_of : Bool → ℕ
count_of true = 1
count_of false = 0

-- behind a call of a device that had not failed, the count is 1 exactly where the call failed
abbrev pub CountsFailure : {T E : Type 0} → Result T E → ℕ → Type 0
CountsFailure (Ok _) failures = failures ≡ 0
CountsFailure (Err _) failures = failures ≡ 1

-- a call that takes some of no octets takes at least one where there is one
abbrev pub TakesSome : {E : Type 0} → Result ℕ E → List ℕ → Type 0
TakesSome result octets = IfOk result (λ n. 0 < length octets → 0 < n)

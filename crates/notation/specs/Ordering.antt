-- Which assignments of a module wait for which.
use Rattle.std.specs.Prelude.{◌≡◌, ◌<◌, ◌≤◌, ℕ, List, [], length, slice_get, slice_index, Vec}
use Rattle.std.specs.declared.alloc.Global.{Global}
use Rattle.std.specs.Option.{option_map_or}
use Rattle.syntax.specs.Tree.{Tree}
use Rattle.notation.specs.Waiting.{times}
use Rattle.notation.specs.Settled.{places_at}

-- the users of the assignment at the place
abbrev pub users_at : List (Vec ℕ Global) → ℕ → List ℕ
users_at users place = option_map_or (λ v. v.items) (slice_get users place) []

-- the users of each are those of the first assignments that refer to it, each as often as it does
pub record AreUsers (m : Tree) (bound : ℕ) (users : List (Vec ℕ Global)) : Type 0 where
  pub below : (used user : ℕ) → used < length users → user < bound → times user (users_at users used) ≡ times used (places_at m user)
  pub above : (used user : ℕ) → used < length users → bound ≤ user → times user (users_at users used) ≡ 0

-- each of the first assignments waits for all that it refers to
pub record AllWait (m : Tree) (bound : ℕ) (waiting : List ℕ) (users : List (Vec ℕ Global)) : Type 0 where
  pub long : length waiting ≡ bound
  pub counts : (place : ℕ) → place < bound → slice_index waiting place ≡ length (places_at m place)
  pub all_users : length users ≡ length m.assignments
  pub are_users : AreUsers m bound users

-- What is known of the names of a module while they are looked at one by one, each after those that it refers to.
use Rattle.std.specs.Prelude.{◌≡◌, ◌≤◌, ℕ, true, false, List, [], Option, Some, None, take, length, slice_get, Vec}
use Rattle.std.specs.declared.alloc.Global.{Global}
use Rattle.syntax.specs.Tree.{Form}
use Rattle.syntax.specs.View.{tree}
use Rattle.syntax.specs.declared.tree.Module.{Module}
use Rattle.notation.specs.Waiting.{is_among, left_of, AreWaiting}
use Rattle.notation.specs.Ordering.{AreUsers}
use Rattle.notation.specs.Settled.{places_at, known_at, MeansNothing}
use Rattle.notation.specs.declared.scope.Seen.{Seen}

-- the first of those that are ready are looked at: each of them of which nothing is known means nothing, and of all
-- others nothing is known yet
pub record IsSettling (m : Module) (seen : List (Option Seen)) (waiting : List ℕ) (users : List (Vec ℕ Global)) (ready : List ℕ) (turn : ℕ) : Type 0 where
  pub wait : AreWaiting (λ place. left_of (take turn ready) (places_at (tree m) place)) [] waiting ready
  pub long : length waiting ≡ length (tree m).assignments
  pub all_users : length users ≡ length (tree m).assignments
  pub are_users : AreUsers (tree m) (length (tree m).assignments) users
  pub within : turn ≤ length ready
  pub done : (place : ℕ) (a : List ℕ × Form) → is_among (take turn ready) place ≡ true → slice_get (tree m).assignments place ≡ Some a → known_at seen place ≡ None → MeansNothing (tree m) a.1
  pub rest : (place : ℕ) → is_among (take turn ready) place ≡ false → known_at seen place ≡ None

-- Contents octets of a NULL (X.690 8.8): none.
use Rattle.std.specs.Prelude.{◌≡◌, ℕ, List, []}

abbrev pub IsNull : List ℕ → Type 0
IsNull contents = contents ≡ []

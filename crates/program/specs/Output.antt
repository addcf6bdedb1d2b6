-- What a writer that is lent tells.
use Rattle.std.specs.Prelude.{ℕ, List, ◌∷◌, Option, option_map}

-- which writer it is, and then the writer's octets, where they are known: so a call over a sink is seen to leave
-- it with the same writer
abbrev pub with_name : ℕ → Option (List ℕ) → Option (List ℕ)
with_name name octets = option_map (λ known. name ∷ known) octets

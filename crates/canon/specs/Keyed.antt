-- Parts of a buffer with their first 16 octets as a number.
use Rattle.std.specs.Prelude.{◌≡◌, ℕ, List, ◌∷◌, drop}
use Rattle.canon.specs.Span.{part_of, key_of}
use Rattle.canon.specs.declared.spans.Span.{Span}
use Rattle.canon.specs.declared.spans.Keyed.{Keyed}

abbrev pub with_key : List ℕ → Span → Keyed ℕ
with_key buffer span = record { key = key_of 16 (part_of buffer span); span = span }

abbrev pub HasKey : List ℕ → Keyed ℕ → Type 0
HasKey buffer one = one.key ≡ key_of 16 (part_of buffer one.span)

-- what parts are compared by: the key, and the octets behind it
abbrev pub compared : List ℕ → Keyed ℕ → List ℕ
compared buffer one = one.key ∷ drop 16 (part_of buffer one.span)

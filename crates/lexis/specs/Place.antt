-- Places in a text, for messages: lines and columns from 1, in octets, where octet 10 alone ends a line.
use Rattle.std.specs.Prelude.{◌≡◌, ℕ, ◌+◌, List, take, ◌==◌, not, count_by}
use Rattle.std.specs.List.{suffix_len}

-- the line and the column behind the first n octets of x: how many octets 10 there are among them, and
-- how many others stand behind the last of these
pub record IsPlace (x : List ℕ) (n line column : ℕ) : Type 0 where
  pub in_line : line ≡ count_by (λ octet. octet == 10) (take n x) + 1
  pub in_column : column ≡ suffix_len (λ octet. not (octet == 10)) (take n x) + 1

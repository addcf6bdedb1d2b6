-- Octets of a module's text. White space and line ends are this project's own choice among those of
-- X.680, clause 12.
use Rattle.std.specs.Prelude.{ℕ, Bool, List, ◌||◌, ◌==◌, nat_eq}
use Rattle.std.specs.Int.{is_in_range}
use Rattle.std.specs.List.{starts_with}

-- the octet is white space: 9 to 13, or 32
abbrev pub is_white : ℕ → Bool
is_white octet = is_in_range 9 13 octet || octet == 32

-- the octet ends a line, for a comment and for a character string: 10 to 13
abbrev pub is_line_end : ℕ → Bool
is_line_end octet = is_in_range 10 13 octet

-- x begins with the octets of front
abbrev pub begins : List ℕ → List ℕ → Bool
begins front x = starts_with nat_eq x front

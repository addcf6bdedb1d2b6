-- What a type is at its root, behind names but not behind tags (X.680 31.2.7).
use Rattle.std.specs.Prelude.{Bool, true, false}
use Rattle.trim_rules.specs.declared.root.Root.{Root}
use Rattle.trim_rules.specs.declared.root.Root.TheVariants.{Open, Field, LeftOutString, Other}

-- whether a tag without a keyword is explicit in front of it
abbrev pub is_open : Root → Bool
is_open LeftOutString = false
is_open Other = false
is_open _ = true

-- whether values of any type may stand there
abbrev pub takes_any : Root → Bool
takes_any Open = true
takes_any Field = true
takes_any _ = false

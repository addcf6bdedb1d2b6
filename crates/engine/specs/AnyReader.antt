-- A reader by any of the rules, and what it stands at.
use Rattle.std.specs.Prelude.{ℕ, List}
use Rattle.octets.specs.Rule.{Rule, ber}
use Rattle.types.specs.Shape.{Shape}
use Rattle.engine.specs.declared.any_reader.AnyReader.{AnyReader}
use Rattle.engine.specs.declared.any_reader.AnyReader.TheVariants.{Ber, Strict}
use Rattle.engine.specs.Feeding.{StandsOpen}
use Rattle.engine.specs.Rule.{canonical_rule_of}
use Rattle.engine.specs.StrictReader.{StandsStrictly}

-- the rule that it reads by
abbrev pub read_rule : AnyReader → Rule
read_rule (Ber _) = ber
read_rule (Strict strict) = canonical_rule_of strict.rule

-- it is of this type, has refused nothing, and took these octets since no value was begun
abbrev pub StandsBy : Shape → AnyReader → List ℕ → Type 0
StandsBy shape (Ber reader) octets = StandsOpen shape reader octets
StandsBy shape (Strict strict) octets = StandsStrictly shape strict octets

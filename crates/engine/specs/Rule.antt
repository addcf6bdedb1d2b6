-- The encoding rules that the engine's names stand for.
use Rattle.octets.specs.Rule as encoding
use Rattle.engine.specs.declared.rule.Rule.{Rule}
use Rattle.engine.specs.declared.rule.Rule.TheVariants as reading
pub use Rattle.octets.specs.Rule.{rule_of as canonical_rule_of}

abbrev pub rule_of : Rule → encoding.Rule
rule_of reading.Ber = encoding.ber
rule_of reading.Cer = encoding.cer
rule_of reading.Der = encoding.der

-- CER and DER are the canonical rules.
use Rattle.octets.specs.declared.canonical.Canonical.{Canonical}
use Rattle.octets.specs.declared.canonical.Canonical.TheVariants.{Cer, Der}
use Rattle.octets.specs.Rule.{IsCanonical, cer, der, rule_of}

pub cer_is_canonical : IsCanonical cer
cer_is_canonical same = cc

pub der_is_canonical : IsCanonical der
der_is_canonical same = cc

pub rule_is_canonical : (rule : Canonical) → IsCanonical (rule_of rule)
rule_is_canonical Cer = cer_is_canonical
rule_is_canonical Der = der_is_canonical

use Rattle.std.proofs.Common.{◌∷◌, [], ◌++◌, length, true, ap, subst, arith, length-append}
use Rattle.types.specs.Form.{IsConstructed, IsIndefinite}
use Rattle.octets.specs.declared.canonical.Canonical.{Canonical}
use Rattle.octets.specs.Rule.{rule_of}
use Rattle.canon.proofs.sizes.size_of_constructed.Goals as goal

pub returns-in-Cer-clause-size : goal.returns-in-Cer-clause-size
returns-in-Cer-clause-size c = λ inside octets same k.
    let h : IsIndefinite c.args.tag inside octets = subst (λ (r : Canonical). IsConstructed (rule_of r) c.args.tag inside octets) c.in-Cer.is k in
    let front = c.size_of_identifier.ensures.size true h.identifier h.tagged in
    omega (arith, c.min.ensures, same, front, ap length h.joined, length-append h.identifier (128 ∷ (inside ++ (0 ∷ 0 ∷ []))), length-append inside (0 ∷ 0 ∷ []))

pub returns-in-Der-clause-size : goal.returns-in-Der-clause-size
returns-in-Der-clause-size c = λ inside octets same k.
    c.size_of_definite.ensures.size true inside octets same (subst (λ (r : Canonical). IsConstructed (rule_of r) c.args.tag inside octets) c.in-Der.is k)

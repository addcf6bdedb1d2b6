use Rattle.std.proofs.Common.{[], subst}
use Rattle.octets.specs.Rule.{rule_of}
use Rattle.types.specs.Strings.{octet_segment}
use Rattle.types.specs.View.{value_view}
use Rattle.primitives.specs.Bits.{IsPadded}
use Rattle.primitives.proofs.BitsLemmas.{one_padding}
use Rattle.canon.specs.Segments.{IsStringOf}
use Rattle.canon.proofs.LeafLemmas.{bits_put, octets_put, simply_leaf}
use Rattle.canon.proofs.SimpleLemmas.{simply_from_der}
use Rattle.canon.proofs.WritesLemmas.{written_by}
use Rattle.canon.proofs.leaf.put_leaf.Goals as goal

pub returns-in-Bits : goal.returns-in-Bits
returns-in-Bits c =
    let bits = c.in-Bits.bits in
    let string = c.octets.result.now in
    let unused = c.unused.result in
    let one = one_padding bits string c.unused.ensures.0 c.octets.ensures.0 unused c.octets.ensures.1 c.unused.ensures.1 in
    let padded : IsPadded bits string unused = subst (IsPadded bits string) one.unused c.octets.ensures.1 in
    written_by c.put_string.ensures (bits_put c.args.rule c.args.tag c.args.value.now bits unused string c.in-Bits.is c.requires.tag padded)

pub returns-in-Octets : goal.returns-in-Octets
returns-in-Octets c =
    written_by c.put_octets.ensures
    (λ b h. octets_put c.args.rule c.args.tag c.args.value.now c.in-Octets.octets c.in-Octets.is c.requires.tag c.requires.leaf b (subst (λ s. IsStringOf (rule_of c.args.rule) c.args.tag octet_segment [] [] s b) c.deref.ensures.value h))

pub returns-in-Boolean : goal.returns-in-Boolean
returns-in-Boolean c =
    let v = value_view c.args.value.now in
    written_by c.put_simple.ensures (λ b h. simply_leaf (rule_of c.args.rule) c.args.tag v b (simply_from_der c.args.rule c.args.tag v b h))

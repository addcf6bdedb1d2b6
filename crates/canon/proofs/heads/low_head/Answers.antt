use Rattle.std.proofs.Common.{◌∷◌, [], refl, arith}
use Rattle.canon.proofs.PrimitiveLemmas.{short_head}
use Rattle.canon.proofs.WordLemmas.{two_octets}
use Rattle.canon.proofs.heads.low_head.Goals as goal

pub returns-clause-head : goal.returns-clause-head
returns-clause-head c =
    let tag = c.args.tag in
    let n = c.args.contents in
    let first = c.leading_octet.result in
    let few = c.requires.short in
    record {
      octets = first ∷ n ∷ [];
      are = two_octets _ first n c.leading_octet.type_inv (omega (arith, few)) refl (omega (arith, c.from-first.ensures, c.leading_octet.type_inv, few));
      holds = short_head tag n first (omega (arith, c.requires.low)) few c.leading_octet.ensures;
    }

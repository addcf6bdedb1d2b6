use Rattle.std.proofs.Common.{Bool, take, subst, arith}
use Rattle.std.proofs.lemmas.Bool.{not-true}
use Rattle.octets.specs.Identifier.{IsIdentifier}
use Rattle.encoding_parts.proofs.HeadLemmas.{IsPrimitive-from_parts}
use Rattle.berslice.proofs.HeadLemmas.{short_length}
use Rattle.berslice.proofs.heads.behind.Goals as goal

pub returns-then-octets-at-lt128 : goal.returns-then-octets-at-lt128
returns-then-octets-at-lt128 c =
    let tag = c.args.identifier.tag in
    let i = c.args.identifier.octets in
    let octets = c.args.octets.now in
    let n = c.from.result in
    let tagged = subst (λ (form : Bool). IsIdentifier tag form (take i octets)) (not-true c.args.identifier.constructed c.if-not-identifier.true) c.requires.identifier in
    let sized = short_length n i octets c.if-at-octets.true c.if-octets-at-lt128.true (omega (arith, c.from.ensures)) in
    record {
      there = omega (arith, c.if-stop-octets.false);
      whole = IsPrimitive-from_parts tag i 1 n octets tagged sized (omega (arith, c.if-stop-octets.false));
    }
